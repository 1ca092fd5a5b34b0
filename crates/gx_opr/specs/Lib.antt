pub mod Decisions
pub mod Literals
pub mod Operands
pub mod Operators
pub mod Resolving
