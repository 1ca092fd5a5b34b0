pub mod Value
pub mod Text
pub mod Encoding
pub mod Operators
pub mod Decisions
