pub mod Types
pub mod Operators
pub mod Classes
pub mod Values
pub mod Literals
pub mod Rows
