pub mod Encoding
pub mod Map
pub mod Printing
pub mod Steps
pub mod Text
pub mod Parts
pub mod Operators
pub mod Decisions
