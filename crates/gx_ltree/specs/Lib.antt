pub mod Label
pub mod Path
pub mod Text
pub mod Operators
