pub mod Values
pub mod Texts
pub mod Encodings
pub mod Operators
