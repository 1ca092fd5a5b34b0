pub mod Values
pub mod Bounds
pub mod Texts
pub mod Encodings
pub mod Operators
pub mod Decisions
