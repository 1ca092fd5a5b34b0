pub mod Places
pub mod Encoded
pub mod Lines
