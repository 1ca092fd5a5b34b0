pub mod Doing
pub mod Opened
