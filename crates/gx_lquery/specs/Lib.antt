pub mod Matching
pub mod Places
pub mod Text
pub mod Query
pub mod Tests
