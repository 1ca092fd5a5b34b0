pub mod Beside
pub mod Counted
pub mod Indexed
pub mod Items
pub mod Kept
pub mod Nulls
pub mod Questions
