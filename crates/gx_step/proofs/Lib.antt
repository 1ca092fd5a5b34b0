pub mod Found
pub mod Names
pub mod Loading
pub mod Ordinary
pub mod Same
