pub mod Lists
pub mod Gins
pub mod Searches
pub mod Removing
