pub mod EntryTrees
pub mod Keys
pub mod Lists
pub mod Listed
