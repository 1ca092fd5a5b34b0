pub mod Numbers
pub mod PostingTrees
pub mod Removing
pub mod Spelled
