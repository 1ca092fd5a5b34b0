pub mod Causes
pub mod Image
pub mod Moments
pub mod PageMap
