pub mod Merges
pub mod Scans
