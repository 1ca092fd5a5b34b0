pub mod Broken
pub mod Disks
pub mod Places
pub mod Records
