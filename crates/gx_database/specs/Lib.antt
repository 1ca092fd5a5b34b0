pub mod Heaps
pub mod Parts
pub mod Standing
pub mod Places
