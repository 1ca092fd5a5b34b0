pub mod Areas
pub mod Events
pub mod MemoryHosts
pub mod Numbers
pub mod Picks
pub mod Vectors
