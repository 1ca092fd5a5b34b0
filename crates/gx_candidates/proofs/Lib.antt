pub mod Asked
mod AskedScalars
pub mod Sees
pub mod Seen
