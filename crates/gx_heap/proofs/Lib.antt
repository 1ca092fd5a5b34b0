mod Behind
mod Entries
pub mod Finds
mod Heaps
mod Removes
mod Rows
mod Runs
mod Standing
mod Sweeps
mod Turns
