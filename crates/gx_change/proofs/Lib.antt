pub mod Frame
pub mod Refused
pub mod Changed
mod Names
mod NewRows
mod Filling
mod Indexes
mod Effects
