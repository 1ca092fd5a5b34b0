mod Causes
pub mod Emptiness
mod FreePages
mod Giving
pub mod Headers
mod Maps
mod Parts
mod Restoring
pub mod Rising
pub mod Footprints
mod Sorting
mod Spelling
pub mod Taking
