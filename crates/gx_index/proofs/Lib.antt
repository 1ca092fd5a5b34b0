mod Among
mod Frames
mod IndexFacts
mod KeyRows
mod NullRows
mod Questions
pub mod ItemRows
