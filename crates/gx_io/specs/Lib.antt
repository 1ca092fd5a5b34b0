pub mod Memory
pub mod Source
