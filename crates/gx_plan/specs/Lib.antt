pub mod Bindings
pub mod Bounds
pub mod Indexes
pub mod Losing
pub mod Plans
