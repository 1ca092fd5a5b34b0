pub mod Appended
pub mod Faults
