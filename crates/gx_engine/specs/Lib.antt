pub mod Times
pub mod Engines
pub mod Lending
pub mod Vacuumed
