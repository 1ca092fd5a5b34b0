pub mod Candidates
pub mod Queries
pub mod Laws
