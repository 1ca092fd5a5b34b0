pub mod WordLemmas
pub mod LawLemmas
