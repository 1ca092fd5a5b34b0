pub mod BoundLemmas
pub mod EncodingLemmas
pub mod PrintLemmas
pub mod TextLemmas
pub mod DecisionLemmas
