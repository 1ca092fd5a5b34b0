pub mod DecisionLemmas
pub mod OneOperand
pub mod QueryLemmas
pub mod ResolvingLemmas
