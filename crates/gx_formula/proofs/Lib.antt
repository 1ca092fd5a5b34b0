pub mod MachineLemmas
pub mod TokenLemmas
pub mod AnswerLemmas
pub mod StepLemmas
pub mod ReadLemmas
pub mod TruthLemmas
