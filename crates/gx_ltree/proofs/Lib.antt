pub mod LabelLemmas
pub mod TextLemmas
pub mod Progress
mod ListSteps
pub mod OperatorLemmas
