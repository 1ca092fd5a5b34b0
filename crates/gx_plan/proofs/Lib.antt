mod BindingLemmas
mod ChoosingLemmas
mod FindingLemmas
mod OperandLemmas
pub mod PlanLemmas
mod TruthLemmas
mod WordLemmas
mod Losing
