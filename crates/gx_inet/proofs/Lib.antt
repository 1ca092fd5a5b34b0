pub mod DecisionLemmas
mod Slashes
mod Masks
mod TextLemmas
