pub mod Pairs
pub mod TextLemmas
