mod VariantLemmas
mod RunLemmas
mod RowLemmas
mod Step
mod Rows
mod SplitLemmas
mod TextLemmas
mod ValidLemmas
pub mod TestLemmas
