pub mod RowLemmas
pub mod NumberLemmas
pub mod TableLemmas
pub mod ValidLemmas
pub mod OneRow
pub mod Printed
pub mod OneAnswer
