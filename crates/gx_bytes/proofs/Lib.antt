pub mod BlankLemmas
pub mod DayLemmas
pub mod SingleAnswers
pub mod SixteenBytes
pub mod Spellings
pub mod WholeLemmas
pub mod Years
