pub mod RunLemmas
pub mod ElementLemmas
pub mod TextLemmas
pub mod ArrayLemmas
pub mod NumberLemmas
pub mod EncodingLemmas
pub mod PrintLemmas
pub mod DigitLemmas
mod QueryLemmas
pub mod OperatorLemmas
