pub mod PartFacts
pub mod PutFacts
pub mod ReadFacts
pub mod SlotFacts
pub mod TableFacts
