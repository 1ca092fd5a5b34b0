mod JoinFacts
pub mod ReadFacts
