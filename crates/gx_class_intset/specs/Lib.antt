pub mod IntervalLaws
pub mod JoinLaws
pub mod Intervals
pub mod Keys
pub mod Laws
pub mod NumberLaws
pub mod Spellings
pub mod Tests
