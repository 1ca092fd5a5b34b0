pub mod Keys
pub mod Tests
pub mod Orders
pub mod Laws
pub mod Sorting
pub mod KeyLaws
pub mod Spellings
