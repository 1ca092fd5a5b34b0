pub mod Keys
pub mod Tests
pub mod Growths
pub mod Sorting
pub mod Laws
pub mod Spellings
