pub mod Orders
pub mod Keys
pub mod Tests
pub mod Growths
pub mod Laws
pub mod Spellings
pub mod Sorting
pub mod Readings
