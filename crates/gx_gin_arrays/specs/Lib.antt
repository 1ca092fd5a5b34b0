pub mod Numbers
pub mod Placed
pub mod Tests
pub mod NumberLaws
pub mod Laws
