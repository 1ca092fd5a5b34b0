pub mod Tests
pub mod ItemLaws
pub mod Laws
