pub mod Items
pub mod Paths
pub mod Steps
pub mod Tests
pub mod ItemLaws
pub mod PathLaws
pub mod StepLaws
pub mod Laws
