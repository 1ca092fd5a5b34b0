pub mod Items
pub mod Tests
pub mod ListLaws
pub mod FlagLaws
pub mod ShortLaws
