pub mod Lists
pub mod CastFacts
pub mod ColumnFacts
pub mod LineFacts
pub mod PlaceFacts
pub mod RowFacts
pub mod TargetFacts
pub mod ValueFacts
