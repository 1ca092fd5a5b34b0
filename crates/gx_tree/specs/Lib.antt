pub mod Changing
pub mod Dropping
pub mod Finding
pub mod Orders
pub mod Paging
pub mod Spans
pub mod Trees
