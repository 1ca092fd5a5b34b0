pub mod Answers
pub mod Planned
pub mod Seen
pub mod Tables
pub mod Visitors
pub mod Walks
pub mod Wanted
