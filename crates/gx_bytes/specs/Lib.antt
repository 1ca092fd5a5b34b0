pub mod Blanks
pub mod Days
pub mod Fields
pub mod Hash
pub mod Varints
pub mod Wholes
