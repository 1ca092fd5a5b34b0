pub mod Formula
pub mod Tokens
pub mod Grammar
pub mod Machine
