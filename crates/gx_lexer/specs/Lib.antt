pub mod Cut
pub mod Feeding
pub mod Letters
pub mod Lexemes
pub mod Names
pub mod Parts
pub mod Tokens
