pub mod Words
pub mod Formula
pub mod Text
pub mod Operators
pub mod Laws
