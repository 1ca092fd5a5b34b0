mod Adding
pub mod Bodies
mod Cutting
pub mod Finding
pub mod Laying
mod Moves
mod Stages
