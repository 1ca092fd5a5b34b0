pub mod Finding
mod Tables
pub mod Stepping
mod Turning
mod Literals
mod OneTurn
mod Lists
mod NewRows
mod StaysValid
mod TurnsValid
mod OneCost
mod TruthLemmas
mod OneRun
mod Coming
mod ComingRows
mod EachTurn
pub mod WholePlans
