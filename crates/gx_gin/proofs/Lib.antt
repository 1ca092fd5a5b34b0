pub mod Cuts
pub mod RisingFacts
