pub mod OrderFacts
mod SplitFacts
