pub mod PostingFacts
