mod PartFacts
mod PrefixFacts
mod ReadFacts
