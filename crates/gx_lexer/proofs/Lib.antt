mod CutFacts
mod CutLaw
mod FeedFacts
mod LexemeFacts
mod OperatorFacts
mod QuoteFacts
mod ScanFacts
mod WordFacts
