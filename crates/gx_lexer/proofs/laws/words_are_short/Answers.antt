use Rattle.gx_lexer.proofs.WordFacts as facts
use Rattle.gx_lexer.proofs.laws.words_are_short.Goals as goal

pub returns : goal.returns
returns c = facts.words_are_short
