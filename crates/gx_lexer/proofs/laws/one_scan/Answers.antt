use Rattle.gx_lexer.proofs.LexemeFacts as facts
use Rattle.gx_lexer.proofs.laws.one_scan.Goals as goal

pub returns : goal.returns
returns c = λ piece tokens. (facts.spelled_from piece tokens, facts.scanned piece tokens)
