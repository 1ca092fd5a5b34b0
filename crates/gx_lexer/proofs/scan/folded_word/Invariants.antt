use Rattle.gx_lexer.proofs.ScanFacts.{FoldedTo}
use Rattle.gx_lexer.proofs.scan.folded_word.Given as goal

abbrev pub invariant-loop-i : goal.invariant-loop-i
invariant-loop-i l = FoldedTo l.word l.others l.first l.i
