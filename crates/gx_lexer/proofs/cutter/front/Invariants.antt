use Rattle.gx_lexer.proofs.FeedFacts.{FrontAt}
use Rattle.gx_lexer.proofs.cutter.front.Given as goal

abbrev pub invariant-loop-i : goal.invariant-loop-i
invariant-loop-i l = FrontAt l.fn.mode l.bytes l.i l.open
