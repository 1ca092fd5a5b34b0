use Rattle.std.proofs.Common.{length}
use Rattle.gx_lexer.proofs.FeedFacts.{Progress}
use Rattle.gx_lexer.proofs.cutter.Cutter.take.Given as goal

abbrev pub invariant-ends : goal.invariant-ends
invariant-ends l = Progress l.initial.self l.self l.chunk l.rest l.initial.to l.to

abbrev pub decreases-ends : goal.decreases-ends
decreases-ends l = length l.rest
