use Rattle.std.proofs.Common.{length}
use Rattle.gx_posting.proofs.PostingFacts.{HasPassed}
use Rattle.gx_posting.proofs.read.last_posting.Given as goal

abbrev pub invariant-rows : goal.invariant-rows
invariant-rows l = HasPassed l.bytes l.last l.before l.rest

abbrev pub decreases-rows : goal.decreases-rows
decreases-rows l = length l.rest
