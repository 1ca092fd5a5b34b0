use Rattle.std.proofs.Common.{length}
use Rattle.gx_posting.proofs.PostingFacts.{Passed}
use Rattle.gx_posting.proofs.read.push_rows.Given as goal

abbrev pub invariant-rows : goal.invariant-rows
invariant-rows l = Passed l.bytes l.initial.to l.to l.before l.rest

abbrev pub decreases-rows : goal.decreases-rows
decreases-rows l = length l.rest
