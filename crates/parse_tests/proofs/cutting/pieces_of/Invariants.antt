use Rattle.std.proofs.Common.{◌≡◌, false}
use Rattle.parse_tests.proofs.cutting.pieces_of.Given as goal

abbrev pub invariant-loop-chunk : goal.invariant-loop-chunk
invariant-loop-chunk l = l.cutter.spoiled ≡ false
