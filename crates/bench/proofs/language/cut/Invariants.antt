use Rattle.std.proofs.Common.{◌≡◌, false}
use Rattle.bench.proofs.language.cut.Given as goal

abbrev pub invariant-loop-chunk : goal.invariant-loop-chunk
invariant-loop-chunk l = l.cutter.spoiled ≡ false
