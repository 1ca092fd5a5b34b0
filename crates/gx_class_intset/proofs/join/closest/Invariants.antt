use Rattle.std.proofs.Common.{◌≡◌, ◌+◌, ◌<◌, drop, length}
use Rattle.gx_class_intset.specs.Intervals.{gaps, first_least}
use Rattle.gx_class_intset.proofs.join.closest.Given as goal

abbrev pub invariant-loop-at : goal.invariant-loop-at
invariant-loop-at l = (l.best ≡ l.at + first_least (drop l.at (gaps l.intervals))) × (l.best + 1 < length l.intervals)
