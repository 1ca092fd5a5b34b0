use Rattle.std.proofs.Common.{◌≡◌, drop}
use Rattle.gx_intarr.specs.Arrays.{least}
use Rattle.gx_class_intset.specs.Intervals.{rises}
use Rattle.gx_class_intset.proofs.read.rise.Given as goal

abbrev pub invariant-loop-interval : goal.invariant-loop-interval
invariant-loop-interval l = rises least l.intervals ≡ rises l.floor (drop l.interval-index l.intervals)
