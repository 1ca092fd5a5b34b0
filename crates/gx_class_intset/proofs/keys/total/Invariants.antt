use Rattle.std.proofs.Common.{◌≡◌, ◌≤◌, ◌*◌, ◌^◌, take}
use Rattle.gx_class_intset.specs.Intervals.{total}
use Rattle.gx_class_intset.proofs.keys.total.Given as goal

abbrev pub invariant-loop-interval : goal.invariant-loop-interval
invariant-loop-interval l = (l.sum ≡ total (take l.interval-index l.intervals)) × (l.sum ≤ l.interval-index * 2 ^ 32)
