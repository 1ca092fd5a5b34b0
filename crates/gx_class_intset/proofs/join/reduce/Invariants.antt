use Rattle.std.proofs.Common.{◌≡◌}
use Rattle.gx_class_intset.specs.Intervals.{joins}
use Rattle.gx_class_intset.proofs.join.reduce.Given as goal

abbrev pub invariant-loop-done : goal.invariant-loop-done
invariant-loop-done l = l.intervals.items ≡ joins l.done l.initial.intervals.items
