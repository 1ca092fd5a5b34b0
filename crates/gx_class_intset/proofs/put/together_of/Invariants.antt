use Rattle.std.proofs.Common.{◌≡◌, take}
use Rattle.gx_class_intset.specs.Intervals.{together}
use Rattle.gx_class_intset.proofs.put.together_of.Given as goal

abbrev pub invariant-loop-interval : goal.invariant-loop-interval
invariant-loop-interval l = l.made.items ≡ together l.fn.a (take l.interval-index l.b)
