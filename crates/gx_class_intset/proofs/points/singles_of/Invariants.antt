use Rattle.std.proofs.Common.{◌≡◌, take, map}
use Rattle.gx_class_intset.specs.Intervals.{single}
use Rattle.gx_class_intset.proofs.points.singles_of.Given as goal

abbrev pub invariant-loop-number : goal.invariant-loop-number
invariant-loop-number l = l.made.items ≡ map single (take l.number-index l.numbers)
