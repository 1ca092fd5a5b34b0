use Rattle.std.proofs.Common.{◌≡◌, ◌++◌, take}
use Rattle.gx_class_intset.specs.Spellings.{pieces}
use Rattle.gx_class_intset.proofs.spell.push_pieces.Given as goal

abbrev pub invariant-loop-interval : goal.invariant-loop-interval
invariant-loop-interval l = l.to ≡ l.initial.to ++ pieces (take l.interval-index l.intervals)
