use Rattle.std.proofs.Common.{◌≡◌, ◌++◌, drop}
use Rattle.gx_class_intset.specs.Intervals.{put}
use Rattle.gx_class_intset.proofs.put.put_in.Given as goal

abbrev pub invariant-loop-at : goal.invariant-loop-at
invariant-loop-at l = put l.fn.interval l.others ≡ l.made.items ++ put l.added (drop l.at l.others)
