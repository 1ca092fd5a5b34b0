use Rattle.std.proofs.Common.{◌≡◌, ◌++◌, ◌-◌, take, drop}
use Rattle.gx_gist_tree.specs.Insertion.{items_in}
use Rattle.gx_gist_tree.proofs.laying.push_items.Given as goal

abbrev pub invariant-loop-slot : goal.invariant-loop-slot
invariant-loop-slot l = l.items ≡ l.fn.items ++ items_in (take (l.slot - l.from) (drop l.from l.slots.items))
