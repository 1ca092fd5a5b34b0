use Rattle.std.proofs.Common.{◌≡◌, ◌≤◌, ◌++◌, ℕ, List, Some, length, map, take, drop}
use Rattle.gx_tree.proofs.gathering.push_slots.Given as goal

abbrev pub invariant-loop-slot : goal.invariant-loop-slot
invariant-loop-slot l = (items : List (List ℕ)) → l.slots.items ≡ map (λ item. Some item) items → l.from ≤ l.end → l.end ≤ length items → l.to ≡ l.fn.to ++ drop l.from (take l.slot items)
