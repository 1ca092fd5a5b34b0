use Rattle.std.proofs.Common.{◌≡◌, ◌≤◌, ◌++◌, ℕ, List, Some, length, map, take, drop}
use Rattle.gx_gin_entry.proofs.removing.push_slots.Given as goal

abbrev pub invariant-loop-slot : goal.invariant-loop-slot
invariant-loop-slot l = (items : List (List ℕ)) → l.slots.items ≡ map (λ item. Some item) items → l.from ≤ l.end → l.end ≤ length items
    → l.to ≡ record l.fn.to { items = l.fn.to.items ++ map (λ item. Some item) (drop l.from (take l.slot items)) }
