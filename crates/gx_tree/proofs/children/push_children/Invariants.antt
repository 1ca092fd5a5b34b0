use Rattle.std.proofs.Common.{◌≡◌, ◌++◌, ℕ, ◌<◌, ◌^◌, List, map, take}
use Rattle.std.specs.List.{AllByRecursion}
use Rattle.gx_tree.specs.Trees.{link}
use Rattle.gx_tree.proofs.children.push_children.Given as goal

abbrev pub invariant-loop-slot : goal.invariant-loop-slot
invariant-loop-slot l = (items : List (List ℕ × ℕ)) → l.slots.items ≡ map link items → AllByRecursion (λ item. item.1 < 2 ^ 64) items
    → l.to.items ≡ l.fn.to.items ++ map (λ item. item.1) (take l.slot items)
