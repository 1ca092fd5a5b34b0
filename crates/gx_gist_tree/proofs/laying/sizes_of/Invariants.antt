use Rattle.std.proofs.Common.{◌≡◌, ◌+◌, length, map, take}
use Rattle.gx_gist_tree.proofs.laying.sizes_of.Given as goal

abbrev pub invariant-loop-item : goal.invariant-loop-item
invariant-loop-item l = l.sizes ≡ map (λ item. 4 + length item) (take l.item-index l.items)
