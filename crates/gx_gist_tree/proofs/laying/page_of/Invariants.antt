use Rattle.std.proofs.Common.{◌≡◌, take}
use Rattle.gx_gist_tree.specs.Insertion.{page_with}
use Rattle.gx_gist_tree.proofs.laying.page_of.Given as goal

abbrev pub invariant-loop-item : goal.invariant-loop-item
invariant-loop-item l = l.slots ≡ page_with l.level (take l.item-index l.items)
