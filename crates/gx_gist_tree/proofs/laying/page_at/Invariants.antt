use Rattle.std.proofs.Common.{◌≡◌, take}
use Rattle.gx_gist_tree.specs.Insertion.{page_with, picked}
use Rattle.gx_gist_tree.proofs.laying.page_at.Given as goal

abbrev pub invariant-loop-k : goal.invariant-loop-k
invariant-loop-k l = l.slots ≡ page_with l.level (picked l.items (take l.k l.places))
