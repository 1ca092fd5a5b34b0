use Rattle.std.proofs.Common.{◌≡◌, take}
use Rattle.gx_ltree.proofs.path.Path.copy.Given as goal

abbrev pub invariant-loop-label : goal.invariant-loop-label
invariant-loop-label l = l.path ≡ take l.label-index l.label-items
