use Rattle.std.proofs.Common.{◌≡◌, take}
use Rattle.gx_class_ltree.proofs.parts.path_of.Given as goal

abbrev pub invariant-loop-label : goal.invariant-loop-label
invariant-loop-label l = l.path ≡ take l.label-index l.labels
