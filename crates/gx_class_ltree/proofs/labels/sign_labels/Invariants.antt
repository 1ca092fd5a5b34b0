use Rattle.std.proofs.Common.{◌≡◌, take}
use Rattle.gx_class_ltree.specs.Keys.{labels_key}
use Rattle.gx_class_ltree.proofs.labels.sign_labels.Given as goal

abbrev pub invariant-loop-label : goal.invariant-loop-label
invariant-loop-label g l = l.sig ≡ labels_key g.row.N (take l.label-index l.labels)
