use Rattle.std.proofs.Common.{◌≡◌, ◌++◌, take}
use Rattle.gx_ltree.specs.Text.{dots}
use Rattle.gx_ltree.proofs.print.print_more.Given as goal

abbrev pub invariant-loop-label : goal.invariant-loop-label
invariant-loop-label l = l.to ≡ l.initial.to ++ dots (take l.label-index l.labels)
