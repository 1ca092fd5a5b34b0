use Rattle.std.proofs.Common.{◌≡◌, length}
use Rattle.gx_ltree.specs.Operators.{order}
use Rattle.gx_class_ltree.proofs.tests_of_paths.compare_labels.Given as goal

abbrev pub invariant-loop-a : goal.invariant-loop-a
invariant-loop-a l = order l.a l.b ≡ order l.left l.right

abbrev pub decreases-loop-a : goal.decreases-loop-a
decreases-loop-a l = length l.a
