use Rattle.std.proofs.Common.{◌≡◌, length}
use Rattle.gx_class_ltree.specs.Tests.{cut_order}
use Rattle.gx_class_ltree.proofs.tests_of_paths.cut_order.Given as goal

abbrev pub invariant-loop-b : goal.invariant-loop-b
invariant-loop-b l = cut_order l.a l.b ≡ cut_order l.part l.path

abbrev pub decreases-loop-b : goal.decreases-loop-b
decreases-loop-b l = length l.b
