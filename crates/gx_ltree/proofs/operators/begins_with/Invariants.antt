use Rattle.std.proofs.Common.{◌↔◌, length}
use Rattle.gx_ltree.specs.Operators.{IsPrefix}
use Rattle.gx_ltree.proofs.operators.begins_with.Given as goal

abbrev pub invariant-loop-a : goal.invariant-loop-a
invariant-loop-a l = IsPrefix l.a l.b ↔ IsPrefix l.front l.path

abbrev pub decreases-loop-a : goal.decreases-loop-a
decreases-loop-a l = length l.a
