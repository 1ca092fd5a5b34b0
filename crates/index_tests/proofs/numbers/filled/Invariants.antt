use Rattle.std.proofs.Common.{◌≡◌}
use Rattle.gx_scalar.specs.declared.scalar.ScalarKind.TheVariants.{Int4}
use Rattle.index_tests.proofs.numbers.filled.Given as goal

abbrev pub invariant-loop-number : goal.invariant-loop-number
invariant-loop-number l = l.index.kept.class.kind ≡ Int4
