use Rattle.std.proofs.Common.{◌≡◌}
use Rattle.index_tests.proofs.searches.fill.Given as goal

abbrev pub invariant-loop-row : goal.invariant-loop-row
invariant-loop-row g l = l.index.kept ≡ l.fn.index.kept
