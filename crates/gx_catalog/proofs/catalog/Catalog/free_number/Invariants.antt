use Rattle.std.proofs.Common.{ℕ, ◌<◌}
use Rattle.gx_catalog.specs.Validity.{HasNumber}
use Rattle.gx_catalog.proofs.catalog.Catalog.free_number.Given as goal

abbrev pub invariant-loop-number : goal.invariant-loop-number
invariant-loop-number l = (n : ℕ) → 0 < n → n < l.number → HasNumber n l.tables
