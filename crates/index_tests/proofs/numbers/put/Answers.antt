use Rattle.std.proofs.Common.{◌≡◌, true, refl, sym, subst}
use Rattle.gx_value.specs.declared.types.ColumnType.TheVariants as column
use Rattle.gx_value.specs.Classes.{takes}
use Rattle.gx_candidates.specs.Laws.{scalar_class}
use Rattle.index_tests.proofs.numbers.put.Goals as goal

pub put-requires-2-clause-value : goal.put-requires-2-clause-value
put-requires-2-clause-value c = (column.Int4, subst (λ k. takes (scalar_class k) column.Int4 ≡ true) (sym c.requires) refl, c.in_ok-scalar.ensures)
