use Rattle.std.proofs.Common.{◌≡◌, true, refl, sym, subst}
use Rattle.gx_value.specs.declared.types.ColumnType.TheVariants as column
use Rattle.gx_value.specs.Classes.{takes}
use Rattle.gx_candidates.specs.Laws.{scalar_class}
use Rattle.index_tests.proofs.searches.numbers_found.Goals as goal

pub search-requires-clause-column : goal.search-requires-clause-column
search-requires-clause-column c = (column.Int4, subst (λ k. takes (scalar_class k) column.Int4 ≡ true) (sym c.requires) refl, refl)

pub search-requires-2-clause-column : goal.search-requires-2-clause-column
search-requires-2-clause-column c = (column.Int4, subst (λ k. takes (scalar_class k) column.Int4 ≡ true) (sym c.requires) refl, refl)
