use Rattle.std.proofs.Common.{refl}
use Rattle.gx_value.specs.declared.types.ColumnType.TheVariants as column
use Rattle.index_tests.proofs.searches.arrays_found.Goals as goal

pub search-requires-clause-column : goal.search-requires-clause-column
search-requires-clause-column c = (column.Int4Array, refl, refl)

pub search-requires-2-clause-column : goal.search-requires-2-clause-column
search-requires-2-clause-column c = (column.Int4Array, refl, refl)
