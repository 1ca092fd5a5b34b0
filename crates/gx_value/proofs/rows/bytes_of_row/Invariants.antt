use Rattle.std.proofs.Common.{drop}
use Rattle.gx_value.specs.Values.{row_of}
use Rattle.gx_value.proofs.RowLemmas.{Written}
use Rattle.gx_value.proofs.rows.bytes_of_row.Given as goal

abbrev pub invariant-loop-value : goal.invariant-loop-value
invariant-loop-value l = Written (row_of l.values) l.bytes (row_of (drop l.value-index l.values))
