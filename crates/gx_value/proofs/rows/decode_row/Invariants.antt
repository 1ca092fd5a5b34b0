use Rattle.std.proofs.Common.{drop}
use Rattle.gx_value.specs.Values.{row_of}
use Rattle.gx_value.proofs.RowLemmas.{Read}
use Rattle.gx_value.proofs.rows.decode_row.Given as goal

abbrev pub invariant-loop-kind : goal.invariant-loop-kind
invariant-loop-kind l = Read l.kinds l.bytes (row_of l.fields) (drop l.kind-index l.kinds) l.rest
