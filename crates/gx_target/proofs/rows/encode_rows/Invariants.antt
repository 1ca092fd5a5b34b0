use Rattle.std.proofs.Common.{drop}
use Rattle.gx_target.specs.Places.{columns_at}
use Rattle.gx_target.proofs.RowFacts.{Encoding}
use Rattle.gx_target.proofs.rows.encode_rows.Given as goal

abbrev pub invariant-loop-row : goal.invariant-loop-row
invariant-loop-row l = Encoding l.columns (columns_at l.columns l.places) l.rows l.next l.all l.number (drop l.row-index l.rows)
