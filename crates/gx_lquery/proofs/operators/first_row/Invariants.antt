use Rattle.gx_lquery.specs.Places.{IsFirstRow}
use Rattle.gx_lquery.proofs.operators.first_row.Given as goal

abbrev pub invariant-loop : goal.invariant-loop
invariant-loop l = IsFirstRow l.counter l.row.items
