use Rattle.gx_lquery.proofs.Step.{HasStepped}
use Rattle.gx_lquery.proofs.operators.next_row.Given as goal

abbrev pub invariant-loop-at : goal.invariant-loop-at
invariant-loop-at l = HasStepped l.item l.path l.row l.start l.last l.at l.next.items
