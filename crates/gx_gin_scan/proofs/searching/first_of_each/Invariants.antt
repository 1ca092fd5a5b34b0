use Rattle.gx_gin_scan.proofs.Walked.{Firsts}
use Rattle.gx_gin_scan.proofs.searching.first_of_each.Given as goal

abbrev pub invariant-loop-row : goal.invariant-loop-row
invariant-loop-row l = Firsts l.rows l.found l.row-index
