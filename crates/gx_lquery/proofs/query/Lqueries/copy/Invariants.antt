use Rattle.std.proofs.Common.{◌≡◌, take}
use Rattle.gx_lquery.proofs.query.Lqueries.copy.Given as goal

abbrev pub invariant-loop-query : goal.invariant-loop-query
invariant-loop-query l = l.copy ≡ take l.query-index l.query-items
