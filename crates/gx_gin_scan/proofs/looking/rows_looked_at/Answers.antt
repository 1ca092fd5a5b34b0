use Rattle.std.proofs.lemmas.Result.{on_ok_weaker}
use Rattle.gx_gin_scan.proofs.looking.rows_looked_at.Goals as goal

pub returns-in-IncludeEmpty-clause-rows : goal.returns-in-IncludeEmpty-clause-rows
returns-in-IncludeEmpty-clause-rows g c = let mode = c.in-IncludeEmpty.is in rw mode c.with_empty.ensures.rows

pub returns-in-IncludeEmpty-clause-fetches : goal.returns-in-IncludeEmpty-clause-fetches
returns-in-IncludeEmpty-clause-fetches g c = let mode = c.in-IncludeEmpty.is in rw mode (on_ok_weaker c.with_empty.result (λ few other. few) c.with_empty.ensures.fetches)

pub returns-in-All-clause-rows : goal.returns-in-All-clause-rows
returns-in-All-clause-rows g c = let mode = c.in-All.is in rw mode c.every_row.ensures.rows
