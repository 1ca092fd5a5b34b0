use Rattle.std.proofs.lemmas.Result.{IfOk-weaker, on_ok_weaker}
use Rattle.gx_index.specs.Indexed.{nulls_of}
use Rattle.gx_index.proofs.NullRows.{broken_weaker}
use Rattle.gx_index.proofs.indexed.Indexed.find_nulls.Goals as goal

pub returns-clause-found : goal.returns-clause-found
returns-clause-found g c = IfOk-weaker c.find_nulls.result _ _ (λ found is tells rows feet h. is tells (nulls_of rows) h.others h.null) c.find_nulls.ensures.found

pub returns-clause-cause : goal.returns-clause-cause
returns-clause-cause g c = broken_weaker c.find_nulls.result _ _ _ _ _ _ (λ at x y none tells rows feet h. none tells (nulls_of rows) h.others h.null) c.find_nulls.ensures.cause

pub returns-clause-fetches : goal.returns-clause-fetches
returns-clause-fetches g c = on_ok_weaker c.find_nulls.result (λ few tells rows feet h. few tells (nulls_of rows) h.others h.null) c.find_nulls.ensures.fetches
