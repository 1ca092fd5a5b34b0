use Rattle.gx_intarr.proofs.QueryLemmas.{one_query}
use Rattle.gx_intarr.proofs.laws.one_query_answer.Goals as goal

pub returns : goal.returns
returns c = one_query
