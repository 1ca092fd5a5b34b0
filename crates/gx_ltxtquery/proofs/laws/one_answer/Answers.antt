use Rattle.gx_ltxtquery.proofs.LawLemmas.{one_query}
use Rattle.gx_ltxtquery.proofs.laws.one_answer.Goals as goal

pub returns : goal.returns
returns c = one_query
