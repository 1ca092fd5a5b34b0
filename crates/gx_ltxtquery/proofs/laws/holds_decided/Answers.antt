use Rattle.gx_ltxtquery.proofs.LawLemmas.{operators_decided}
use Rattle.gx_ltxtquery.proofs.laws.holds_decided.Goals as goal

pub returns : goal.returns
returns c = operators_decided
