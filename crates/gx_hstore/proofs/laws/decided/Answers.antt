use Rattle.gx_hstore.proofs.DecisionLemmas.{holds-Decides}
use Rattle.gx_hstore.proofs.laws.decided.Goals as goal

pub returns : goal.returns
returns c = holds-Decides
