use Rattle.gx_inet.proofs.DecisionLemmas.{holds-Decides}
use Rattle.gx_inet.proofs.laws.decided.Goals as goal

pub returns : goal.returns
returns c = holds-Decides
