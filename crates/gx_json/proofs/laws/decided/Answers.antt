use Rattle.gx_json.proofs.DecisionLemmas.{holds-Decides}
use Rattle.gx_json.proofs.laws.decided.Goals as goal

pub returns : goal.returns
returns c = holds-Decides
