use Rattle.gx_ltree.proofs.OperatorLemmas.{decided}
use Rattle.gx_ltree.proofs.laws.holds_decided.Goals as goal

pub returns : goal.returns
returns c = decided
