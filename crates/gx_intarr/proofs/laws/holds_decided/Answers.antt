use Rattle.gx_intarr.proofs.OperatorLemmas.{decided}
use Rattle.gx_intarr.proofs.laws.holds_decided.Goals as goal

pub returns : goal.returns
returns c = decided
