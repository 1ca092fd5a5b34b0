use Rattle.gx_chain.proofs.Stays.{holds_same}
use Rattle.gx_chain.proofs.laws.same_chain.Goals as goal

pub returns : goal.returns
returns c = holds_same
