use Rattle.gx_chain.proofs.Stays.{empty_holds}
use Rattle.gx_chain.proofs.laws.empty_chain.Goals as goal

pub returns : goal.returns
returns c = empty_holds
