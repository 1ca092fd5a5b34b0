use Rattle.gx_chain.proofs.Stays.{stays_beside}
use Rattle.gx_chain.proofs.laws.chain_stays.Goals as goal

pub returns : goal.returns
returns g c = stays_beside g.P.Pages
