use Rattle.gx_catalog.proofs.Staying.{stores_same}
use Rattle.gx_catalog.proofs.laws.same_catalog.Goals as goal

pub returns : goal.returns
returns c = stores_same
