use Rattle.gx_catalog.proofs.Staying.{empty_stored}
use Rattle.gx_catalog.proofs.laws.empty_catalog.Goals as goal

pub returns : goal.returns
returns c = empty_stored
