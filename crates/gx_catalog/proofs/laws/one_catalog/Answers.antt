use Rattle.gx_catalog.proofs.Stored.{one_stored}
use Rattle.gx_catalog.proofs.laws.one_catalog.Goals as goal

pub returns : goal.returns
returns c = one_stored
