use Rattle.gx_catalog.proofs.Growing.{own_index, own_named, own_numbered}
use Rattle.gx_catalog.proofs.laws.own_found.Goals as goal

pub returns : goal.returns
returns c = record { named = own_named; numbered = own_numbered; index = own_index }
