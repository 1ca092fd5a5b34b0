use Rattle.gx_catalog.proofs.Growing.{index_there, named_there, numbered_there}
use Rattle.gx_catalog.proofs.laws.found_among.Goals as goal

pub returns : goal.returns
returns c = record { named = named_there; numbered = numbered_there; index = index_there }
