use Rattle.gx_catalog.proofs.Growing.{bare_none, none_bare}
use Rattle.gx_catalog.proofs.laws.none_counted.Goals as goal

pub returns : goal.returns
returns c = record { bare = none_bare; none = bare_none }
