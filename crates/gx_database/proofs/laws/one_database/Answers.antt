use Rattle.gx_database.proofs.OneMap.{one_map}
use Rattle.gx_database.proofs.laws.one_database.Goals as goal

pub returns : goal.returns
returns c = one_map c.one_row.ensures.row c.one_catalog.ensures
