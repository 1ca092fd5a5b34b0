use Rattle.gx_catalog.proofs.Staying.{catalog_beside}
use Rattle.gx_catalog.proofs.laws.catalog_stays.Goals as goal

pub returns : goal.returns
returns g c = catalog_beside g.P.Pages
