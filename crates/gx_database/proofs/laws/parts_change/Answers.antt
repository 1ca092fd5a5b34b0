use Rattle.gx_database.proofs.Changes.{heaps_changed, catalog_changed}
use Rattle.gx_database.proofs.laws.parts_change.Goals as goal

pub returns-clause-heaps : goal.returns-clause-heaps
returns-clause-heaps g c = heaps_changed g.P.Pages

pub returns-clause-catalog : goal.returns-clause-catalog
returns-clause-catalog g c = catalog_changed g.P.Pages
