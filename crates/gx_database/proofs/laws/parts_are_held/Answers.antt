use Rattle.gx_database.proofs.Views.{catalog_held, heap_held, heap_stored, header_stays, one_count}
use Rattle.gx_database.proofs.laws.parts_are_held.Goals as goal

pub returns-clause-catalog : goal.returns-clause-catalog
returns-clause-catalog g c = catalog_held g.P.Pages

pub returns-clause-heap : goal.returns-clause-heap
returns-clause-heap g c = heap_held g.P.Pages

pub returns-clause-back : goal.returns-clause-back
returns-clause-back g c = heap_stored g.P.Pages

pub returns-clause-count : goal.returns-clause-count
returns-clause-count g c = one_count

pub returns-clause-header : goal.returns-clause-header
returns-clause-header g c = header_stays
