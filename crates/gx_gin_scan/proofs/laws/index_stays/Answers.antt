use Rattle.gx_gin_scan.proofs.Stays.{gin_stays, lists_below}
use Rattle.gx_gin_scan.proofs.laws.index_stays.Goals as goal

pub returns-clause-below : goal.returns-clause-below
returns-clause-below g c = lists_below

pub returns-clause-stays : goal.returns-clause-stays
returns-clause-stays g c = gin_stays g.P.Pages
