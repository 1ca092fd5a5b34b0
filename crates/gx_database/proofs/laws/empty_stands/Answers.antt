use Rattle.gx_database.proofs.Empty as pages
use Rattle.gx_database.proofs.laws.empty_stands.Goals as goal

pub returns : goal.returns
returns c = pages.empty_stands
