use Rattle.gx_database.proofs.There.{all_there}
use Rattle.gx_database.proofs.laws.no_gap.Goals as goal

pub returns : goal.returns
returns c = all_there
