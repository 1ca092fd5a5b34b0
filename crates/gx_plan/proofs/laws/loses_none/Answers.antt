use Rattle.gx_plan.proofs.Losing as losing
use Rattle.gx_plan.proofs.laws.loses_none.Goals as goal

pub returns : goal.returns
returns c = losing.loses_none c.candidates_see.ensures
