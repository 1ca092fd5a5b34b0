use Rattle.gx_candidates.proofs.Asked.{asked}
use Rattle.gx_candidates.proofs.laws.questions_are_asked.Goals as goal

pub returns : goal.returns
returns c = asked
