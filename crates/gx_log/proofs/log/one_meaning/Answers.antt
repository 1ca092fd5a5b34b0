use Rattle.gx_log.proofs.Bodies.{stands_same}
use Rattle.gx_log.proofs.log.one_meaning.Goals as goal

pub returns : goal.returns
returns c = stands_same
