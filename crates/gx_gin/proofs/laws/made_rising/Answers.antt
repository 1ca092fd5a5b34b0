use Rattle.gx_gin.proofs.RisingFacts.{rises, same_strings}
use Rattle.gx_gin.proofs.laws.made_rising.Goals as goal

pub returns-clause-rising : goal.returns-clause-rising
returns-clause-rising c = rises

pub returns-clause-same : goal.returns-clause-same
returns-clause-same c = same_strings
