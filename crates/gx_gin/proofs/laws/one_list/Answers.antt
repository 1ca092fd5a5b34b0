use Rattle.gx_gin.proofs.RisingFacts as facts
use Rattle.gx_gin.proofs.laws.one_list.Goals as goal

pub returns : goal.returns
returns c = facts.one_list
