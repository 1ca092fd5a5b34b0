use Rattle.gx_pager.proofs.Reasons as reasons
use Rattle.gx_pager.proofs.laws.one_reason.Goals as goal

pub returns : goal.returns
returns c = reasons.one_reason
