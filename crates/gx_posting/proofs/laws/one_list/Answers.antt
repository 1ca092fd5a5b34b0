use Rattle.gx_posting.proofs.PostingFacts.{one_spelled}
use Rattle.gx_posting.proofs.laws.one_list.Goals as goal

pub returns-clause-one : goal.returns-clause-one
returns-clause-one c = one_spelled
