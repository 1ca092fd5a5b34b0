use Rattle.gx_range.proofs.TextLemmas.{one_answer}
use Rattle.gx_range.proofs.laws.one_answer.Goals as goal

pub returns : goal.returns
returns c = one_answer
