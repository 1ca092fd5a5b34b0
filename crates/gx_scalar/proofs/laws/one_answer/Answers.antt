use Rattle.gx_scalar.proofs.TextLemmas.{one_answer}
use Rattle.gx_scalar.proofs.laws.one_answer.Goals as goal

pub returns : goal.returns
returns c = one_answer
