-- One address to a text.
use Rattle.gx_inet.proofs.TextLemmas.{same_answer}
use Rattle.gx_inet.proofs.laws.one_answer.Goals as goal

pub returns : goal.returns
returns c = same_answer
