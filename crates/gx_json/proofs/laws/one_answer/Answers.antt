use Rattle.gx_json.proofs.AnswerLemmas.{one_answer}
use Rattle.gx_json.proofs.laws.one_answer.Goals as goal

pub returns : goal.returns
returns c = one_answer
