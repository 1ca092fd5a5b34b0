-- One query to a text.
use Rattle.gx_bytes.proofs.SingleAnswers.{same_answer}
use Rattle.gx_lquery.specs.Text.{AnswersLquery}
use Rattle.gx_lquery.proofs.TextLemmas.{single}
use Rattle.gx_lquery.proofs.laws.one_answer.Goals as goal

pub returns : goal.returns
returns c = λ text. same_answer (AnswersLquery text) (single text)
