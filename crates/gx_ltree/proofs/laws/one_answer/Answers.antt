-- One path to a text.
use Rattle.gx_bytes.proofs.SingleAnswers.{same_answer}
use Rattle.gx_ltree.specs.Text.{AnswersPath}
use Rattle.gx_ltree.proofs.TextLemmas.{single}
use Rattle.gx_ltree.proofs.laws.one_answer.Goals as goal

pub returns : goal.returns
returns c = λ text. same_answer (AnswersPath text) (single text)
