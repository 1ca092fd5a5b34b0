-- One answer to a text.
use Rattle.gx_bytes.proofs.SingleAnswers.{same_answer}
use Rattle.gx_intarr.specs.Texts.{AnswersTexts}
use Rattle.gx_intarr.proofs.TextLemmas.{single}
use Rattle.gx_intarr.proofs.laws.one_answer.Goals as goal

pub returns : goal.returns
returns c = λ text. same_answer (AnswersTexts text) (single text)
