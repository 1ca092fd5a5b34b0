-- One answer to a text.
use Rattle.gx_bytes.proofs.SingleAnswers.{same_answer}
use Rattle.gx_intarr.specs.Arrays.{AnswersArray}
use Rattle.gx_intarr.proofs.NumberLemmas.{single}
use Rattle.gx_intarr.proofs.laws.one_array_answer.Goals as goal

pub returns : goal.returns
returns c = λ text. same_answer (AnswersArray text) (single text)
