-- One map to a text.
use Rattle.gx_bytes.proofs.SingleAnswers.{same_answer}
use Rattle.gx_hstore.specs.Text.{AnswersHstore}
use Rattle.gx_hstore.proofs.AnswerLemmas.{single_answer}
use Rattle.gx_hstore.proofs.laws.one_answer.Goals as goal

pub returns : goal.returns
returns c = λ text r s m n p q. same_answer (AnswersHstore text) (single_answer text) r s m n p q
