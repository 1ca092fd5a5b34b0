use Rattle.std.specs.Prelude.{[], ◌∷◌, Some}
use Rattle.gx_opr.specs.Operands.{right_of}
use Rattle.gx_candidates.proofs.Seen.{scalar_question, valid_right}
use Rattle.gx_candidates.proofs.laws.questions_are_valid.Goals as goal

pub returns-clause-right : goal.returns-clause-right
returns-clause-right c class n kind op o asked =
    valid_right (record { decided = c.decided.ensures; valid = λ kind d is. (c.rows_are_valid.ensures (kind ∷ []) (Some d ∷ []) (is, tt)).0 }) o.kind (right_of o.part) asked.operand

pub returns-clause-scalar : goal.returns-clause-scalar
returns-clause-scalar c = scalar_question
