use Rattle.gx_model.proofs.OneTurn as turns
use Rattle.gx_model.proofs.StaysValid.{step_valid}
use Rattle.gx_model.proofs.TurnsValid.{turn_valid, short_names, is_read}
use Rattle.gx_model.proofs.laws.stays_valid.Goals as goal

facts : (c : goal.After-one_operand) → turns.Facts
facts c = record {
  literals = record {
    of_values = λ kind l h r s m n p q. c.one_answer.ensures kind l r s h m n p q;
    of_rights = λ kind l h r s m n p q. c.one_operand.ensures kind l r s h m n p q;
  };
  bytes = c.one_row.ensures.bytes;
}

pub returns-clause-step : goal.returns-clause-step
returns-clause-step c = step_valid (facts c)

pub returns-clause-sound : goal.returns-clause-sound
returns-clause-sound c = λ db said stepped v s h. step_valid (facts c) db said stepped v (short_names said s.names) h

pub returns-clause-turn : goal.returns-clause-turn
returns-clause-turn c = λ session piece turned v h. turn_valid (facts c) session piece turned (λ said e. short_names said (c.sound_statements.ensures piece said (is_read piece said e)).names) v h
