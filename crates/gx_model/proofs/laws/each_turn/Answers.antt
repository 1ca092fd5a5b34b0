use Rattle.gx_model.proofs.EachTurn as each
use Rattle.gx_model.proofs.TurnsValid.{is_read}
use Rattle.gx_model.proofs.laws.each_turn.Goals as goal

pub returns-clause-step : goal.returns-clause-step
returns-clause-step c = λ total db said valid sound. each.each_step total db said valid sound.literals

pub returns-clause-turn : goal.returns-clause-turn
returns-clause-turn c = λ total session piece valid. each.each_turn total session piece valid (λ said e. (c.sound_statements.ensures piece said (is_read piece said e)).literals)
