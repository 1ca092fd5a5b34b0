use Rattle.gx_model.proofs.Stepping.{refused_leaves}
use Rattle.gx_model.proofs.Turning.{was_refused}
use Rattle.gx_model.proofs.laws.refused_changes_nothing.Goals as goal

pub returns-clause-step : goal.returns-clause-step
returns-clause-step c = refused_leaves

pub returns-clause-turn : goal.returns-clause-turn
returns-clause-turn c = λ session piece turned h some. (was_refused session piece turned h some).session_is

pub returns-clause-growth : goal.returns-clause-growth
returns-clause-growth c = λ session piece turned h some. (was_refused session piece turned h some).adds_none
