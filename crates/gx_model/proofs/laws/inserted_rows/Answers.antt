use Rattle.gx_model.proofs.Stepping.{inserted, selected_all}
use Rattle.gx_model.proofs.laws.inserted_rows.Goals as goal

pub returns-clause-rows : goal.returns-clause-rows
returns-clause-rows c = inserted

pub returns-clause-selected : goal.returns-clause-selected
returns-clause-selected c = selected_all
