use Rattle.gx_model.proofs.Stepping.{deleted}
use Rattle.gx_model.proofs.laws.deleted_rows.Goals as goal

pub returns : goal.returns
returns c = deleted
