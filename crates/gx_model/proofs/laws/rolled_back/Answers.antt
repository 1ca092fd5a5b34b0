use Rattle.gx_model.proofs.Turning.{rolled}
use Rattle.gx_model.proofs.laws.rolled_back.Goals as goal

pub returns : goal.returns
returns c = rolled
