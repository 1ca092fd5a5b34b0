use Rattle.gx_value.proofs.ValidLemmas.{valid_row}
use Rattle.gx_value.proofs.laws.rows_are_valid.Goals as goal

pub returns : goal.returns
returns c = valid_row
