use Rattle.gx_lquery.proofs.ValidLemmas.{spelled_valid}
use Rattle.gx_lquery.proofs.laws.spelled_is_valid.Goals as goal

pub returns : goal.returns
returns c = spelled_valid
