use Rattle.gx_json.proofs.ReadBack.{one_encoding}
use Rattle.gx_json.proofs.laws.one_encoding.Goals as goal

pub returns : goal.returns
returns c = one_encoding
