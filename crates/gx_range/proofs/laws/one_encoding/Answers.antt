use Rattle.gx_range.proofs.EncodingLemmas.{one_encoding}
use Rattle.gx_range.proofs.laws.one_encoding.Goals as goal

pub returns : goal.returns
returns c = one_encoding
