use Rattle.gx_intarr.proofs.EncodingLemmas.{one_encoding}
use Rattle.gx_intarr.proofs.laws.one_encoding.Goals as goal

pub returns : goal.returns
returns c = one_encoding
