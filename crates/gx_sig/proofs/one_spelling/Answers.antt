use Rattle.gx_sig.proofs.Bytes as bytes
use Rattle.gx_sig.proofs.one_spelling.Goals as goal

pub returns : goal.returns
returns c = bytes.one_spelling
