use Rattle.gx_bytes.proofs.WholeLemmas.{whole_printed}
use Rattle.gx_bytes.proofs.wholes.printed_whole_again.Goals as goal

pub returns : goal.returns
returns c = whole_printed
