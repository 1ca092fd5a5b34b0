use Rattle.gx_intarr.proofs.PrintLemmas.{printed_again}
use Rattle.gx_intarr.proofs.laws.printed_again.Goals as goal

pub returns : goal.returns
returns c = printed_again
