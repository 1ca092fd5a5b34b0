use Rattle.gx_range.proofs.PrintLemmas.{range_printed}
use Rattle.gx_range.proofs.laws.printed_again.Goals as goal

pub returns : goal.returns
returns c = range_printed
