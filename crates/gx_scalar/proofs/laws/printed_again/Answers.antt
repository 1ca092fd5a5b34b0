use Rattle.gx_scalar.proofs.TextLemmas.{scalar_printed}
use Rattle.gx_scalar.proofs.laws.printed_again.Goals as goal

pub returns : goal.returns
returns c = scalar_printed
