-- The printed text spells the address.
use Rattle.gx_inet.proofs.TextLemmas.{printed_spells}
use Rattle.gx_inet.proofs.laws.printed_again.Goals as goal

pub returns : goal.returns
returns c = λ inet valid. printed_spells inet.v6 inet.mask inet.address valid.mask valid.address
