use Rattle.gx_sig.proofs.Bytes.{with_bit_has, both_have, are_signatures}
use Rattle.gx_sig.proofs.bits_of_bytes.Goals as goal

pub returns-clause-with_bit : goal.returns-clause-with_bit
returns-clause-with_bit c = with_bit_has

pub returns-clause-both : goal.returns-clause-both
returns-clause-both c = both_have

pub returns-clause-signatures : goal.returns-clause-signatures
returns-clause-signatures c = are_signatures
