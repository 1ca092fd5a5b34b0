use Rattle.gx_class_inet.specs.Bits.{shared_same, shared_most}
use Rattle.gx_class_inet.proofs.laws.no_more_bits_are_shared.Goals as goal

pub returns-clause-same : goal.returns-clause-same
returns-clause-same c = shared_same

pub returns-clause-most : goal.returns-clause-most
returns-clause-most c = shared_most
