use Rattle.std.proofs.Common.{arith}
use Rattle.gx_class_inet.specs.Bits.{behind_fits}
use Rattle.gx_class_inet.proofs.join.behind.Goals as goal

pub returns : goal.returns
returns c = let fits = behind_fits c.args.bits c.args.width c.args.count c.requires.width c.requires.inside c.requires.small in omega (arith, fits)
