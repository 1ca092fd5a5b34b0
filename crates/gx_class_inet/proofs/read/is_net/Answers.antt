use Rattle.std.proofs.Common.{◌≤◌, arith}
use Rattle.gx_inet.specs.Value.{width}
use Rattle.gx_class_inet.specs.Bits.{front_small}
use Rattle.gx_class_inet.proofs.read.is_net.Goals as goal

pub behind-requires-clause-small : goal.behind-requires-clause-small
behind-requires-clause-small c =
    let wide = c.width_of-width.ensures in
    let inside : c.args.net.common ≤ width c.args.net.v6 = omega (arith, wide) in
    rw (c.bits.ensures, c.width_of-width.ensures) (front_small (width c.args.net.v6) c.args.net.address c.args.net.common inside c.requires)
