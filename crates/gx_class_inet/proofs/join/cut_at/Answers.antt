use Rattle.gx_inet.specs.Value.{width}
use Rattle.gx_class_inet.specs.Bits.{front_small}
use Rattle.gx_class_inet.proofs.join.cut_at.Goals as goal

pub behind-requires-clause-small : goal.behind-requires-clause-small
behind-requires-clause-small c =
    rw (c.bits.ensures, c.width_of-width.ensures) (front_small (width c.args.key.v6) c.args.key.address c.args.count c.requires.inside c.requires.key.address)
