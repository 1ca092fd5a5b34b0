use Rattle.gx_class_inet.proofs.join.common_of.Goals as goal

pub shared-requires-clause-right : goal.shared-requires-clause-right
shared-requires-clause-right c = rw (c.width_of.ensures, c.requires.family) c.requires.right.address
