-- Both intervals by their places.
use Rattle.std.proofs.Common.{◌+◌, refl}
use Rattle.gx_class_intset.proofs.JoinFacts.{join_made}
use Rattle.gx_class_intset.proofs.join.join_at.Goals as goal

pub returns : goal.returns
returns c =
    join_made c.args.intervals.now.items c.remove-next.new.self.items c.args.at (c.args.at + 1) c.index-first.result.now c.remove-next.result c.across.result refl c.requires c.index-first.ensures c.remove-next.ensures.value
    c.remove-next.ensures.items c.across.ensures
