-- Both intervals by their places.
use Rattle.std.proofs.Common.{◌+◌, pos, refl}
use Rattle.gx_class_intset.proofs.JoinFacts.{gap_read}
use Rattle.gx_class_intset.proofs.join.gap_at.Goals as goal

pub returns : goal.returns
returns c = gap_read c.args.intervals.now c.args.at (c.args.at + 1) c.gap.result (record { least = pos 0; greatest = pos 0 }) refl c.requires c.gap.ensures
