use Rattle.gx_range.proofs.BoundLemmas.{never_closed}
use Rattle.gx_range.proofs.bounds.written.Goals as goal

pub returns-in-None-cut_at : goal.returns-in-None-cut_at
returns-in-None-cut_at c = never_closed c.args.bytes.now c.in-Some.inside.now c.in-Some.ensures c.in-None-cut_at.ensures.none
