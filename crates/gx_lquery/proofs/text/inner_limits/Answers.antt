-- By the first comma.
use Rattle.gx_lquery.proofs.SplitLemmas.{cut_found, cut_none}
use Rattle.gx_lquery.proofs.TextLemmas.{limits_by}
use Rattle.gx_lquery.proofs.text.inner_limits.Goals as goal

pub returns-in-None : goal.returns-in-None
returns-in-None c = limits_by _ _ c.args.inner.now c.both_of.result (cut_none 44 c.args.inner.now (rw c.in-None.is at c.cut_at.ensures.none)) c.both_of.ensures

pub returns-in-Some : goal.returns-in-Some
returns-in-Some c = limits_by _ _ c.args.inner.now c.range_of.result (cut_found 44 c.args.inner.now c.in-Some.low.now c.in-Some.high.now (rw c.in-Some.is at c.cut_at.ensures.some)) c.range_of.ensures
