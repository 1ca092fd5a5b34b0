use Rattle.std.proofs.Common.{arith}
use Rattle.gx_query.proofs.Rising.{not_rising}
use Rattle.gx_query.proofs.deletion.bitmap_of.Goals as goal

pub returns-then-not-is_below-clause-cause : goal.returns-then-not-is_below-clause-cause
returns-then-not-is_below-clause-cause c = (
  λ same. omega (arith, same),
  λ rising. not_rising c.args.rows.now c.loop-row.bitmap c.loop-row.row-index _ c.is_below.result c.loop-row-test.true c.loop-row.invariant (λ below. c.is_below.ensures.1 below) c.if-not-is_below.true rising,
)
