use Rattle.gx_catalog.proofs.Placed.{before_this, here_at}
use Rattle.gx_catalog.proofs.place.page_before.Goals as goal

pub returns-then-foot-page : goal.returns-then-foot-page
returns-then-foot-page c =
    before_this c.args.feet.now c.loop-foot.foot-index c.args.page c.loop-foot.before c.loop-foot-test.true (here_at c.args.feet.now c.loop-foot.foot-index c.args.page c.loop-foot-test.true c.if-foot-page.true)
    c.loop-foot.invariant
