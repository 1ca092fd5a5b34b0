use Rattle.std.proofs.Common.{sym, zero-add, add-one}
use Rattle.gx_gist.proofs.OrderFacts.{range_more}
use Rattle.gx_gist.proofs.order.places_of.Goals as goal

pub loop-place-preserved : goal.loop-place-preserved
loop-place-preserved c =
    let more = rw (zero-add c.loop-place.place) at (range_more 0 c.loop-place.place) in
    rw add-one (rw (c.in_ok-push.ensures.items, c.loop-place.invariant) (sym more))
