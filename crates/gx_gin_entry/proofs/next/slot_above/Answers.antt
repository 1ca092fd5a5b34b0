use Rattle.std.proofs.Common.{◌≡◌, ◌+◌, ℕ, List, Some}
use Rattle.gx_gin_entry.proofs.Nexts.{split_between, split_here}
use Rattle.gx_gin_entry.proofs.Stops.{when_false, when_true}
use Rattle.gx_gin_entry.proofs.next.slot_above.Goals as goal

pub returns-then-place-clause-some : goal.returns-then-place-clause-some
returns-then-place-clause-some c = λ list listed.
    rw c.in-Some.is
    (split_here list c.in-Some.key.now c.in-Some-find_in.place.slot listed.rising (when_true c.in-Some-find_in.place.here _ _ c.if-place.true (c.in-Some-find_in.ensures.found list listed)))

pub returns-clause-some : goal.returns-clause-some
returns-clause-some c = λ list listed.
    rw c.in-Some.is (split_between list c.in-Some.key.now c.in-Some-find_in.place.slot (when_false c.in-Some-find_in.place.here _ _ c.if-place.false (c.in-Some-find_in.ensures.found list listed)))
