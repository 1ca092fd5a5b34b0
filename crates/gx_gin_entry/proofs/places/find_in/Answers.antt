use Rattle.std.proofs.Common.{◌≡◌, ◌≢◌, ◌+◌, ◌<◌, ◌≤◌, ℕ, List, length, sym, ◌∙◌, subst, arith}
use Rattle.gx_gin_entry.proofs.Stops.{listed_len, place_end, place_stop, range_all, stop_between, stop_here, when_false, when_true}
use Rattle.gx_gin_entry.proofs.places.find_in.Goals as goal

pub returns-in_default-clause-none : goal.returns-in_default-clause-none
returns-in_default-clause-none c = λ list listed.
    c.in_default.ensures.none list listed (let size = listed_len c.args.slots.now.items list listed in let count = c.count-count.ensures in omega (arith, size, count))

pub returns-then-count-slot-clause-found : goal.returns-then-count-slot-clause-found
returns-then-count-slot-clause-found c = λ list listed.
    let size = listed_len c.args.slots.now.items list listed in
    let count = c.count-count.ensures in
    let past = c.if-count-slot.true in
    place_end list c.args.key.now c.in-Some.slot (c.in-Some.ensures.place list listed (range_all list c.args.key.now c.count-count.result (count ∙ size))) (omega (arith, size, count, past))

pub returns-in_default-entry_at-clause-none : goal.returns-in_default-entry_at-clause-none
returns-in_default-entry_at-clause-none c = λ list listed.
    c.in_default-entry_at.ensures.entry list listed
    (let size = listed_len c.args.slots.now.items list listed in let count = c.count-count.ensures in let past = c.if-count-slot.false in omega (arith, size, count, past))

pub returns-then-is_same-clause-found : goal.returns-then-is_same-clause-found
returns-then-is_same-clause-found c = λ list listed.
    let size = listed_len c.args.slots.now.items list listed in
    let count = c.count-count.ensures in
    let past = c.if-count-slot.false in
    let stop = place_stop list c.args.key.now c.in-Some.slot (c.in-Some.ensures.place list listed (range_all list c.args.key.now c.count-count.result (count ∙ size))) (omega (arith, size, count, past)) in
    let found = (c.in-Some-entry_at.ensures.entry list stop.front stop.back stop.entry listed stop.cut stop.at).0 in
    stop_here list c.args.key.now c.in-Some.slot stop (sym found ∙ when_true c.is_same.result _ _ c.if-is_same.true c.is_same.ensures)

pub returns-clause-found : goal.returns-clause-found
returns-clause-found c = λ list listed.
    let size = listed_len c.args.slots.now.items list listed in
    let count = c.count-count.ensures in
    let past = c.if-count-slot.false in
    let stop = place_stop list c.args.key.now c.in-Some.slot (c.in-Some.ensures.place list listed (range_all list c.args.key.now c.count-count.result (count ∙ size))) (omega (arith, size, count, past)) in
    let found = (c.in-Some-entry_at.ensures.entry list stop.front stop.back stop.entry listed stop.cut stop.at).0 in
    stop_between list c.args.key.now c.in-Some.slot stop listed.rising (λ same. when_false c.is_same.result _ _ c.if-is_same.false c.is_same.ensures (found ∙ same))
