use Rattle.std.proofs.Common.{◌≡◌, ◌<◌, ◌≤◌, ℕ, List, length, ◌∙◌, arith}
use Rattle.gx_gin_entry.proofs.Nexts.{first_next, split_first}
use Rattle.gx_gin_entry.proofs.Stops.{listed_len}
use Rattle.gx_gin_entry.proofs.next.above_in.Goals as goal

pub returns-clause-found : goal.returns-clause-found
returns-clause-found c = λ list listed.
    let size = listed_len c.args.slots.now.items list listed in
    let count = c.count.ensures in
    let past = c.if-count-slot.false in
    let first = split_first list _ c.in-Some.slot (c.in-Some.ensures.some list listed) (omega (arith, size, count, past)) in
    let same = c.in-Some-entry_at.ensures.entry list first.front first.back first.entry listed first.cut first.at in
    first_next list _ c.in-Some.slot first c.in_ok-entry.entry.0 c.in_ok-entry.entry.1 (c.in_ok-entry.ensures.copy.0 ∙ same.0) (c.in_ok-entry.ensures.copy.1 ∙ same.1)
