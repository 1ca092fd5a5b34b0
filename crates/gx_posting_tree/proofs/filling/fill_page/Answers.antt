use Rattle.std.proofs.Common.{◌-◌, ℕ, List, Some, length, take, drop, ◌∙◌, ap, arith}
use Rattle.gx_slot.specs.Slots.{with_item}
use Rattle.gx_posting_tree.proofs.Fills.{fills_full, fills_more, rest_all, rest_rising}
use Rattle.gx_posting_tree.proofs.filling.fill_page.Goals as goal

pub first_list-requires-clause-rising : goal.first_list-requires-clause-rising
first_list-requires-clause-rising c = rest_rising c.args.rows.now c.lists.count (length c.args.rows.now - c.lists.count) c.requires

pub returns-in-Err-clause-whole : goal.returns-in-Err-clause-whole
returns-in-Err-clause-whole c = λ few.
    let rows = c.args.rows.now in
    let size = ap (λ (l : List ℕ). length l) c.as_slice.ensures in
    let less = c.in-Err.ensures.refused.1 in
    fills_full rows c.lists.slots c.lists.count c.lists.invariant c.lists-test.true c.in-Ok.first.item c.in-Ok.first.count (take (length rows - c.lists.count) (drop c.lists.count rows)) (rest_all rows c.lists.count)
    c.in-Ok.ensures.spells c.in-Ok.ensures.some c.in-Ok.ensures.within c.in-Ok.ensures.short c.in-Ok.ensures.small c.in-Ok.ensures.many c.in-Err.field-0.free c.in-Err.ensures.refused.0 (omega (arith, less, size)) few

pub lists-preserved : goal.lists-preserved
lists-preserved c =
    let rows = c.args.rows.now in
    fills_more rows c.lists.slots c.lists.count c.lists.invariant c.lists-test.true c.in-Ok.first.item c.in-Ok.first.count (take (length rows - c.lists.count) (drop c.lists.count rows)) (rest_all rows c.lists.count)
    c.in-Ok.ensures.spells c.in-Ok.ensures.some c.in-Ok.ensures.within c.in-Ok.ensures.short c.in-Ok.ensures.small c.in-Ok.ensures.many c.add.new.self
    (c.in-Ok-add.ensures.added ∙ ap (λ (i : List ℕ). with_item c.lists.slots (Some i)) c.as_slice.ensures)
