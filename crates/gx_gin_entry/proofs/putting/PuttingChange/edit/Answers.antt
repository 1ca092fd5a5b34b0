use Rattle.std.proofs.Common.{◌≡◌, ℕ, List, ◌∙◌, arith}
use Rattle.gx_gin_entry.proofs.Edits.{edit_between, edit_here, listed_have}
use Rattle.gx_gin_entry.proofs.Stops.{when_false, when_true}
use Rattle.gx_gin_entry.proofs.putting.PuttingChange.edit.Goals as goal

pub returns-in_default : goal.returns-in_default
returns-in_default c = λ least end items are have allowed. c.in_default.ensures.none have.list (listed_have c.args.slots.now.items least end items are have)

pub overflow_add-result : goal.overflow_add-result
overflow_add-result c = let low = c.in-Some.ensures.below c.if-place.true in omega (arith, low)

pub returns-then-place : goal.returns-then-place
returns-then-place c = λ least end items are have allowed from under.
    let s = c.args.self.now in
    edit_here s.key.now s.posting.now (record { key = s.key_fits; posting = s.posting_fits }) least end items have from under c.in_ok-item.item (c.in_ok-item.ensures ∙ c.as_slice.ensures ∙ s.item_is) c.in-Some.place.slot
    (when_true c.in-Some.place.here _ _ c.if-place.true (c.in-Some.ensures.found have.list (listed_have c.args.slots.now.items least end items are have)))

pub returns : goal.returns
returns c = λ least end items are have allowed from under.
    let s = c.args.self.now in
    edit_between s.key.now s.posting.now (record { key = s.key_fits; posting = s.posting_fits }) least end items have from under c.in_ok-item.item (c.in_ok-item.ensures ∙ c.as_slice.ensures ∙ s.item_is) c.in-Some.place.slot
    (when_false c.in-Some.place.here _ _ c.if-place.false (c.in-Some.ensures.found have.list (listed_have c.args.slots.now.items least end items are have)))
