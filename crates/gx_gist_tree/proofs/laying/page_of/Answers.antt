use Rattle.std.proofs.Common.{◌≡◌, ◌<◌, ◌+◌, ◌++◌, ◌∷◌, [], ℕ, List, take, length, sym, ◌∙◌, ap, arith}
use Rattle.gx_slot.proofs.ReadFacts.{ok_part}
use Rattle.gx_gist_tree.specs.Insertion.{page_with}
use Rattle.gx_gist_tree.proofs.ItemSteps.{of_taken, page_full, page_more, page_start, take_next, taken_front}
use Rattle.gx_gist_tree.proofs.Places.{take_whole}
use Rattle.gx_gist_tree.proofs.PutPages.{err_refused}
use Rattle.gx_gist_tree.proofs.laying.page_of.Goals as goal

pub loop-item-init : goal.loop-item-init
loop-item-init c = c.new-slots.ensures ∙ sym (page_start c.args.level c.args.items.now)

pub loop-item-preserved : goal.loop-item-preserved
loop-item-preserved c =
    let k = c.loop-item.item-index in
    let items = c.args.items.now in
    let below : c.loop-item.item-index < length c.args.items.now = (let test = c.loop-item-test.true in omega arith) in
    let added = ok_part c.add.result (sym c.is_err.ensures.value ∙ c.if-is_err.false) c.add.ensures.added in
    let here : take (c.loop-item.item-index + 1) c.args.items.now ≡ take c.loop-item.item-index c.args.items.now ++ c.as_slice.result.now ∷ [] =
    take_next items k c.item-item.result below ∙ ap (λ (x : List ℕ). take k items ++ x ∷ []) (sym c.item-item.is ∙ sym c.as_slice.ensures) in
    page_more c.args.level (take k items) c.as_slice.result.now c.loop-item.slots c.add.new.self c.loop-item.invariant added ∙ ap (λ (l : List (List ℕ)). page_with c.args.level l) (sym here)

pub returns-then-is_err-clause-none : goal.returns-then-is_err-clause-none
returns-then-is_err-clause-none c =
    let k = c.loop-item.item-index in
    let items = c.args.items.now in
    let below : c.loop-item.item-index < length c.args.items.now = (let test = c.loop-item-test.true in omega arith) in
    let refused = err_refused c.add.result _ (sym c.is_err.ensures.value ∙ c.if-is_err.true) c.add.ensures.refused in
    let here : take (c.loop-item.item-index + 1) c.args.items.now ≡ take c.loop-item.item-index c.args.items.now ++ c.as_slice.result.now ∷ [] =
    take_next items k c.item-item.result below ∙ ap (λ (x : List ℕ). take k items ++ x ∷ []) (sym c.item-item.is ∙ sym c.as_slice.ensures) in
    let full = page_full c.args.level (take k items) c.as_slice.result.now c.loop-item.slots refused.0.free c.loop-item.invariant refused.1.0 refused.1.1 in
    let same = ap (λ (l : List (List ℕ)). of_taken l) here in
    let front = taken_front (k + 1) items in
    omega (arith, full, same, front)

pub returns-clause-some : goal.returns-clause-some
returns-clause-some c =
    c.loop-item.invariant ∙ ap (λ (l : List (List ℕ)). page_with c.args.level l) (take_whole c.args.items.now c.loop-item.item-index (let test = c.loop-item-test.false in omega arith))
