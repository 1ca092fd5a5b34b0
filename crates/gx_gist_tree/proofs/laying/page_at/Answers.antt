use Rattle.std.proofs.Common.{◌+◌, ◌++◌, ◌∷◌, [], ℕ, List, take, sym, ◌∙◌, ap, arith}
use Rattle.gx_slot.proofs.ReadFacts.{ok_part}
use Rattle.gx_gist_tree.specs.Insertion.{page_with, picked}
use Rattle.gx_gist_tree.proofs.ItemSteps.{of_taken, page_full, page_more, picked_none, picked_front}
use Rattle.gx_gist_tree.proofs.Places.{take_whole}
use Rattle.gx_gist_tree.proofs.PutPages.{err_refused}
use Rattle.gx_gist_tree.proofs.laying.page_at.Goals as goal

pub loop-k-init : goal.loop-k-init
loop-k-init c = c.new-slots.ensures ∙ ap (λ (l : List (List ℕ)). page_with c.args.level l) (sym (picked_none c.args.items.now c.args.places.now))

pub loop-k-preserved : goal.loop-k-preserved
loop-k-preserved c =
    let added = ok_part c.add.result (sym c.is_err.ensures.value ∙ c.if-is_err.false) c.add.ensures.added in
    page_more c.args.level (picked c.args.items.now (take c.loop-k.k c.args.places.now)) c.as_slice.result.now c.loop-k.slots c.add.new.self c.loop-k.invariant added
    ∙ ap (λ (x : List ℕ). page_with c.args.level (picked c.args.items.now (take c.loop-k.k c.args.places.now) ++ x ∷ [])) c.as_slice.ensures
    ∙ ap (λ (l : List (List ℕ)). page_with c.args.level l) (sym c.picked_at-item.ensures.next)

pub returns-then-is_err-clause-none : goal.returns-then-is_err-clause-none
returns-then-is_err-clause-none c =
    let k = c.loop-k.k in
    let refused = err_refused c.add.result _ (sym c.is_err.ensures.value ∙ c.if-is_err.true) c.add.ensures.refused in
    let full = page_full c.args.level (picked c.args.items.now (take k c.args.places.now)) c.as_slice.result.now c.loop-k.slots refused.0.free c.loop-k.invariant refused.1.0 refused.1.1 in
    let same = ap (λ (l : List (List ℕ)). of_taken l)
    (ap (λ (x : List ℕ). picked c.args.items.now (take k c.args.places.now) ++ x ∷ []) c.as_slice.ensures ∙ sym c.picked_at-item.ensures.next) in
    let front = picked_front c.args.items.now c.args.places.now (k + 1) in
    omega (arith, full, same, front)

pub returns-clause-some : goal.returns-clause-some
returns-clause-some c =
    c.loop-k.invariant ∙ ap (λ (l : List ℕ). page_with c.args.level (picked c.args.items.now l)) (take_whole c.args.places.now c.loop-k.k (let test = c.loop-k-test.false in omega arith))
