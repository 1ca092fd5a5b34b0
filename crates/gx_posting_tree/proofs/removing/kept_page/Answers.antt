use Rattle.std.proofs.Common.{◌≤◌, [], ℕ, List, Option, sym, subst}
use Rattle.std.proofs.lemmas.Result.{err_from_is_err_and}
use Rattle.gx_posting.specs.Postings.{Spells}
use Rattle.gx_slot.specs.Slots.{taken}
use Rattle.gx_tree.proofs.Causes.{broken_is, broken_weaker}
use Rattle.gx_tree.proofs.Walks.{slot_next, slot_none}
use Rattle.gx_posting_tree.specs.PostingTrees.{without}
use Rattle.gx_posting_tree.proofs.Kept.{has_room, keeping_more, no_item}
use Rattle.gx_posting_tree.proofs.removing.kept_page.Goals as goal

pub returns-in_default-clause-cause : goal.returns-in_default-clause-cause
returns-in_default-clause-cause c =
    broken_is c.no_list.result c.args.page _ c.no_list.ensures
    (λ fits items rows are spelled. slot_none c.args.was.now.items items c.count-slot-end.result c.loop-slot.slot are c.count-slot-end.ensures c.loop-slot-test.true (sym c.in_default.ensures))

pub returns-in_err-list-clause-cause : goal.returns-in_err-list-clause-cause
returns-in_err-list-clause-cause c =
    let p = err_from_is_err_and c.from_residual.result c.from_residual.ensures.1 in
    rw (p.1, p.2)
    (broken_weaker c.in_err-list.field-0.0 c.args.page _ _ (λ none fits items rows are spelled.
    no_item c.args.gone.now c.args.was.now.items c.loop-slot.slot c.loop-slot.kept c.loop-slot.invariant c.in-Some.item.now []
    (λ before all. slot_next c.args.was.now.items before c.count-slot-end.result c.loop-slot.slot c.in-Some.item.now all c.count-slot-end.ensures c.loop-slot-test.true (sym c.in-Some.ensures))
    items rows are spelled none)
    c.in_err-list.ensures.cause)

pub returns-in_err-add_list-clause-cause : goal.returns-in_err-add_list-clause-cause
returns-in_err-add_list-clause-cause c =
    let p = err_from_is_err_and c.from_residual-in_err-add_list.result c.from_residual-in_err-add_list.ensures.1 in
    rw (p.1, p.2)
    (broken_weaker c.in_err-add_list.field-0.0 c.args.page _ _ (λ full fits items rows are spelled.
    has_room c.args.gone.now c.args.was.now.items c.loop-slot.slot c.loop-slot.kept c.loop-slot.invariant c.in-Some.item.now c.as_slice.result.now
    (λ before all. slot_next c.args.was.now.items before c.count-slot-end.result c.loop-slot.slot c.in-Some.item.now all c.count-slot-end.ensures c.loop-slot-test.true (sym c.in-Some.ensures))
    items rows are spelled
    (λ list spells. subst (λ (l : List ℕ). Spells l (without c.args.gone.now list)) (sym c.as_slice.ensures) (c.in_ok-list.ensures.kept list spells))
    (subst (λ (l : List (Option (List ℕ))). taken l ≤ 8176) are (let r = fits.room in r)) (full c.loop-slot.invariant.items c.loop-slot.invariant.are))
    c.in_err-add_list.ensures.cause)

pub loop-slot-preserved : goal.loop-slot-preserved
loop-slot-preserved c =
    keeping_more c.args.gone.now c.args.was.now.items c.loop-slot.slot c.loop-slot.kept c.loop-slot.invariant c.in-Some.item.now c.as_slice.result.now
    (λ before all. slot_next c.args.was.now.items before c.count-slot-end.result c.loop-slot.slot c.in-Some.item.now all c.count-slot-end.ensures c.loop-slot-test.true (sym c.in-Some.ensures))
    c.add_list.new.to c.in_ok-add_list.ensures.added
    (λ list spells. subst (λ (l : List ℕ). Spells l (without c.args.gone.now list)) (sym c.as_slice.ensures) (c.in_ok-list.ensures.kept list spells))
