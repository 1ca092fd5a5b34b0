use Rattle.std.proofs.Common.{inl, inr, ℕ, List, Some, length, refl, sym, ◌∙◌, ap, arith}
use Rattle.std.proofs.lemmas.Result.{err_from_is_err_and}
use Rattle.gx_slot.specs.Slots.{with_item}
use Rattle.gx_gist_tree.specs.OnPages.{leaf_item}
use Rattle.gx_gist_tree.proofs.LaidFacts.{cause_with, err_kept, laid_with}
use Rattle.gx_gist_tree.proofs.PutPages.{ok_added}
use Rattle.gx_gist_tree.proofs.RoomFacts.{leaf_room}
use Rattle.gx_gist_tree.proofs.replacing.add_row.Goals as goal

pub returns-then-is_ok-clause-added : goal.returns-then-is_ok-clause-added
returns-then-is_ok-clause-added g c =
    let added = ok_added c.add.result _ (sym c.is_ok.ensures.value ∙ c.if-is_ok.true) c.add.ensures.added in
    inl (refl, added ∙ ap (λ (i : List ℕ). with_item c.args.slots.now (Some i)) (c.as_slice.ensures ∙ c.in_ok-item.ensures.ok))

pub lay_with-requires-clause-small : goal.lay_with-requires-clause-small
lay_with-requires-clause-small g c =
    let class = c.args.class.now in
    let room = leaf_room (g.C.GistClass.spelling class) (c.args.row, c.args.key.now) (g.met.C.GistClass.short_spelling class c.args.key.now c.requires.class c.requires.key) in
    let same = ap (λ (i : List ℕ). length i) c.in_ok-item.ensures.ok in
    omega (arith, room, same)

pub returns-in_err-arranged-clause-cause : goal.returns-in_err-arranged-clause-cause
returns-in_err-arranged-clause-cause g c =
    let class = c.args.class.now in
    let p = err_from_is_err_and c.from_residual-in_err-arranged.result c.from_residual-in_err-arranged.ensures.1 in
    let kept = err_kept c.add.result _ (sym c.is_ok.ensures.value ∙ c.if-is_ok.false) c.add.ensures.err in
    rw (p.1, p.2)
    (cause_with (g.C.GistClass.valid_key class) (g.C.GistClass.union_of class) (g.C.GistClass.spelling class) c.add.new.self c.args.slots.now c.in_ok-item.item (leaf_item (g.C.GistClass.spelling class) (c.args.row, c.args.key.now))
    c.in_err-arranged.field-0.0 c.args.page kept c.in_ok-item.ensures.ok c.in_err-arranged.ensures.cause)

pub returns-clause-added : goal.returns-clause-added
returns-clause-added g c =
    let class = c.args.class.now in
    let kept = err_kept c.add.result _ (sym c.is_ok.ensures.value ∙ c.if-is_ok.false) c.add.ensures.err in
    inr (laid_with (g.C.GistClass.valid_key class) (g.C.GistClass.union_of class) (g.C.GistClass.spelling class) c.add.new.self c.args.slots.now c.in_ok-item.item (leaf_item (g.C.GistClass.spelling class) (c.args.row, c.args.key.now))
    c.lay_with.new.slots c.in_ok-arranged.arranged kept c.in_ok-item.ensures.ok c.in_ok-arranged.ensures.laid)
