use Rattle.std.proofs.Common.{◌<◌, inl, inr, ℕ, List, Some, length, refl, sym, ◌∙◌, ap, subst, arith}
use Rattle.std.proofs.lemmas.Result.{err_from_is_err_and}
use Rattle.gx_slot.specs.Slots.{Slots, with_slot}
use Rattle.gx_gist_tree.specs.OnPages.{inner_item}
use Rattle.gx_gist_tree.proofs.LaidFacts.{cause_but, err_kept, laid_but}
use Rattle.gx_gist_tree.proofs.PutPages.{ok_added}
use Rattle.gx_gist_tree.proofs.RoomFacts.{inner_room}
use Rattle.gx_gist_tree.proofs.replacing.widen.Goals as goal

pub returns-then-same-clause-replaced : goal.returns-then-same-clause-replaced
returns-then-same-clause-replaced g c = inl (refl, c.same.ensures.0 c.if-same.true ∙ c.in-Ok.ensures, refl)

pub inner_bytes-requires-clause-key : goal.inner_bytes-requires-clause-key
inner_bytes-requires-clause-key g c =
    let class = c.args.class.now in
    subst (g.C.GistClass.valid_key class) (sym c.in-Ok.ensures) (g.met.C.GistClass.union_is_valid class c.args.at.now c.args.key.now c.requires.class c.requires.at c.requires.key)

pub same-requires-clause-right : goal.same-requires-clause-right
same-requires-clause-right g c =
    let class = c.args.class.now in
    subst (g.C.GistClass.valid_key class) (sym c.in-Ok.ensures) (g.met.C.GistClass.union_is_valid class c.args.at.now c.args.key.now c.requires.class c.requires.at c.requires.key)

pub returns-then-is_ok-clause-replaced : goal.returns-then-is_ok-clause-replaced
returns-then-is_ok-clause-replaced g c =
    let class = c.args.class.now in
    let put = ok_added c.replace.result _ (sym c.is_ok.ensures.value ∙ c.if-is_ok.true) c.replace.ensures.ok in
    inr (inl (
      refl,
      put ∙ ap (λ (i : List ℕ). with_slot c.args.slots.now c.args.slot (Some i))
          (c.as_slice.ensures ∙ c.in_ok-item.ensures.ok ∙ ap (λ (k : g.row.C-Key.Denot). inner_item (g.C.GistClass.spelling class) c.args.child k) c.in-Ok.ensures),
    ))

pub lay_in_place-requires-clause-small : goal.lay_in_place-requires-clause-small
lay_in_place-requires-clause-small g c =
    let class = c.args.class.now in
    let ok = subst (g.C.GistClass.valid_key class) (sym c.in-Ok.ensures) (g.met.C.GistClass.union_is_valid class c.args.at.now c.args.key.now c.requires.class c.requires.at c.requires.key) in
    let room = inner_room (g.C.GistClass.spelling class) c.args.child c.in-Ok.united (g.met.C.GistClass.short_spelling class c.in-Ok.united c.requires.class ok) in
    let same = ap (λ (i : List ℕ). length i) c.in_ok-item.ensures.ok in
    omega (arith, room, same)

pub lay_in_place-requires-clause-below : goal.lay_in_place-requires-clause-below
lay_in_place-requires-clause-below g c =
    let kept = err_kept c.replace.result _ (sym c.is_ok.ensures.value ∙ c.if-is_ok.false) c.replace.ensures.err in
    subst (λ (s : Slots). c.args.slot < length s.items) (sym kept) c.requires.below

pub returns-in_err-arranged-clause-cause : goal.returns-in_err-arranged-clause-cause
returns-in_err-arranged-clause-cause g c =
    let class = c.args.class.now in
    let p = err_from_is_err_and c.from_residual-in_err-arranged.result c.from_residual-in_err-arranged.ensures.1 in
    let kept = err_kept c.replace.result _ (sym c.is_ok.ensures.value ∙ c.if-is_ok.false) c.replace.ensures.err in
    rw (p.1, p.2)
    (cause_but (g.C.GistClass.valid_key class) (g.C.GistClass.union_of class) (g.C.GistClass.spelling class) c.args.slot c.replace.new.self c.args.slots.now c.in_ok-item.item
    (inner_item (g.C.GistClass.spelling class) c.args.child (g.C.GistClass.union_of class c.args.at.now c.args.key.now)) c.in_err-arranged.field-0.0 c.args.page kept
    (c.in_ok-item.ensures.ok ∙ ap (λ (k : g.row.C-Key.Denot). inner_item (g.C.GistClass.spelling class) c.args.child k) c.in-Ok.ensures) c.in_err-arranged.ensures.cause)

pub returns-clause-replaced : goal.returns-clause-replaced
returns-clause-replaced g c =
    let class = c.args.class.now in
    let kept = err_kept c.replace.result _ (sym c.is_ok.ensures.value ∙ c.if-is_ok.false) c.replace.ensures.err in
    inr (inr (laid_but (g.C.GistClass.valid_key class) (g.C.GistClass.union_of class) (g.C.GistClass.spelling class) c.args.slot c.replace.new.self c.args.slots.now c.in_ok-item.item
    (inner_item (g.C.GistClass.spelling class) c.args.child (g.C.GistClass.union_of class c.args.at.now c.args.key.now)) c.lay_in_place.new.slots c.in_ok-arranged.arranged kept
    (c.in_ok-item.ensures.ok ∙ ap (λ (k : g.row.C-Key.Denot). inner_item (g.C.GistClass.spelling class) c.args.child k) c.in-Ok.ensures) c.in_ok-arranged.ensures.laid))
