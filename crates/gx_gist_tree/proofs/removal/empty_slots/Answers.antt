use Rattle.std.proofs.Common.{◌≡◌, List, ℕ, Bool, Option, None, length, take, slice_set, sym, ◌∙◌, ap, if◌then◌else◌, arith}
use Rattle.std.specs.Prelude.{IfSome}
use Rattle.std.proofs.lemmas.Result.{err_from_is_err_and}
use Rattle.gx_slot.specs.Slots.{Slots}
use Rattle.gx_gist_tree.specs.Trees.{Entry}
use Rattle.gx_gist_tree.specs.OnPages.{FitsFields, is_in}
use Rattle.gx_gist_tree.proofs.Places.{at, all_at, length_mapped}
use Rattle.gx_gist_tree.proofs.StripFacts.{half_at, half_emptied, half_full, half_stays, raw_slots, slot_gone, slot_never}
use Rattle.gx_gist_tree.proofs.removal.empty_slots.Goals as goal
use Rattle.gx_gist_tree.proofs.removal.empty_slots.Goals.{then-gone, else-gone}

pub returns-in_err-gone-clause-rest : goal.returns-in_err-gone-clause-rest
returns-in_err-gone-clause-rest c = c.loop-slot.invariant.rest

pub returns-in_err-gone-clause-cause : goal.returns-in_err-gone-clause-cause
returns-in_err-gone-clause-cause c =
    let p = err_from_is_err_and c.from_residual.result c.from_residual.ensures.1 in
    rw (p.1, p.2) (
      c.in_err-gone.ensures.cause.0,
      λ entries all is.
          let slot = c.loop-slot.slot in
          let small = c.loop-slot-test.true in
          let many = ap (λ (l : List (Option (List ℕ))). length l) is ∙ length_mapped _ entries in
          let a = at entries slot (omega (arith, small, c.count-slot-end.ensures, many)) in
          slot_never c.loop-slot.slots.items slot a.item (half_at (λ e. is_in c.args.rows.now e.0.number) entries slot a c.loop-slot.slots.items (c.loop-slot.invariant.items entries all is))
          c.in_err-gone.ensures.cause.1.0 c.in_err-gone.ensures.cause.1.1,
    )

pub loop-slot-preserved : goal.loop-slot-preserved
loop-slot-preserved c =
    let p = λ (e : Entry (List ℕ)). is_in c.args.rows.now e.0.number in
    let slot = c.loop-slot.slot in
    let small = c.loop-slot-test.true in
    let place = λ (entries : List (Option (Entry (List ℕ)))) (is : c.args.slots.now.items ≡ raw_slots entries).
    at entries slot (omega (arith, small, c.count-slot-end.ensures, ap (λ (l : List (Option (List ℕ))). length l) is ∙ length_mapped _ entries)) in
    elim c.if-gone.branch [
      | then-gone w ↦ (
          let made : c.if-gone.slots.items ≡ slice_set c.loop-slot.slots.items slot None = (λ i. (w.slots-is i).items) ∙ (λ i. (w.remove.ensures i).items) in
          let one : c.if-gone.slots ≡ record c.loop-slot.slots { items = c.if-gone.slots.items } =
          w.slots-is ∙ w.remove.ensures ∙ ap (λ (l : List (Option (List ℕ))). record c.loop-slot.slots { items = l }) (sym made) in
          record {
            items = λ entries all is.
                let a = place entries is in
                let before = c.loop-slot.invariant.items entries all is in
                half_emptied p entries slot a c.loop-slot.slots.items c.if-gone.slots.items before
                (slot_gone c.args.rows.now c.loop-slot.slots.items slot a.item c.in_ok-gone.gone
                (all_at (λ (s : Option (Entry (List ℕ))). IfSome s (λ e. FitsFields e.0)) entries (take slot entries) a.item a.back a.split all)
                (half_at p entries slot a c.loop-slot.slots.items before) c.in_ok-gone.ensures.none c.in_ok-gone.ensures.some
                ∙ ap (λ (b : Bool). if b then None else a.item) w.if-gone.true)
                made;
            rest = one ∙ ap (λ (s : Slots). record s { items = c.if-gone.slots.items }) c.loop-slot.invariant.rest;
            same = λ no. (let is = w.changed-is in cc);
          })
      | else-gone w ↦ (
          let same_items : c.if-gone.slots.items ≡ c.loop-slot.slots.items = (λ i. (w.slots-is i).items) in
          record {
            items = λ entries all is.
                let a = place entries is in
                let before = c.loop-slot.invariant.items entries all is in
                half_stays p entries slot a c.loop-slot.slots.items c.if-gone.slots.items before
                (slot_gone c.args.rows.now c.loop-slot.slots.items slot a.item c.in_ok-gone.gone
                (all_at (λ (s : Option (Entry (List ℕ))). IfSome s (λ e. FitsFields e.0)) entries (take slot entries) a.item a.back a.split all)
                (half_at p entries slot a c.loop-slot.slots.items before) c.in_ok-gone.ensures.none c.in_ok-gone.ensures.some
                ∙ ap (λ (b : Bool). if b then None else a.item) w.if-gone.false)
                same_items;
            rest = w.slots-is ∙ c.loop-slot.invariant.rest ∙ ap (λ (l : List (Option (List ℕ))). record c.args.slots.now { items = l }) (sym same_items);
            same = λ no. w.slots-is ∙ c.loop-slot.invariant.same (sym w.changed-is ∙ no);
          })
    ]

pub returns-clause-emptied : goal.returns-clause-emptied
returns-clause-emptied c = λ entries all is.
    let done = c.loop-slot-test.false in
    let many = ap (λ (l : List (Option (List ℕ))). length l) is ∙ length_mapped _ entries in
    c.loop-slot.invariant.items entries all is ∙ half_full (λ e. is_in c.args.rows.now e.0.number) entries c.loop-slot.slot (omega (arith, done, c.count-slot-end.ensures, many))
