use Rattle.std.proofs.Common.{◌++◌, inl, inr, ⊎_elim, List, ℕ, Option, length, take, sym, ◌∙◌, ap, append-nil, arith}
use Rattle.std.specs.Prelude.{IfSome}
use Rattle.std.specs.Option.{option_map}
use Rattle.std.proofs.lemmas.Result.{err_from_is_err_and}
use Rattle.gx_pages.specs.declared.row.RowRef.{RowRef}
use Rattle.gx_slot.specs.Slots.{item_at}
use Rattle.gx_gist_tree.specs.Trees.{Entry}
use Rattle.gx_gist_tree.specs.OnPages.{FitsFields, leaf_item}
use Rattle.gx_gist_tree.proofs.Places.{at, all_at, take_whole, length_mapped}
use Rattle.gx_gist_tree.proofs.ItemFacts.{rows_in, listed, rows_more, gives, never}
use Rattle.gx_gist_tree.proofs.search.push_rows.Goals as goal
use Rattle.gx_gist_tree.proofs.search.push_rows.Goals.{in-Some+in-Ok, in_default}

pub returns-in_err-row-clause-cause : goal.returns-in_err-row-clause-cause
returns-in_err-row-clause-cause g c =
    let p = err_from_is_err_and c.from_residual.result c.from_residual.ensures.1 in
    rw (p.1, p.2)
    (⊎_elim (λ memory. inl memory)
    (λ broken. inr (
      broken.0,
      λ entries all is.
          let bytes = g.C.GistClass.spelling c.args.class.now in
          let slot = c.loop-slot.slot in
          let small = c.loop-slot-test.true in
          let many = ap (λ (l : List (Option (List ℕ))). length l) is ∙ length_mapped (option_map (leaf_item bytes)) entries in
          let a = at entries slot (omega (arith, small, c.count-slot-end.ensures, many)) in
          never bytes (g.C.GistClass.valid_key c.args.class.now) c.args.slots.now.items slot a.item
          (all_at (λ (s : Option (Entry g.row.C-Key.Denot)). IfSome s (λ e. g.C.GistClass.valid_key c.args.class.now e.1 × FitsFields e.0)) entries (take slot entries) a.item a.back a.split all)
          (ap (λ (l : List (Option (List ℕ))). item_at l slot) is ∙ a.mapped (option_map (leaf_item bytes))) broken.1.0 broken.1.1,
    ))
    c.in_err-row.ensures.cause)

pub loop-slot-preserved : goal.loop-slot-preserved
loop-slot-preserved g c = λ entries all is.
    let bytes = g.C.GistClass.spelling c.args.class.now in
    let test = λ (k : g.row.C-Key.Denot). g.C.GistClass.leaf_test c.args.class.now k c.args.query.now in
    let slot = c.loop-slot.slot in
    let small = c.loop-slot-test.true in
    let many = ap (λ (l : List (Option (List ℕ))). length l) is ∙ length_mapped (option_map (leaf_item bytes)) entries in
    let a = at entries slot (omega (arith, small, c.count-slot-end.ensures, many)) in
    let here = gives bytes test (g.C.GistClass.valid_key c.args.class.now) c.args.slots.now.items slot a.item c.in_ok-row.field-0
    (all_at (λ (s : Option (Entry g.row.C-Key.Denot)). IfSome s (λ e. g.C.GistClass.valid_key c.args.class.now e.1 × FitsFields e.0)) entries (take slot entries) a.item a.back a.split all)
    (ap (λ (l : List (Option (List ℕ))). item_at l slot) is ∙ a.mapped (option_map (leaf_item bytes))) c.in_ok-row.ensures.none c.in_ok-row.ensures.some in
    rows_more test entries slot a c.args.rows.now.items c.loop-slot.rows.items c.match-branch-2.rows.items (c.loop-slot.invariant entries all is)
    (elim c.match-branch-2.branch [
      | in-Some+in-Ok w ↦ (λ i. (w.rows-is i).items) ∙ w.in-Ok.ensures.items ∙ ap (λ (o : Option RowRef). c.loop-slot.rows.items ++ listed o) (sym w.in-Some.is ∙ here)
      | in_default w ↦ (λ i. (w.rows-is i).items) ∙ sym (append-nil c.loop-slot.rows.items) ∙ ap (λ (o : Option RowRef). c.loop-slot.rows.items ++ listed o) (sym w.in_default.is ∙ here)
    ])

pub returns-clause-found : goal.returns-clause-found
returns-clause-found g c = λ entries all is.
    let bytes = g.C.GistClass.spelling c.args.class.now in
    let done = c.loop-slot-test.false in
    let many = ap (λ (l : List (Option (List ℕ))). length l) is ∙ length_mapped (option_map (leaf_item bytes)) entries in
    c.loop-slot.invariant entries all is
    ∙ ap (λ (l : List (Option (Entry g.row.C-Key.Denot))). c.args.rows.now.items ++ rows_in (λ k. g.C.GistClass.leaf_test c.args.class.now k c.args.query.now) l)
    (take_whole entries c.loop-slot.slot (omega (arith, done, c.count-slot-end.ensures, many)))
