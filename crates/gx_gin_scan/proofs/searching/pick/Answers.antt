use Rattle.std.proofs.Common.{◌≡◌, ◌<◌, ◌++◌, ◌∷◌, [], Bool, cond, List, length, get_or, take, sym, ◌∙◌, ap, subst}
use Rattle.gx_pages.specs.declared.row.RowRef.{RowRef}
use Rattle.gx_pages.specs.Rows.{AreBelow}
use Rattle.gx_gin_scan.specs.Lists.{isnt_no}
use Rattle.gx_gin_scan.specs.Searches.{marks, picked}
use Rattle.gx_gin_scan.proofs.Walked.{picked_below, picked_next}
use Rattle.gx_gin_scan.proofs.searching.pick.Goals as goal

abbrev zero_row : RowRef
zero_row = record { number = 0; page = 0; slot = 0 }

pub push_kept-requires : goal.push_kept-requires
push_kept-requires g c =
    let rows = c.args.rows.now in
    let list = c.as_slice-row-items.result.now in
    let i = c.loop-row.row-index in
    let passes = g.C.GinClass.passes_of c.args.class.now c.args.query.now in
    let value : list ≡ rows = c.as_slice-row-items.ensures.value in
    let inside : i < length rows = subst (λ (l : List RowRef). i < length l) value c.loop-row-test.true in
    let low = picked_below passes c.args.lists.now rows i zero_row c.as_slice-row-items.ensures.rising inside in
    subst (λ (l : List RowRef). AreBelow l (get_or list i zero_row).number) (sym c.loop-row.invariant)
    (subst (λ (l : List RowRef). AreBelow (picked passes c.args.lists.now (take i rows)) (get_or l i zero_row).number) (sym value) low)

pub loop-row-preserved : goal.loop-row-preserved
loop-row-preserved g c =
    let rows = c.args.rows.now in
    let list = c.as_slice-row-items.result.now in
    let lists = c.args.lists.now in
    let i = c.loop-row.row-index in
    let passes = g.C.GinClass.passes_of c.args.class.now c.args.query.now in
    let value : list ≡ rows = c.as_slice-row-items.ensures.value in
    let inside : i < length rows = subst (λ (l : List RowRef). i < length l) value c.loop-row-test.true in
    c.in_ok-push_kept.ensures.ok
    ∙ ap (λ (l : List RowRef). l ++ cond c.in_ok-kept.kept (get_or list i zero_row ∷ []) []) c.loop-row.invariant
    ∙ ap (λ (b : Bool). picked passes lists (take i rows) ++ cond b (get_or list i zero_row ∷ []) []) c.in_ok-kept.ensures.picked
    ∙ ap (λ (l : List RowRef). picked passes lists (take i rows) ++ cond (isnt_no (passes (marks lists (get_or l i zero_row).number))) (get_or l i zero_row ∷ []) []) value
    ∙ sym (picked_next passes lists rows i zero_row inside)
