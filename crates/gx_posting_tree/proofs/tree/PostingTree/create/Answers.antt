use Rattle.std.proofs.Common.{◌≡◌, ◌≤◌, ◌∷◌, [], List, length, take, sym, ◌∙◌, ap, subst, arith}
use Rattle.std.proofs.lemmas.Result.{err_from_is_err_and}
use Rattle.gx_pages.specs.declared.row.RowRef.{RowRef}
use Rattle.gx_pages.specs.Rows.{IsRising}
use Rattle.gx_pages.proofs.Footprints.{cause_weaker, keeps_join}
use Rattle.gx_posting_tree.specs.PostingTrees.{HoldsRows}
use Rattle.gx_posting_tree.specs.declared.tree.PostingTree.{PostingTree}
use Rattle.gx_posting_tree.proofs.Fills.{few_rows, page_first, rest_few, whole_rows}
use Rattle.gx_posting_tree.proofs.tree.PostingTree.create.Goals as goal

pub returns-in_err-insert_all-clause-by_one : goal.returns-in_err-insert_all-clause-by_one
returns-in_err-insert_all-clause-by_one g c = λ short.
    let rows = c.args.rows.now in
    let value : c.as_slice.result.now ≡ rows = c.as_slice.ensures.value in
    let few : length c.as_slice.result.now ≤ 341 = subst (λ (l : List RowRef). length l ≤ 341) (sym value) (few_rows rows short) in
    let whole = c.in_ok-filled.ensures.whole few in
    let first = c.in_ok-page.ensures.by_one in
    let rest = c.in_err-insert_all.ensures.by in
    let none = rest_few c.as_slice-2.result.now c.in_ok-filled.filled.count (ap (λ (l : List RowRef). length l) (c.as_slice-2.ensures.value ∙ sym value) ∙ sym whole) in
    omega (arith, first, rest, none)

pub returns-in_err-insert_all-clause-cause : goal.returns-in_err-insert_all-clause-cause
returns-in_err-insert_all-clause-cause g c =
    let p = err_from_is_err_and c.from_residual-in_err-insert_all.result c.from_residual-in_err-insert_all.ensures.1 in
    let old = c.args.pages.now in
    let mid = c.create_leaf.new.pages in
    let value : c.as_slice.result.now ≡ c.as_slice-2.result.now = c.as_slice.ensures.value ∙ sym c.as_slice-2.ensures.value in
    rw (p.1, p.2)
    (cause_weaker c.in_err-insert_all.field-0.0 (g.P.Pages.faults old) (g.P.Pages.faults mid) (g.P.Pages.faults c.insert_all.new.pages) (g.P.Pages.faults c.insert_all.new.pages)
    _ _ _ _ _ _ (let q = c.in_ok-page.ensures.quiet.faults in omega (arith, q)) (omega arith)
    (λ at expected found refused tells free list.
    let first = c.in_ok-filled.ensures.filled in
    let made = c.in_ok-page.ensures.made tells 6 first.items free first.is list in
    refused tells (take c.in_ok-filled.filled.count c.as_slice.result.now) (c.in_ok-page.page ∷ []) made.0
    (page_first g.P.Pages mid c.in_ok-page.page c.as_slice.result.now c.in_ok-filled.filled.slots c.in_ok-filled.filled.count first made.0 (subst (λ (l : List RowRef). IsRising l) (sym c.as_slice.ensures.value) c.as_slice.ensures.rising) made.1)
    (subst (λ (l : List RowRef). IsRising l) (sym (whole_rows c.as_slice.result.now c.as_slice-2.result.now c.in_ok-filled.filled.count value)) (subst (λ (l : List RowRef). IsRising l) (sym c.as_slice.ensures.value) c.as_slice.ensures.rising)))
    (λ n space. space) (λ m. m) c.in_err-insert_all.ensures.cause)

pub returns-clause-made : goal.returns-clause-made
returns-clause-made g c = λ tells free list.
    let old = c.args.pages.now in
    let mid = c.create_leaf.new.pages in
    let new = c.insert_all.new.pages in
    let value : c.as_slice.result.now ≡ c.as_slice-2.result.now = c.as_slice.ensures.value ∙ sym c.as_slice-2.ensures.value in
    let all = whole_rows c.as_slice.result.now c.as_slice-2.result.now c.in_ok-filled.filled.count value in
    let first = c.in_ok-filled.ensures.filled in
    let made = c.in_ok-page.ensures.made tells 6 first.items free first.is list in
    let done = c.in_ok-insert_all.ensures.inserted tells (take c.in_ok-filled.filled.count c.as_slice.result.now) (c.in_ok-page.page ∷ []) made.0
    (page_first g.P.Pages mid c.in_ok-page.page c.as_slice.result.now c.in_ok-filled.filled.slots c.in_ok-filled.filled.count first made.0 (subst (λ (l : List RowRef). IsRising l) (sym c.as_slice.ensures.value) c.as_slice.ensures.rising) made.1)
    (subst (λ (l : List RowRef). IsRising l) (sym all) (subst (λ (l : List RowRef). IsRising l) (sym c.as_slice.ensures.value) c.as_slice.ensures.rising)) in
    let rows : HoldsRows g.P.Pages new c.in_ok-page.page c.args.rows.now done.0 done.1 = subst (λ (l : List RowRef). HoldsRows g.P.Pages new c.in_ok-page.page l done.0 done.1) (all ∙ c.as_slice.ensures.value) done.2 in (
      done.0,
      done.1,
      subst (λ (t : PostingTree). HoldsRows g.P.Pages new t.page c.args.rows.now done.0 done.1) (sym c.in_ok-insert_all.ensures.same) rows,
      keeps_join g.P.Pages old mid new [] free (c.in_ok-page.page ∷ []) made.0 done.0 done.1 made.2 done.3,
    )

pub returns-clause-by_one : goal.returns-clause-by_one
returns-clause-by_one g c = λ short.
    let rows = c.args.rows.now in
    let value : c.as_slice.result.now ≡ rows = c.as_slice.ensures.value in
    let few : length c.as_slice.result.now ≤ 341 = subst (λ (l : List RowRef). length l ≤ 341) (sym value) (few_rows rows short) in
    let whole = c.in_ok-filled.ensures.whole few in
    let first = c.in_ok-page.ensures.by_one in
    let rest = c.in_ok-insert_all.ensures.by in
    let none = rest_few c.as_slice-2.result.now c.in_ok-filled.filled.count (ap (λ (l : List RowRef). length l) (c.as_slice-2.ensures.value ∙ sym value) ∙ sym whole) in
    omega (arith, first, rest, none)
