use Rattle.std.proofs.Common.{◌++◌, ◌∷◌, [], ℕ, List, take, get_or, refl, sym, ◌∙◌, subst, arith}
use Rattle.std.proofs.lemmas.Result.{err_from_is_err_and}
use Rattle.gx_pages.specs.declared.row.RowRef.{RowRef}
use Rattle.gx_pages.specs.Footprints.{KeepsPages}
use Rattle.gx_pages.specs.Rows.{AreBelow}
use Rattle.gx_pages.proofs.Footprints.{cause_weaker, quiet_join, quiet_none}
use Rattle.gx_posting_tree.specs.PostingTrees.{HoldsRows}
use Rattle.gx_posting_tree.specs.declared.tree.PostingTree.{PostingTree}
use Rattle.gx_posting_tree.proofs.Fills.{all_put, inserted_more, next_below, put_none, walk_cut}
use Rattle.gx_posting_tree.proofs.tree.PostingTree.insert_all.Goals as goal

abbrev zero_row : RowRef
zero_row = record { number = 0; page = 0; slot = 0 }

pub returns-in_err-insert-clause-cause : goal.returns-in_err-insert-clause-cause
returns-in_err-insert-clause-cause g c =
    let p = err_from_is_err_and c.from_residual.result c.from_residual.ensures.1 in
    let old = c.args.pages.now in
    let mid = c.loop-row.pages in
    let i = c.loop-row.row-index in
    rw (p.1, p.2)
    (cause_weaker c.in_err-insert.field-0.0 (g.P.Pages.faults old) (g.P.Pages.faults mid) (g.P.Pages.faults c.insert.new.pages) (g.P.Pages.faults c.insert.new.pages)
    _ _ _ _ _ _ (let q = c.loop-row.invariant.quiet.faults in omega (arith, q)) (omega arith)
    (λ at expected found refused tells list feet free held rising.
    let so_far = c.loop-row.invariant.inserted tells list feet free held rising in
    refused tells (list ++ take i c.args.rows.now) so_far.0 so_far.1
    (subst (λ (t : PostingTree). HoldsRows g.P.Pages mid t.page (list ++ take i c.args.rows.now) so_far.0 so_far.1) (sym c.loop-row.invariant.same) so_far.2)
    (next_below list c.args.rows.now i (get_or c.args.rows.now i zero_row) rising (walk_cut c.args.rows.now i c.loop-row-test.true zero_row)))
    (λ n space. space) (λ m. m) c.in_err-insert.ensures.cause)

pub loop-row-preserved : goal.loop-row-preserved
loop-row-preserved g c =
    let old = c.args.pages.now in
    let mid = c.loop-row.pages in
    let new = c.insert.new.pages in
    let i = c.loop-row.row-index in
    let row = get_or c.args.rows.now i zero_row in
    record {
      inserted = λ tells list feet free held rising.
          let so_far = c.loop-row.invariant.inserted tells list feet free held rising in
          inserted_more g.P.Pages old mid new c.args.self.now.page list c.args.rows.now i c.loop-row-test.true zero_row feet free so_far.0 so_far.1 rising so_far.2 so_far.3
          (subst (λ (t : PostingTree). (l : List RowRef) (f r : List ℕ) → HoldsRows g.P.Pages mid t.page l f r → AreBelow l row.number
          → (later : List ℕ) × (rest : List ℕ) × HoldsRows g.P.Pages new t.page (l ++ row ∷ []) later rest × KeepsPages g.P.Pages mid new f r later rest)
          c.loop-row.invariant.same (c.in_ok-insert.ensures.inserted tells));
      same = c.in_ok-insert.ensures.same ∙ c.loop-row.invariant.same;
      grows = (let a = c.loop-row.invariant.grows in let b = c.in_ok-insert.ensures.grows in omega (arith, a, b));
      by = (let a = c.loop-row.invariant.by in let b = c.in_ok-insert.ensures.by in omega (arith, a, b));
      heap = c.in_ok-insert.ensures.heap tt ∙ c.loop-row.invariant.heap;
      quiet = quiet_join g.P.Pages g.met.P.Pages.follows_on old mid new c.loop-row.invariant.quiet c.in_ok-insert.ensures.quiet;
    }

pub loop-row-init : goal.loop-row-init
loop-row-init g c = record {
  inserted = λ tells list feet free held rising. put_none g.P.Pages c.args.pages.now c.args.self.now.page list c.args.rows.now feet free held;
  same = refl;
  grows = omega arith;
  by = omega arith;
  heap = refl;
  quiet = quiet_none g.P.Pages g.met.P.Pages.follows_itself c.args.pages.now;
}

pub returns-clause-inserted : goal.returns-clause-inserted
returns-clause-inserted g c = λ tells list feet free held rising.
    let so_far = c.loop-row.invariant.inserted tells list feet free held rising in
    let past = c.loop-row-test.false in (
      so_far.0,
      so_far.1,
      subst (λ (l : List RowRef). HoldsRows g.P.Pages c.loop-row.pages c.args.self.now.page l so_far.0 so_far.1) (all_put list c.args.rows.now c.loop-row.row-index (omega (arith, past))) so_far.2,
      so_far.3,
    )
