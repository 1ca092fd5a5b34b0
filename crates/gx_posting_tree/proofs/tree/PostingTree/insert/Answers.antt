use Rattle.std.proofs.Common.{◌++◌, ◌∷◌, [], ℕ, List, refl, sym, subst, arith}
use Rattle.std.proofs.lemmas.Result.{err_from_is_err_and}
use Rattle.gx_pages.specs.declared.row.RowRef.{RowRef}
use Rattle.gx_pages.specs.Footprints.{KeepsPages}
use Rattle.gx_pages.specs.Rows.{AreBelow}
use Rattle.gx_pages.proofs.Footprints.{cause_weaker}
use Rattle.gx_tree.specs.Trees.{entries}
use Rattle.gx_posting_tree.specs.PostingTrees.{HoldsRows}
use Rattle.gx_posting_tree.proofs.Appended.{allowed_all, appended}
use Rattle.gx_posting_tree.proofs.Held.{beside}
use Rattle.gx_posting_tree.proofs.tree.PostingTree.insert.Goals as goal

pub returns-in_err-change_tree-clause-cause : goal.returns-in_err-change_tree-clause-cause
returns-in_err-change_tree-clause-cause g c =
    let p = err_from_is_err_and c.from_residual.result c.from_residual.ensures.1 in
    let old = c.args.pages.now in
    let root = c.args.self.now.page in
    let row = c.in-Ok.change.row in
    rw (p.1, p.2)
    (cause_weaker c.in_err-change_tree.field-0.0 (g.P.Pages.faults old) (g.P.Pages.faults old) (g.P.Pages.faults c.change_tree.new.pages) (g.P.Pages.faults c.change_tree.new.pages)
    _ _ _ _ _ _ (omega arith) (omega arith)
    (λ at expected found refused tells rows feet free held below.
    let low : AreBelow rows row.number = subst (λ (r : RowRef). AreBelow rows r.number) (sym c.in-Ok.ensures.made) below in
    refused tells held.held.tree free (beside g.P.Pages old root rows feet free held) held.held.keyed (record { number = row.number; fits = c.in-Ok.ensures.fits; is = refl })
    (allowed_all row (entries held.held.tree) rows held.held.spelled low))
    (λ n space. space) (λ m. m) c.in_err-change_tree.ensures.cause)

pub returns-clause-inserted : goal.returns-clause-inserted
returns-clause-inserted g c = λ tells rows feet free held below.
    let old = c.args.pages.now in
    let root = c.args.self.now.page in
    let row = c.in-Ok.change.row in
    let low : AreBelow rows row.number = subst (λ (r : RowRef). AreBelow rows r.number) (sym c.in-Ok.ensures.made) below in
    let changed = c.in_ok-change_tree.ensures.changed tells held.held.tree free (beside g.P.Pages old root rows feet free held) held.held.keyed (record { number = row.number; fits = c.in-Ok.ensures.fits; is = refl })
    (allowed_all row (entries held.held.tree) rows held.held.spelled low) in
    let done = appended g.P.Pages old c.change_tree.new.pages root row rows feet free held low changed in
    subst (λ (r : RowRef). (later : List ℕ) × (rest : List ℕ) × HoldsRows g.P.Pages c.change_tree.new.pages root (rows ++ r ∷ []) later rest × KeepsPages g.P.Pages old c.change_tree.new.pages feet free later rest) c.in-Ok.ensures.made done
