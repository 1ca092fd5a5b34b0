use Rattle.std.proofs.Common.{◌∷◌, ◌∙◌, ℕ, List, inr, ap, subst, arith}
use Rattle.std.proofs.lemmas.Result.{err_from_is_err_and}
use Rattle.gx_bytes.specs.Fields.{le64}
use Rattle.gx_pages.specs.declared.row.RowRef.{RowRef}
use Rattle.gx_pages.proofs.Footprints.{cause_weaker}
use Rattle.gx_posting_tree.specs.PostingTrees.{HoldsList}
use Rattle.gx_gin_scan.proofs.growing.tree_of.Goals as goal

pub returns-in_err-tree-clause-cause : goal.returns-in_err-tree-clause-cause
returns-in_err-tree-clause-cause g c =
    let p = err_from_is_err_and c.from_residual-in_err-tree.result c.from_residual-in_err-tree.ensures.1 in
    let old = c.args.pages.now in
    rw (p.1, p.2)
    (cause_weaker c.in_err-tree.field-0.0 (g.P.Pages.faults old) (g.P.Pages.faults old) (g.P.Pages.faults c.create.new.pages) (g.P.Pages.faults c.create.new.pages)
    _ _ _ _ _ _ (omega arith) (omega arith) (λ at expected found refused tells rows free spells list. refused tells free list) (λ n space. space) (λ m. m) c.in_err-tree.ensures.cause)

pub returns-in-Ok-clause-made : goal.returns-in-Ok-clause-made
returns-in-Ok-clause-made g c = λ tells rows free spells list.
    let new = c.create.new.pages in
    let made = c.in_ok-tree.ensures.made tells free list in (
      made.0,
      made.1,
      inr (record {
        root = c.in_ok-tree.tree.page;
        is = c.in-Ok.ensures.tree ∙ ap (λ (n : ℕ). 1 ∷ le64 n) c.root.ensures;
        held = subst (λ (l : List RowRef). HoldsList (g.P.Pages.map new) (g.P.Pages.count new) c.in_ok-tree.tree.page l made.0) (c.in_ok-rows.ensures.rows rows spells) made.2.held;
      }),
      made.3,
    )
