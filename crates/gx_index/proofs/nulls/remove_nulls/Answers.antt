use Rattle.std.proofs.Common.{ℕ, sym, subst, ◌∙◌, arith, true≢false}
use Rattle.gx_pages.proofs.Footprints.{cause_weaker}
use Rattle.gx_posting_tree.specs.PostingTrees.{HoldsRows, without}
use Rattle.gx_index.proofs.NullRows.{none_left, of_posting, posting_of}
use Rattle.gx_index.proofs.nulls.remove_nulls.Goals as goal

pub returns-in-Ok-clause-removed : goal.returns-in-Ok-clause-removed
returns-in-Ok-clause-removed g c tells rows feet free held =
    let old = c.args.pages.now in
    let mid = c.remove_rows.new.pages in
    let new = c.drop_all.new.pages in
    let less = without c.args.gone.now rows in
    let h = posting_of g.P.Pages old c.at-tree.result.page c.args.nulls rows feet free c.at-tree.ensures c.if-nulls-eq0.false held in
    let lost = c.in-Ok-true.ensures.removed tells rows feet free h in
    let none = (c.in-Ok-true.ensures.empty tells rows feet free h).0 c.in-Ok-true.field-0-test in
    let done = c.in-Ok.ensures.dropped tells less feet free (subst (λ t. HoldsRows g.P.Pages mid t.page less feet free) (sym c.remove_rows.ensures.same) lost.0) in
    none_left g.P.Pages old mid new less feet free done.0 none held.apart (c.drop_all.ensures.count ∙ c.remove_rows.ensures.count) lost.1 done.1

pub returns-in-Err-drop_all-clause-cause : goal.returns-in-Err-drop_all-clause-cause
returns-in-Err-drop_all-clause-cause g c =
    let old = c.args.pages.now in
    let mid = c.remove_rows.new.pages in
    cause_weaker c.in-Err-drop_all.error (g.P.Pages.faults old) (g.P.Pages.faults mid) (g.P.Pages.faults c.drop_all.new.pages) (g.P.Pages.faults c.drop_all.new.pages) _ _ _ _ _ _
    c.remove_rows.ensures.quiet.faults (omega arith)
    (λ at x y no tells rows feet free held.
    let less = without c.args.gone.now rows in
    let h = posting_of g.P.Pages old c.at-tree.result.page c.args.nulls rows feet free c.at-tree.ensures c.if-nulls-eq0.false held in
    let lost = c.in-Ok-true.ensures.removed tells rows feet free h in
    no tells less feet free (subst (λ t. HoldsRows g.P.Pages mid t.page less feet free) (sym c.remove_rows.ensures.same) lost.0))
    (λ n s. s) (λ m. m) c.in-Err-drop_all.ensures.cause

pub returns-in-Ok-false-clause-removed : goal.returns-in-Ok-false-clause-removed
returns-in-Ok-false-clause-removed g c tells rows feet free held =
    let old = c.args.pages.now in
    let mid = c.remove_rows.new.pages in
    let less = without c.args.gone.now rows in
    let h = posting_of g.P.Pages old c.at-tree.result.page c.args.nulls rows feet free c.at-tree.ensures c.if-nulls-eq0.false held in
    let lost = c.in-Ok-false.ensures.removed tells rows feet free h in
    let told = c.in-Ok-false.ensures.empty tells rows feet free h in (
      feet,
      free,
      of_posting g.P.Pages mid c.args.nulls less feet free (λ e. absurd (true≢false (sym (told.1 e) ∙ c.in-Ok-false.field-0-test)))
          (subst (λ (n : ℕ). HoldsRows g.P.Pages mid n less feet free) c.at-tree.ensures lost.0),
      lost.1,
    )

pub returns-in-Err-clause-cause : goal.returns-in-Err-clause-cause
returns-in-Err-clause-cause g c =
    cause_weaker c.in-Err.error _ _ _ _ _ _ _ _ _ _ (omega arith) (omega arith)
    (λ at x y no tells rows feet free held. no tells rows feet free
    (posting_of g.P.Pages c.args.pages.now c.at-tree.result.page c.args.nulls rows feet free c.at-tree.ensures c.if-nulls-eq0.false held))
    (λ n s. s) (λ m. m) c.in-Err.ensures.cause
