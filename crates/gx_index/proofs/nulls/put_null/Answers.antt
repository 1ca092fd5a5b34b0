use Rattle.std.proofs.Common.{rules, List, ℕ}
use Rattle.std.proofs.lemmas.Result.{IfOk-weaker}
use Rattle.gx_pages.specs.declared.row.RowRef.{RowRef}
use Rattle.gx_pages.specs.Rows.{AreBelow}
use Rattle.gx_posting_tree.specs.PostingTrees.{HoldsRows}
use Rattle.gx_index.proofs.NullRows.{broken_weaker, from_none, more_made, posting_of}
use Rattle.gx_index.proofs.nulls.put_null.Goals as goal

pub returns-then-nulls-eq0-clause-put : goal.returns-then-nulls-eq0-clause-put
returns-then-nulls-eq0-clause-put g c =
    IfOk-weaker c.first_null.result _ _ (λ root put tells rows feet free held below.
    from_none g.P.Pages c.args.pages.now c.first_null.new.pages c.args.nulls root c.args.row rows feet free c.if-nulls-eq0.true held (put tells free)) c.first_null.ensures.put

pub returns-in_err-insert-clause-cause : goal.returns-in_err-insert-clause-cause
returns-in_err-insert-clause-cause g c =
    broken_weaker c.from_residual.result _ _
    (λ at expected found. g.P.Pages.tells → (rows : List RowRef) (feet free : List ℕ) → HoldsRows g.P.Pages c.args.pages.now c.at-tree.result.page rows feet free → AreBelow rows c.args.row.number → ⊥) _ _ _
    (λ at x y none tells rows feet free held below. none tells rows feet free
    (posting_of g.P.Pages c.args.pages.now c.at-tree.result.page c.args.nulls rows feet free c.at-tree.ensures c.if-nulls-eq0.false held) below) (search rules)

pub returns-clause-put : goal.returns-clause-put
returns-clause-put g c tells rows feet free held below =
    more_made g.P.Pages c.args.pages.now c.insert.new.pages c.args.nulls c.at-tree.result.page c.args.row rows feet free c.at-tree.ensures
    (c.in_ok-insert.ensures.inserted tells rows feet free
    (posting_of g.P.Pages c.args.pages.now c.at-tree.result.page c.args.nulls rows feet free c.at-tree.ensures c.if-nulls-eq0.false held) below)
