use Rattle.std.proofs.Common.{ℕ, sym, subst}
use Rattle.std.proofs.lemmas.Result.{IfOk-weaker, on_ok_weaker}
use Rattle.gx_posting_tree.specs.PostingTrees.{HoldsList}
use Rattle.gx_index.proofs.NullRows.{broken_weaker, some_held}
use Rattle.gx_index.proofs.nulls.find_nulls.Goals as goal

pub returns-clause-found : goal.returns-clause-found
returns-clause-found g c =
    let old = c.args.pages.now in
    IfOk-weaker c.rows.result _ _ (λ found is tells rows feet held.
    is tells rows feet (subst (λ (n : ℕ). HoldsList (g.P.Pages.map old) (g.P.Pages.count old) n rows feet) (sym c.at.ensures)
    (some_held (g.P.Pages.map old) (g.P.Pages.count old) c.args.nulls rows feet c.if-nulls-eq0.false held).held)) c.rows.ensures.rows

pub returns-clause-cause : goal.returns-clause-cause
returns-clause-cause g c =
    let old = c.args.pages.now in
    broken_weaker c.rows.result _ _ _ _ _ _ (λ at x y none tells rows feet held.
    none tells rows feet (subst (λ (n : ℕ). HoldsList (g.P.Pages.map old) (g.P.Pages.count old) n rows feet) (sym c.at.ensures)
    (some_held (g.P.Pages.map old) (g.P.Pages.count old) c.args.nulls rows feet c.if-nulls-eq0.false held).held)) c.rows.ensures.cause

pub returns-clause-fetches : goal.returns-clause-fetches
returns-clause-fetches g c =
    let old = c.args.pages.now in
    on_ok_weaker c.rows.result (λ few tells rows feet held.
    few tells rows feet (subst (λ (n : ℕ). HoldsList (g.P.Pages.map old) (g.P.Pages.count old) n rows feet) (sym c.at.ensures)
    (some_held (g.P.Pages.map old) (g.P.Pages.count old) c.args.nulls rows feet c.if-nulls-eq0.false held).held)) c.rows.ensures.fetches
