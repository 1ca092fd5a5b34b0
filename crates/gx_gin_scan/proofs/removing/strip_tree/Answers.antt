use Rattle.std.proofs.Common.{[], ◌∙◌, ℕ, sym, subst, arith}
use Rattle.std.proofs.lemmas.Bool.{false≢true}
use Rattle.std.proofs.lemmas.Result.{IfErr-weaker, err_from_is_err_and, on_ok_weaker}
use Rattle.gx_pages.proofs.Footprints.{cause_weaker, keeps_join}
use Rattle.gx_posting_tree.specs.PostingTrees.{HoldsRows, without}
use Rattle.gx_posting_tree.specs.declared.tree.PostingTree.{PostingTree}
use Rattle.gx_gin_entry.specs.EntryTrees.{HoldsEntries}
use Rattle.gx_gin_scan.proofs.Strips.{entries_left, lost_in_tree, lost_tree, t, tree_rows}
use Rattle.gx_gin_scan.proofs.removing.strip_tree.Goals as goal

pub returns-in_err-empty-clause-cause : goal.returns-in_err-empty-clause-cause
returns-in_err-empty-clause-cause g c =
    let p = err_from_is_err_and c.from_residual.result c.from_residual.ensures.1 in
    let old = c.args.pages.now in
    let new = c.remove_rows.new.pages in
    rw (p.1, p.2)
    (cause_weaker c.in_err-empty.field-0.0 (g.P.Pages.faults old) (g.P.Pages.faults old) (g.P.Pages.faults new) (g.P.Pages.faults new)
    _ _ _ _ _ _ (omega arith) (omega arith)
    (λ at expected found refused tells lists feet free gin front back cut.
    let few = g.met.P.Pages.bounded old in
    let o = t g.P.Pages old c.args.root lists feet free gin front c.args.key.now back c.args.gone.now c.args.tree few c.ranges.tree.fits cut in
    refused tells o.rows o.own free (subst (λ (n : ℕ). HoldsRows g.P.Pages old n o.rows o.own free) (sym c.at-rows.ensures)
    (tree_rows g.P.Pages old c.args.root lists feet free gin front c.args.key.now back c.args.gone.now c.args.tree few c.ranges.tree.fits cut)))
    (λ n none. none) (λ m. m) c.in_err-empty.ensures.cause)

pub returns-then-not-empty-clause-stripped : goal.returns-then-not-empty-clause-stripped
returns-then-not-empty-clause-stripped g c = λ tells lists feet free gin front back cut.
    let old = c.args.pages.now in
    let new = c.remove_rows.new.pages in
    let gone = c.args.gone.now in
    let few = g.met.P.Pages.bounded old in
    let o = t g.P.Pages old c.args.root lists feet free gin front c.args.key.now back gone c.args.tree few c.ranges.tree.fits cut in
    let rows = subst (λ (n : ℕ). HoldsRows g.P.Pages old n o.rows o.own free) (sym c.at-rows.ensures)
    (tree_rows g.P.Pages old c.args.root lists feet free gin front c.args.key.now back gone c.args.tree few c.ranges.tree.fits cut) in
    let left = c.in_ok-empty.ensures.removed tells o.rows o.own free rows in
    let tells_empty = c.in_ok-empty.ensures.empty tells o.rows o.own free rows in
    lost_in_tree g.P.Pages old c.args.root lists feet free gin front c.args.key.now back gone c.args.tree few c.ranges.tree.fits cut new
    (λ none. false≢true (sym c.if-not-empty.true ∙ tells_empty.1 none))
    (subst (λ (n : ℕ). HoldsRows g.P.Pages new n (without gone o.rows) o.own free) c.at-rows.ensures left.0) left.1

pub returns-in_err-drop_all-clause-cause : goal.returns-in_err-drop_all-clause-cause
returns-in_err-drop_all-clause-cause g c =
    let p = err_from_is_err_and c.from_residual-in_err-drop_all.result c.from_residual-in_err-drop_all.ensures.1 in
    let old = c.args.pages.now in
    let mid = c.remove_rows.new.pages in
    let new = c.drop_all.new.pages in
    let gone = c.args.gone.now in
    rw (p.1, p.2)
    (cause_weaker c.in_err-drop_all.field-0.0 (g.P.Pages.faults old) (g.P.Pages.faults mid) (g.P.Pages.faults new) (g.P.Pages.faults new)
    _ _ _ _ _ _ (let q = c.in_ok-empty.ensures.quiet.faults in omega (arith, q)) (omega arith)
    (λ at expected found refused tells lists feet free gin front back cut.
    let few = g.met.P.Pages.bounded old in
    let o = t g.P.Pages old c.args.root lists feet free gin front c.args.key.now back gone c.args.tree few c.ranges.tree.fits cut in
    let left = c.in_ok-empty.ensures.removed tells o.rows o.own free (subst (λ (n : ℕ). HoldsRows g.P.Pages old n o.rows o.own free) (sym c.at-rows.ensures)
    (tree_rows g.P.Pages old c.args.root lists feet free gin front c.args.key.now back gone c.args.tree few c.ranges.tree.fits cut)) in
    refused tells (without gone o.rows) o.own free (subst (λ (x : PostingTree). HoldsRows g.P.Pages mid x.page (without gone o.rows) o.own free) (sym c.in_ok-empty.ensures.same) left.0))
    (λ n none. none) (λ m. m) c.in_err-drop_all.ensures.cause)

pub returns-clause-stripped : goal.returns-clause-stripped
returns-clause-stripped g c =
    let old = c.args.pages.now in
    let mid = c.remove_rows.new.pages in
    let bare = c.drop_all.new.pages in
    let new = c.remove.new.pages in
    let gone = c.args.gone.now in
    let root = c.args.root in
    let key = c.args.key.now in
    let few = g.met.P.Pages.bounded old in
    on_ok_weaker c.remove.result (λ is tells lists feet free gin front back cut.
    let o = t g.P.Pages old root lists feet free gin front key back gone c.args.tree few c.ranges.tree.fits cut in
    let rows = subst (λ (n : ℕ). HoldsRows g.P.Pages old n o.rows o.own free) (sym c.at-rows.ensures)
    (tree_rows g.P.Pages old root lists feet free gin front key back gone c.args.tree few c.ranges.tree.fits cut) in
    let left = c.in_ok-empty.ensures.removed tells o.rows o.own free rows in
    let none = (c.in_ok-empty.ensures.empty tells o.rows o.own free rows).0 c.if-not-empty.false in
    let dropped = c.in_ok-drop_all.ensures.dropped tells (without gone o.rows) o.own free (subst (λ (x : PostingTree). HoldsRows g.P.Pages mid x.page (without gone o.rows) o.own free) (sym c.in_ok-empty.ensures.same) left.0) in
    let keeps = keeps_join g.P.Pages old mid bare o.own free o.own free [] dropped.0 left.1 dropped.1 in
    let entries = entries_left g.P.Pages old root lists feet free gin front key back gone c.args.tree few c.ranges.tree.fits cut bare dropped.0 keeps in
    let out = is tells gin.held.entries gin.held.keys dropped.0 (subst (λ (n : ℕ). HoldsEntries g.P.Pages bare n gin.held.entries gin.held.keys dropped.0) (sym c.at-entries.ensures) entries) in
    lost_tree g.P.Pages old root lists feet free gin front key back gone c.args.tree few c.ranges.tree.fits cut bare dropped.0 keeps none new out.0 out.1
    (subst (λ (n : ℕ). HoldsEntries g.P.Pages new n out.0 out.1 dropped.0) c.at-entries.ensures out.2) out.3 out.4)
    c.remove.ensures.removed

pub returns-clause-cause : goal.returns-clause-cause
returns-clause-cause g c =
    let old = c.args.pages.now in
    let mid = c.remove_rows.new.pages in
    let bare = c.drop_all.new.pages in
    let new = c.remove.new.pages in
    let gone = c.args.gone.now in
    let root = c.args.root in
    let key = c.args.key.now in
    let few = g.met.P.Pages.bounded old in
    IfErr-weaker c.remove.result _ _ (λ error has.
    cause_weaker error (g.P.Pages.faults old) (g.P.Pages.faults bare) (g.P.Pages.faults new) (g.P.Pages.faults new)
    _ _ _ _ _ _ (let q = c.in_ok-empty.ensures.quiet.faults in let r = c.in_ok-drop_all.ensures.quiet.faults in omega (arith, q, r)) (omega arith)
    (λ at expected found refused tells lists feet free gin front back cut.
    let o = t g.P.Pages old root lists feet free gin front key back gone c.args.tree few c.ranges.tree.fits cut in
    let rows = subst (λ (n : ℕ). HoldsRows g.P.Pages old n o.rows o.own free) (sym c.at-rows.ensures)
    (tree_rows g.P.Pages old root lists feet free gin front key back gone c.args.tree few c.ranges.tree.fits cut) in
    let left = c.in_ok-empty.ensures.removed tells o.rows o.own free rows in
    let dropped = c.in_ok-drop_all.ensures.dropped tells (without gone o.rows) o.own free (subst (λ (x : PostingTree). HoldsRows g.P.Pages mid x.page (without gone o.rows) o.own free) (sym c.in_ok-empty.ensures.same) left.0) in
    let keeps = keeps_join g.P.Pages old mid bare o.own free o.own free [] dropped.0 left.1 dropped.1 in
    refused tells gin.held.entries gin.held.keys dropped.0 (subst (λ (n : ℕ). HoldsEntries g.P.Pages bare n gin.held.entries gin.held.keys dropped.0) (sym c.at-entries.ensures)
    (entries_left g.P.Pages old root lists feet free gin front key back gone c.args.tree few c.ranges.tree.fits cut bare dropped.0 keeps)))
    (λ n none. none) (λ m. m) has)
    c.remove.ensures.cause
