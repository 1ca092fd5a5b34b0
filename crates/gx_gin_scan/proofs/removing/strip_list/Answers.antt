use Rattle.std.proofs.Common.{◌≡◌, ◌∷◌, [], ◌∙◌, ◌==◌, true, ℕ, List, length, refl, sym, ap, subst, arith}
use Rattle.std.proofs.lemmas.Slice.Eq.{bytes_eq-Decides}
use Rattle.std.proofs.lemmas.Bool.{eqb-true, false≢true}
use Rattle.std.proofs.lemmas.Result.{IfErr-weaker, err_from_is_err_and, on_ok_weaker}
use Rattle.gx_pages.proofs.Footprints.{cause_weaker}
use Rattle.gx_tree.proofs.Causes.{broken_cause, broken_or}
use Rattle.gx_gin_entry.specs.EntryTrees.{AreShorter, HoldsEntries, IsPut}
use Rattle.gx_gin_scan.specs.Lists.{rows_under}
use Rattle.gx_gin_scan.proofs.Strips.{kept_short, list_short, list_spelled, lost_entry, lost_rows, lost_same, never_shorter, old_entries}
use Rattle.gx_gin_scan.proofs.removing.strip_list.Goals as goal

-- no bytes
no_bytes : (bytes : List ℕ) → (length bytes == 0) ≡ true → bytes ≡ []
no_bytes [] none = refl
no_bytes (byte ∷ bytes) none = let e : length (byte ∷ bytes) ≡ 0 = eqb-true (length (byte ∷ bytes)) 0 none in absurd (omega (arith, e))

pub returns-in_err-kept-clause-cause : goal.returns-in_err-kept-clause-cause
returns-in_err-kept-clause-cause g c =
    let p = err_from_is_err_and c.from_residual.result c.from_residual.ensures.1 in
    let old = c.args.pages.now in
    rw (p.1, p.2)
    (broken_or c.in_err-kept.field-0.0 c.args.root (g.P.Pages.faults old) (g.P.Pages.faults old) _ _ _ _ c.in_err-kept.ensures.cause
    (λ refused at x y tells lists feet free gin front back cut.
    refused (rows_under lists c.args.key.now) (list_spelled g.P.Pages old c.args.root lists feet free gin front c.args.key.now back c.args.gone.now c.args.list.now cut))
    tt)

pub returns-then-eq-clause-stripped : goal.returns-then-eq-clause-stripped
returns-then-eq-clause-stripped g c = λ tells lists feet free gin front back cut.
    lost_same g.P.Pages c.args.pages.now c.args.root lists feet free gin front c.args.key.now back c.args.gone.now c.args.list.now cut c.in_ok-kept.kept c.in_ok-kept.ensures.kept (sym c.as_slice.ensures ∙ (bytes_eq-Decides c.as_slice.result.now c.args.list.now).0 (sym c.eq.ensures ∙ c.if-eq.true))

pub returns-then-is_empty-clause-stripped : goal.returns-then-is_empty-clause-stripped
returns-then-is_empty-clause-stripped g c =
    let old = c.args.pages.now in
    let new = c.remove.new.pages in
    let root = c.args.root in
    let key = c.args.key.now in
    let kept = c.in_ok-kept.kept in
    on_ok_weaker c.remove.result (λ is tells lists feet free gin front back cut.
    let entries = subst (λ (n : ℕ). HoldsEntries g.P.Pages old n gin.held.entries gin.held.keys free) (sym c.at-tree.ensures)
    (old_entries g.P.Pages old root lists feet free gin front key back c.args.gone.now c.args.list.now cut kept c.in_ok-kept.ensures.kept) in
    let out = is tells gin.held.entries gin.held.keys free entries in
    lost_entry g.P.Pages old root lists feet free gin front key back c.args.gone.now c.args.list.now cut kept c.in_ok-kept.ensures.kept (no_bytes kept (sym c.is_empty.ensures ∙ c.if-is_empty.true)) new out.0 out.1
    (subst (λ (n : ℕ). HoldsEntries g.P.Pages new n out.0 out.1 free) c.at-tree.ensures out.2) out.3 out.4)
    c.remove.ensures.removed

pub returns-then-is_empty-clause-cause : goal.returns-then-is_empty-clause-cause
returns-then-is_empty-clause-cause g c =
    let old = c.args.pages.now in
    let new = c.remove.new.pages in
    let root = c.args.root in
    let key = c.args.key.now in
    let kept = c.in_ok-kept.kept in
    IfErr-weaker c.remove.result _ _ (λ error has.
    cause_weaker error (g.P.Pages.faults old) (g.P.Pages.faults old) (g.P.Pages.faults new) (g.P.Pages.faults new)
    _ _ _ _ _ _ (omega arith) (omega arith)
    (λ at expected found refused tells lists feet free gin front back cut.
    refused tells gin.held.entries gin.held.keys free
    (subst (λ (n : ℕ). HoldsEntries g.P.Pages old n gin.held.entries gin.held.keys free) (sym c.at-tree.ensures)
    (old_entries g.P.Pages old root lists feet free gin front key back c.args.gone.now c.args.list.now cut kept c.in_ok-kept.ensures.kept)))
    (λ n none. none) (λ m. m) has)
    c.remove.ensures.cause

pub returns-then-len-gt-LONGEST-clause-cause : goal.returns-then-len-gt-LONGEST-clause-cause
returns-then-len-gt-LONGEST-clause-cause g c =
    let old = c.args.pages.now in
    let kept = c.in_ok-kept.kept in
    broken_cause c.broken.result c.args.root (g.P.Pages.faults old) (g.P.Pages.faults old) _ _ _ c.broken.ensures
    (λ tells lists feet free gin front back cut.
    let few = kept_short g.P.Pages old c.args.root lists feet free gin front c.args.key.now back c.args.gone.now c.args.list.now cut kept c.in_ok-kept.ensures.kept in
    let short = list_short g.P.Pages old c.args.root lists feet free gin front c.args.key.now back c.args.gone.now c.args.list.now cut in
    let size = c.len.ensures in
    let test = c.if-len-gt-LONGEST.true in
    omega (arith, few, short, size, test))

pub returns-in_err-done-clause-cause : goal.returns-in_err-done-clause-cause
returns-in_err-done-clause-cause g c =
    let p = err_from_is_err_and c.from_residual-in_err-done.result c.from_residual-in_err-done.ensures.1 in
    let old = c.args.pages.now in
    let new = c.replace.new.pages in
    let root = c.args.root in
    let key = c.args.key.now in
    let kept = c.in_ok-kept.kept in
    rw (p.1, p.2)
    (cause_weaker c.in_err-done.field-0.0 (g.P.Pages.faults old) (g.P.Pages.faults old) (g.P.Pages.faults new) (g.P.Pages.faults new)
    _ _ _ _ _ _ (omega arith) (omega arith)
    (λ at expected found refused tells lists feet free gin front back cut.
    refused tells gin.held.entries gin.held.keys free
    (subst (λ (n : ℕ). HoldsEntries g.P.Pages old n gin.held.entries gin.held.keys free) (sym c.at-tree.ensures)
    (old_entries g.P.Pages old root lists feet free gin front key back c.args.gone.now c.args.list.now cut kept c.in_ok-kept.ensures.kept)))
    (λ n none. none) (λ m. m) c.in_err-done.ensures.cause)

pub returns-then-done-clause-stripped : goal.returns-then-done-clause-stripped
returns-then-done-clause-stripped g c = λ tells lists feet free gin front back cut.
    let old = c.args.pages.now in
    let new = c.replace.new.pages in
    let root = c.args.root in
    let key = c.args.key.now in
    let kept = c.in_ok-kept.kept in
    let entries = subst (λ (n : ℕ). HoldsEntries g.P.Pages old n gin.held.entries gin.held.keys free) (sym c.at-tree.ensures)
    (old_entries g.P.Pages old root lists feet free gin front key back c.args.gone.now c.args.list.now cut kept c.in_ok-kept.ensures.kept) in
    let put = c.in_ok-done.ensures.replaced c.if-done.true tells gin.held.entries gin.held.keys free entries in
    let posting = c.as_slice-3.ensures ∙ c.in-Ok.ensures ∙ ap (λ (l : List ℕ). 0 ∷ l) c.as_slice-2.ensures in
    let size = c.len.ensures in
    let test = c.if-len-gt-LONGEST.false in
    lost_rows g.P.Pages old root lists feet free gin front key back c.args.gone.now c.args.list.now cut kept c.in_ok-kept.ensures.kept (λ none. false≢true (sym c.if-is_empty.false ∙ c.is_empty.ensures ∙ ap (λ (l : List ℕ). length l == 0) none)) (omega (arith, size, test)) new put.0 put.1
    (subst (λ (n : ℕ). HoldsEntries g.P.Pages new n put.0 put.1 free) c.at-tree.ensures put.2) put.3 (subst (λ (l : List ℕ). IsPut key l gin.held.entries put.0) posting put.4)

pub returns-clause-cause : goal.returns-clause-cause
returns-clause-cause g c =
    let old = c.args.pages.now in
    let new = c.replace.new.pages in
    let root = c.args.root in
    let key = c.args.key.now in
    let kept = c.in_ok-kept.kept in
    let posting = c.as_slice-3.ensures ∙ c.in-Ok.ensures ∙ ap (λ (l : List ℕ). 0 ∷ l) c.as_slice-2.ensures in
    broken_cause c.broken-else-done.result c.args.root (g.P.Pages.faults old) (g.P.Pages.faults new) _ _ _ c.broken-else-done.ensures
    (λ tells lists feet free gin front back cut.
    never_shorter g.P.Pages old root lists feet free gin front key back c.args.gone.now c.args.list.now cut kept c.in_ok-kept.ensures.kept
    (subst (λ (l : List ℕ). AreShorter gin.held.entries key l) posting
    (c.in_ok-done.ensures.shorter c.if-done.false tells gin.held.entries gin.held.keys free
    (subst (λ (n : ℕ). HoldsEntries g.P.Pages old n gin.held.entries gin.held.keys free) (sym c.at-tree.ensures)
    (old_entries g.P.Pages old root lists feet free gin front key back c.args.gone.now c.args.list.now cut kept c.in_ok-kept.ensures.kept)))))
