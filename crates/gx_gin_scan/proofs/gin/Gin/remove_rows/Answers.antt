use Rattle.std.proofs.Common.{◌≡◌, ◌∙◌, ℕ, List, sym, ap, subst, arith}
use Rattle.std.proofs.lemmas.Result.{IfErr-weaker, err_from_is_err_and, on_ok_weaker}
use Rattle.gx_pages.proofs.Footprints.{cause_weaker, keeps_from}
use Rattle.gx_gin_entry.specs.EntryTrees.{HoldsMap}
use Rattle.gx_gin_entry.specs.Listed.{entries_of}
use Rattle.gx_gin_entry.specs.declared.listing.EntryBytes.{EntryBytes}
use Rattle.gx_gin_scan.proofs.Puts.{gin_at}
use Rattle.gx_gin_scan.proofs.Strips.{index_stays}
use Rattle.gx_gin_scan.proofs.gin.Gin.remove_rows.Goals as goal

pub returns-in_err-entries-clause-cause : goal.returns-in_err-entries-clause-cause
returns-in_err-entries-clause-cause g c =
    let p = err_from_is_err_and c.from_residual.result c.from_residual.ensures.1 in
    let old = c.args.pages.now in
    rw (p.1, p.2)
    (cause_weaker c.in_err-entries.field-0.0 (g.P.Pages.faults old) (g.P.Pages.faults old) (g.P.Pages.faults c.entries.new.pages) (g.P.Pages.faults c.entries.new.pages)
    _ _ _ _ _ _ (omega arith) (omega arith)
    (λ at expected found refused tells lists feet free gin.
    refused tells gin.held.entries gin.held.keys (subst (λ (n : ℕ). HoldsMap (g.P.Pages.map old) (g.P.Pages.count old) n gin.held.entries gin.held.keys) (sym c.at.ensures) gin.held.held))
    (λ n none. none) (λ m. m) c.in_err-entries.ensures.cause)

pub returns-clause-removed : goal.returns-clause-removed
returns-clause-removed g c =
    let old = c.args.pages.now in
    let mid = c.entries.new.pages in
    let new = c.strip_entries.new.pages in
    let root = c.args.self.now.root in
    on_ok_weaker c.strip_entries.result (λ is tells lists feet free gin all index.
    let listed = c.in_ok-entries.ensures.entries tells gin.held.entries gin.held.keys (subst (λ (n : ℕ). HoldsMap (g.P.Pages.map old) (g.P.Pages.count old) n gin.held.entries gin.held.keys) (sym c.at.ensures) gin.held.held) in
    let same : entries_of c.as_slice.result.now ≡ gin.held.entries = ap (λ (l : List EntryBytes). entries_of l) c.as_slice.ensures.value ∙ listed in
    let lost = is tells lists feet free (gin_at g.P.Pages old mid root lists feet free c.in_ok-entries.ensures.map c.in_ok-entries.ensures.count gin) (sym same) in (
      lost.after,
      lost.later,
      lost.rest,
      lost.gin,
      keeps_from g.P.Pages old mid new feet free lost.later lost.rest c.in_ok-entries.ensures.map c.in_ok-entries.ensures.count lost.keeps,
      index_stays (g.C.GinClass.items_of c.args.self.now.class) g.P.Pages new root lists lost.after lost.later lost.rest c.args.gone.now all index lost.gin lost.under,
    ))
    c.strip_entries.ensures.stripped

pub returns-clause-cause : goal.returns-clause-cause
returns-clause-cause g c =
    let old = c.args.pages.now in
    let mid = c.entries.new.pages in
    let new = c.strip_entries.new.pages in
    let root = c.args.self.now.root in
    IfErr-weaker c.strip_entries.result _ _ (λ error has.
    cause_weaker error (g.P.Pages.faults old) (g.P.Pages.faults mid) (g.P.Pages.faults new) (g.P.Pages.faults new)
    _ _ _ _ _ _ (let q = c.in_ok-entries.ensures.quiet.faults in omega (arith, q)) (omega arith)
    (λ at expected found refused tells lists feet free gin.
    let listed = c.in_ok-entries.ensures.entries tells gin.held.entries gin.held.keys (subst (λ (n : ℕ). HoldsMap (g.P.Pages.map old) (g.P.Pages.count old) n gin.held.entries gin.held.keys) (sym c.at.ensures) gin.held.held) in
    let same : entries_of c.as_slice.result.now ≡ gin.held.entries = ap (λ (l : List EntryBytes). entries_of l) c.as_slice.ensures.value ∙ listed in
    refused tells lists feet free (gin_at g.P.Pages old mid root lists feet free c.in_ok-entries.ensures.map c.in_ok-entries.ensures.count gin) (sym same))
    (λ n none. none) (λ m. m) has)
    c.strip_entries.ensures.cause
