use Rattle.std.proofs.Common.{◌≡◌, ◌∙◌, ℕ, List, sym, ap, subst, arith}
use Rattle.std.proofs.lemmas.Result.{IfOk-weaker, IfErr-weaker, err_from_is_err_and}
use Rattle.gx_pages.proofs.Footprints.{cause_weaker}
use Rattle.gx_gin_entry.specs.EntryTrees.{HoldsMap}
use Rattle.gx_gin_entry.specs.Listed.{entries_of}
use Rattle.gx_gin_entry.specs.declared.listing.EntryBytes.{EntryBytes}
use Rattle.gx_gin_scan.proofs.Listed.{held_at}
use Rattle.gx_gin_scan.proofs.looking.every_row.Goals as goal

pub returns-in_err-entries-clause-cause : goal.returns-in_err-entries-clause-cause
returns-in_err-entries-clause-cause g c =
    let p = err_from_is_err_and c.from_residual.result c.from_residual.ensures.1 in
    let old = c.args.pages.now in
    rw (p.1, p.2)
    (cause_weaker c.in_err-entries.field-0.0 (g.P.Pages.faults old) (g.P.Pages.faults old) (g.P.Pages.faults c.entries.new.pages) (g.P.Pages.faults c.entries.new.pages)
    _ _ _ _ _ _ (omega arith) (omega arith)
    (λ at expected found refused tells lists feet held.
    refused tells held.entries held.keys (subst (λ (n : ℕ). HoldsMap (g.P.Pages.map old) (g.P.Pages.count old) n held.entries held.keys) (sym c.at.ensures) held.held))
    (λ n none. none) (λ m. m) c.in_err-entries.ensures.cause)

pub returns-clause-rows : goal.returns-clause-rows
returns-clause-rows g c =
    let old = c.args.pages.now in
    let mid = c.entries.new.pages in
    IfOk-weaker c.rows_of_entries.result _ _ (λ rows is tells lists feet held.
    let all = c.in_ok-entries.ensures.entries tells held.entries held.keys (subst (λ (n : ℕ). HoldsMap (g.P.Pages.map old) (g.P.Pages.count old) n held.entries held.keys) (sym c.at.ensures) held.held) in
    let same : entries_of c.as_slice.result.now ≡ held.entries = ap (λ (l : List EntryBytes). entries_of l) c.as_slice.ensures.value ∙ all in
    is tells lists held.trees
    (held_at (g.P.Pages.map old) (g.P.Pages.map mid) (g.P.Pages.count old) (g.P.Pages.count mid) held.entries (entries_of c.as_slice.result.now) lists held.trees c.in_ok-entries.ensures.map c.in_ok-entries.ensures.count same held.are))
    c.rows_of_entries.ensures.rows

pub returns-clause-cause : goal.returns-clause-cause
returns-clause-cause g c =
    let old = c.args.pages.now in
    let mid = c.entries.new.pages in
    IfErr-weaker c.rows_of_entries.result _ _ (λ error has.
    cause_weaker error (g.P.Pages.faults old) (g.P.Pages.faults mid) (g.P.Pages.faults c.rows_of_entries.new.pages) (g.P.Pages.faults c.rows_of_entries.new.pages)
    _ _ _ _ _ _ (let q = c.in_ok-entries.ensures.quiet.faults in omega (arith, q)) (omega arith)
    (λ at expected found refused tells lists feet held.
    let all = c.in_ok-entries.ensures.entries tells held.entries held.keys (subst (λ (n : ℕ). HoldsMap (g.P.Pages.map old) (g.P.Pages.count old) n held.entries held.keys) (sym c.at.ensures) held.held) in
    let same : entries_of c.as_slice.result.now ≡ held.entries = ap (λ (l : List EntryBytes). entries_of l) c.as_slice.ensures.value ∙ all in
    refused tells lists held.trees
    (held_at (g.P.Pages.map old) (g.P.Pages.map mid) (g.P.Pages.count old) (g.P.Pages.count mid) held.entries (entries_of c.as_slice.result.now) lists held.trees c.in_ok-entries.ensures.map c.in_ok-entries.ensures.count same held.are))
    (λ n none. none) (λ m. m) has)
    c.rows_of_entries.ensures.cause
