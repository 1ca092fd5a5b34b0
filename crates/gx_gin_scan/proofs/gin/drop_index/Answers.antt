use Rattle.std.proofs.Common.{◌≡◌, ◌∙◌, ℕ, List, sym, ap, subst, arith}
use Rattle.std.proofs.lemmas.Result.{on_ok_weaker, IfErr-weaker, err_from_is_err_and}
use Rattle.gx_pages.proofs.Footprints.{cause_weaker}
use Rattle.gx_gin_entry.specs.EntryTrees.{HoldsEntries, HoldsMap}
use Rattle.gx_gin_entry.specs.Listed.{entries_of}
use Rattle.gx_gin_entry.specs.declared.listing.EntryBytes.{EntryBytes}
use Rattle.gx_gin_scan.proofs.Gone.{all_gone, entries_left, frees_at, trees_apart, trees_at}
use Rattle.gx_gin_scan.proofs.gin.drop_index.Goals as goal

pub returns-in_err-entries-clause-cause : goal.returns-in_err-entries-clause-cause
returns-in_err-entries-clause-cause g c =
    let p = err_from_is_err_and c.from_residual.result c.from_residual.ensures.1 in
    let old = c.args.pages.now in
    rw (p.1, p.2)
    (cause_weaker c.in_err-entries.field-0.0 (g.P.Pages.faults old) (g.P.Pages.faults old) (g.P.Pages.faults c.entries.new.pages) (g.P.Pages.faults c.entries.new.pages)
    _ _ _ _ _ _ (omega arith) (omega arith)
    (λ at expected found refused tells lists feet free gin.
    refused tells gin.held.entries gin.held.keys (subst (λ (n : ℕ). HoldsMap (g.P.Pages.map old) (g.P.Pages.count old) n gin.held.entries gin.held.keys) (sym c.at-tree.ensures) gin.held.held))
    (λ n none. none) (λ m. m) c.in_err-entries.ensures.cause)

pub returns-in_err-drop_postings-clause-cause : goal.returns-in_err-drop_postings-clause-cause
returns-in_err-drop_postings-clause-cause g c =
    let p = err_from_is_err_and c.from_residual-in_err-drop_postings.result c.from_residual-in_err-drop_postings.ensures.1 in
    let old = c.args.pages.now in
    let mid = c.entries.new.pages in
    let root = c.args.root in
    rw (p.1, p.2)
    (cause_weaker c.in_err-drop_postings.field-0.0 (g.P.Pages.faults old) (g.P.Pages.faults mid) (g.P.Pages.faults c.drop_postings.new.pages) (g.P.Pages.faults c.drop_postings.new.pages)
    _ _ _ _ _ _ (let q = c.in_ok-entries.ensures.quiet.faults in omega (arith, q)) (omega arith)
    (λ at expected found refused tells lists feet free gin.
    let all = c.in_ok-entries.ensures.entries tells gin.held.entries gin.held.keys (subst (λ (n : ℕ). HoldsMap (g.P.Pages.map old) (g.P.Pages.count old) n gin.held.entries gin.held.keys) (sym c.at-tree.ensures) gin.held.held) in
    let same : entries_of c.as_slice.result.now ≡ gin.held.entries = ap (λ (l : List EntryBytes). entries_of l) c.as_slice.ensures.value ∙ all in
    refused tells lists gin.held.trees free (trees_at g.P.Pages old root lists feet free gin mid c.in_ok-entries.ensures.map c.in_ok-entries.ensures.count (entries_of c.as_slice.result.now) same)
    (frees_at g.P.Pages old root lists feet free gin mid c.in_ok-entries.ensures.map c.in_ok-entries.ensures.count) (trees_apart g.P.Pages old root lists feet free gin))
    (λ n none. none) (λ m. m) c.in_err-drop_postings.ensures.cause)

pub returns-clause-dropped : goal.returns-clause-dropped
returns-clause-dropped g c =
    let old = c.args.pages.now in
    let mid = c.entries.new.pages in
    let now = c.drop_postings.new.pages in
    let new = c.drop_all.new.pages in
    let root = c.args.root in
    on_ok_weaker c.drop_all.result (λ is tells lists feet free gin.
    let all = c.in_ok-entries.ensures.entries tells gin.held.entries gin.held.keys (subst (λ (n : ℕ). HoldsMap (g.P.Pages.map old) (g.P.Pages.count old) n gin.held.entries gin.held.keys) (sym c.at-tree.ensures) gin.held.held) in
    let same : entries_of c.as_slice.result.now ≡ gin.held.entries = ap (λ (l : List EntryBytes). entries_of l) c.as_slice.ensures.value ∙ all in
    let gone = c.in_ok-drop_postings.ensures.dropped tells lists gin.held.trees free
    (trees_at g.P.Pages old root lists feet free gin mid c.in_ok-entries.ensures.map c.in_ok-entries.ensures.count (entries_of c.as_slice.result.now) same)
    (frees_at g.P.Pages old root lists feet free gin mid c.in_ok-entries.ensures.map c.in_ok-entries.ensures.count) (trees_apart g.P.Pages old root lists feet free gin) in
    let left = entries_left g.P.Pages old root lists feet free gin mid c.in_ok-entries.ensures.map c.in_ok-entries.ensures.count now gone.0 gone.1 in
    let last = is tells gin.held.entries gin.held.keys gone.0 (subst (λ (n : ℕ). HoldsEntries g.P.Pages now n gin.held.entries gin.held.keys gone.0) (sym c.at-tree.ensures) left) in
    (last.0, all_gone g.P.Pages old root lists feet free gin mid c.in_ok-entries.ensures.map c.in_ok-entries.ensures.count now gone.0 gone.1 new last.0 last.1))
    c.drop_all.ensures.dropped

pub returns-clause-cause : goal.returns-clause-cause
returns-clause-cause g c =
    let old = c.args.pages.now in
    let mid = c.entries.new.pages in
    let now = c.drop_postings.new.pages in
    let root = c.args.root in
    IfErr-weaker c.drop_all.result _ _ (λ error has.
    cause_weaker error (g.P.Pages.faults old) (g.P.Pages.faults now) (g.P.Pages.faults c.drop_all.new.pages) (g.P.Pages.faults c.drop_all.new.pages)
    _ _ _ _ _ _ (let q = c.in_ok-entries.ensures.quiet.faults in let r = c.in_ok-drop_postings.ensures.quiet.faults in omega (arith, q, r)) (omega arith)
    (λ at expected found refused tells lists feet free gin.
    let all = c.in_ok-entries.ensures.entries tells gin.held.entries gin.held.keys (subst (λ (n : ℕ). HoldsMap (g.P.Pages.map old) (g.P.Pages.count old) n gin.held.entries gin.held.keys) (sym c.at-tree.ensures) gin.held.held) in
    let same : entries_of c.as_slice.result.now ≡ gin.held.entries = ap (λ (l : List EntryBytes). entries_of l) c.as_slice.ensures.value ∙ all in
    let gone = c.in_ok-drop_postings.ensures.dropped tells lists gin.held.trees free
    (trees_at g.P.Pages old root lists feet free gin mid c.in_ok-entries.ensures.map c.in_ok-entries.ensures.count (entries_of c.as_slice.result.now) same)
    (frees_at g.P.Pages old root lists feet free gin mid c.in_ok-entries.ensures.map c.in_ok-entries.ensures.count) (trees_apart g.P.Pages old root lists feet free gin) in
    let left = entries_left g.P.Pages old root lists feet free gin mid c.in_ok-entries.ensures.map c.in_ok-entries.ensures.count now gone.0 gone.1 in
    refused tells gin.held.entries gin.held.keys gone.0 (subst (λ (n : ℕ). HoldsEntries g.P.Pages now n gin.held.entries gin.held.keys gone.0) (sym c.at-tree.ensures) left))
    (λ n none. none) (λ m. m) has)
    c.drop_all.ensures.cause
