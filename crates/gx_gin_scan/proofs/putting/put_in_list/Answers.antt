use Rattle.std.proofs.Common.{◌∷◌, [], ◌++◌, ℕ, List, sym, subst, arith}
use Rattle.std.proofs.lemmas.Result.{IfErr-weaker, err_from_is_err_and, on_ok_weaker}
use Rattle.gx_pages.proofs.Footprints.{cause_weaker}
use Rattle.gx_gin_entry.specs.EntryTrees.{HoldsEntries}
use Rattle.gx_gin_scan.specs.Lists.{rows_under}
use Rattle.gx_gin_scan.specs.Gins.{IsPosting}
use Rattle.gx_gin_scan.proofs.Puts.{entries_mid, list_changed, listed, not_none, one_grows}
use Rattle.gx_gin_scan.proofs.putting.put_in_list.Goals as goal

pub returns-in_err-posting-clause-cause : goal.returns-in_err-posting-clause-cause
returns-in_err-posting-clause-cause g c =
    let p = err_from_is_err_and c.from_residual.result c.from_residual.ensures.1 in
    let old = c.args.pages.now in
    rw (p.1, p.2)
    (cause_weaker c.in_err-posting.field-0.0 (g.P.Pages.faults old) (g.P.Pages.faults old) (g.P.Pages.faults c.grown_posting.new.pages) (g.P.Pages.faults c.grown_posting.new.pages)
    _ _ _ _ _ _ (omega arith) (omega arith)
    (λ at expected found refused tells lists feet free gin has below.
    let list = listed (g.P.Pages.map old) (g.P.Pages.count old) c.args.root lists feet c.args.key.now c.args.list.now gin.held has in
    refused tells (rows_under lists c.args.key.now) free list.short list.spells below gin.frees)
    (λ n space. space) (λ m. m) c.in_err-posting.ensures.cause)

pub returns-clause-put : goal.returns-clause-put
returns-clause-put g c =
    let old = c.args.pages.now in
    let mid = c.grown_posting.new.pages in
    let new = c.put.new.pages in
    let root = c.args.root in
    let key = c.args.key.now in
    on_ok_weaker c.put.result (λ is tells lists feet free gin has below.
    let list = listed (g.P.Pages.map old) (g.P.Pages.count old) root lists feet key c.args.list.now gin.held has in
    let grown = c.in_ok-posting.ensures.grown tells (rows_under lists key) free list.spells below gin.frees in
    let stands = subst (λ (l : List ℕ). IsPosting (g.P.Pages.map mid) (g.P.Pages.count mid) l (rows_under lists key ++ c.args.row ∷ []) grown.0) (sym c.as_slice.ensures) grown.2 in
    let entries = subst (λ (n : ℕ). HoldsEntries g.P.Pages mid n gin.held.entries gin.held.keys grown.1) (sym c.at-tree.ensures) (entries_mid g.P.Pages old mid new root lists feet free gin key c.as_slice.result.now grown.0 grown.1 grown.3) in
    let put = is tells gin.held.entries gin.held.keys grown.1 entries in
    let changed = list_changed g.P.Pages old mid new root lists feet free gin key c.as_slice.result.now grown.0 grown.1 grown.3 (rows_under lists key ++ c.args.row ∷ []) (not_none (rows_under lists key) c.args.row) stands list.flat put.0 put.1 put.2
    (subst (λ (n : ℕ). HoldsEntries g.P.Pages new n put.0 put.1 put.2) c.at-tree.ensures put.3) put.4 put.5 in
    (changed.after, changed.later, changed.rest, changed.gin, changed.keeps, one_grows key c.args.row lists changed.after changed.under))
    c.put.ensures.put

pub returns-clause-cause : goal.returns-clause-cause
returns-clause-cause g c =
    let old = c.args.pages.now in
    let mid = c.grown_posting.new.pages in
    let new = c.put.new.pages in
    let root = c.args.root in
    let key = c.args.key.now in
    IfErr-weaker c.put.result _ _ (λ error has_cause.
    cause_weaker error (g.P.Pages.faults old) (g.P.Pages.faults mid) (g.P.Pages.faults new) (g.P.Pages.faults new)
    _ _ _ _ _ _ (let q = c.in_ok-posting.ensures.quiet.faults in omega (arith, q)) (omega arith)
    (λ at expected found refused tells lists feet free gin has below.
    let list = listed (g.P.Pages.map old) (g.P.Pages.count old) root lists feet key c.args.list.now gin.held has in
    let grown = c.in_ok-posting.ensures.grown tells (rows_under lists key) free list.spells below gin.frees in
    refused tells gin.held.entries gin.held.keys grown.1
    (subst (λ (n : ℕ). HoldsEntries g.P.Pages mid n gin.held.entries gin.held.keys grown.1) (sym c.at-tree.ensures) (entries_mid g.P.Pages old mid new root lists feet free gin key c.as_slice.result.now grown.0 grown.1 grown.3)))
    (λ n space. space.0) (λ m. m) has_cause)
    c.put.ensures.cause
