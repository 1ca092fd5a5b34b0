use Rattle.std.proofs.Common.{◌≡◌, ◌∷◌, [], ◌++◌, ◌∙◌, ℕ, List, Option, Some, cond, inl, inr, refl, sym, subst, arith}
use Rattle.std.proofs.lemmas.Result.{IfErr-weaker, err_from_is_err_and, on_ok_weaker}
use Rattle.std.specs.Str.{bytes_eq}
use Rattle.gx_pages.specs.declared.error.PageError.{PageError}
use Rattle.gx_pages.specs.declared.row.RowRef.{RowRef}
use Rattle.gx_pages.specs.Frees.{IsFull}
use Rattle.gx_pages.specs.Pages.{HasCause}
use Rattle.gx_pages.specs.Rows.{AreBelow}
use Rattle.gx_pages.proofs.Footprints.{cause_weaker, keeps_from}
use Rattle.gx_posting_tree.specs.PostingTrees.{HoldsRows}
use Rattle.gx_gin_entry.specs.EntryTrees.{HoldsMap, IsFound}
use Rattle.gx_gin_scan.specs.Gins.{HoldsGin}
use Rattle.gx_gin_scan.specs.Lists.{Lists, rows_under}
use Rattle.gx_gin_scan.proofs.Held.{key_some, of_none}
use Rattle.gx_gin_scan.proofs.Puts.{gin_at, its_rows, its_tree, not_none, one_grows, open_at, posting_changed}
use Rattle.gx_gin_scan.proofs.putting.put_row.Goals as goal

pub returns-in_err-found-clause-cause : goal.returns-in_err-found-clause-cause
returns-in_err-found-clause-cause g c =
    let p = err_from_is_err_and c.from_residual.result c.from_residual.ensures.1 in
    let old = c.args.pages.now in
    rw (p.1, p.2)
    (cause_weaker c.in_err-found.field-0.0 (g.P.Pages.faults old) (g.P.Pages.faults old) (g.P.Pages.faults c.get.new.pages) (g.P.Pages.faults c.get.new.pages)
    _ _ _ _ _ _ (omega arith) (omega arith)
    (λ at expected found refused tells lists feet free gin below.
    refused tells gin.held.entries gin.held.keys (subst (λ (n : ℕ). HoldsMap (g.P.Pages.map old) (g.P.Pages.count old) n gin.held.entries gin.held.keys) (sym c.at.ensures) gin.held.held))
    (λ n none. absurd none) (λ m. m) c.in_err-found.ensures.cause)

pub returns-in_default-clause-put : goal.returns-in_default-clause-put
returns-in_default-clause-put g c =
    let old = c.args.pages.now in
    let mid = c.get.new.pages in
    let root = c.args.root in
    on_ok_weaker c.put_in_list.result (λ is tells lists feet free gin below.
    let found = c.in_ok-found.ensures.found tells gin.held.entries gin.held.keys (subst (λ (n : ℕ). HoldsMap (g.P.Pages.map old) (g.P.Pages.count old) n gin.held.entries gin.held.keys) (sym c.at.ensures) gin.held.held) in
    let none = subst (λ (o : Option (List ℕ)). IsFound gin.held.entries c.args.key.now o) c.in_default.is found in
    let done = is tells lists feet free (gin_at g.P.Pages old mid root lists feet free c.in_ok-found.ensures.map c.in_ok-found.ensures.count gin) (inr (none, refl)) below in
    (done.0, done.1, done.2, done.3, keeps_from g.P.Pages old mid c.put_in_list.new.pages feet free done.1 done.2 c.in_ok-found.ensures.map c.in_ok-found.ensures.count done.4, done.5))
    c.put_in_list.ensures.put

pub returns-in_default-clause-cause : goal.returns-in_default-clause-cause
returns-in_default-clause-cause g c =
    let old = c.args.pages.now in
    let mid = c.get.new.pages in
    let root = c.args.root in
    IfErr-weaker c.put_in_list.result _ _ (λ error has.
    cause_weaker error (g.P.Pages.faults old) (g.P.Pages.faults mid) (g.P.Pages.faults c.put_in_list.new.pages) (g.P.Pages.faults c.put_in_list.new.pages)
    _ _ _ _ _ _ (let q = c.in_ok-found.ensures.quiet.faults in omega (arith, q)) (omega arith)
    (λ at expected found refused tells lists feet free gin below.
    let there = c.in_ok-found.ensures.found tells gin.held.entries gin.held.keys (subst (λ (n : ℕ). HoldsMap (g.P.Pages.map old) (g.P.Pages.count old) n gin.held.entries gin.held.keys) (sym c.at.ensures) gin.held.held) in
    let none = subst (λ (o : Option (List ℕ)). IsFound gin.held.entries c.args.key.now o) c.in_default.is there in
    refused tells lists feet free (gin_at g.P.Pages old mid root lists feet free c.in_ok-found.ensures.map c.in_ok-found.ensures.count gin) (inr (none, refl)) below)
    (λ n space. space) (λ m. m) has)
    c.put_in_list.ensures.cause

pub returns-in-Some-list_in-clause-put : goal.returns-in-Some-list_in-clause-put
returns-in-Some-list_in-clause-put g c =
    let old = c.args.pages.now in
    let mid = c.get.new.pages in
    let root = c.args.root in
    let new = c.put_in_list-in-Some-list_in.new.pages in
    let posting = sym c.as_slice.ensures ∙ c.in-Some-list_in.ensures.some in
    on_ok_weaker c.put_in_list-in-Some-list_in.result (λ is tells lists feet free gin below.
    let found = c.in_ok-found.ensures.found tells gin.held.entries gin.held.keys (subst (λ (n : ℕ). HoldsMap (g.P.Pages.map old) (g.P.Pages.count old) n gin.held.entries gin.held.keys) (sym c.at.ensures) gin.held.held) in
    let there = subst (λ (l : List ℕ). IsFound gin.held.entries c.args.key.now (Some l)) posting (subst (λ (o : Option (List ℕ)). IsFound gin.held.entries c.args.key.now o) c.in-Some.is found) in
    let done = is tells lists feet free (gin_at g.P.Pages old mid root lists feet free c.in_ok-found.ensures.map c.in_ok-found.ensures.count gin) (inl there) below in
    (done.0, done.1, done.2, done.3, keeps_from g.P.Pages old mid new feet free done.1 done.2 c.in_ok-found.ensures.map c.in_ok-found.ensures.count done.4, done.5))
    c.put_in_list-in-Some-list_in.ensures.put

pub returns-in-Some-list_in-clause-cause : goal.returns-in-Some-list_in-clause-cause
returns-in-Some-list_in-clause-cause g c =
    let old = c.args.pages.now in
    let mid = c.get.new.pages in
    let root = c.args.root in
    let new = c.put_in_list-in-Some-list_in.new.pages in
    let posting = sym c.as_slice.ensures ∙ c.in-Some-list_in.ensures.some in
    IfErr-weaker c.put_in_list-in-Some-list_in.result _ _ (λ error has.
    cause_weaker error (g.P.Pages.faults old) (g.P.Pages.faults mid) (g.P.Pages.faults new) (g.P.Pages.faults new)
    _ _ _ _ _ _ (let q = c.in_ok-found.ensures.quiet.faults in omega (arith, q)) (omega arith)
    (λ at expected found refused tells lists feet free gin below.
    let so_far = c.in_ok-found.ensures.found tells gin.held.entries gin.held.keys (subst (λ (n : ℕ). HoldsMap (g.P.Pages.map old) (g.P.Pages.count old) n gin.held.entries gin.held.keys) (sym c.at.ensures) gin.held.held) in
    let there = subst (λ (l : List ℕ). IsFound gin.held.entries c.args.key.now (Some l)) posting (subst (λ (o : Option (List ℕ)). IsFound gin.held.entries c.args.key.now o) c.in-Some.is so_far) in
    refused tells lists feet free (gin_at g.P.Pages old mid root lists feet free c.in_ok-found.ensures.map c.in_ok-found.ensures.count gin) (inl there) below)
    (λ n space. space) (λ m. m) has)
    c.put_in_list-in-Some-list_in.ensures.cause

pub returns-in_default-root_in-clause-cause : goal.returns-in_default-root_in-clause-cause
returns-in_default-root_in-clause-cause g c =
    let old = c.args.pages.now in
    let bytes = c.in-Some.posting in
    subst
    (λ (e : PageError). HasCause (g.P.Pages.faults old) (g.P.Pages.faults c.get.new.pages)
    (λ at expected found. g.P.Pages.tells → (lists : Lists) (feet free : List ℕ) → HoldsGin g.P.Pages old c.args.root lists feet free → AreBelow (rows_under lists c.args.key.now) c.args.row.number → ⊥)
    (IsFull g.P.Pages.tells (g.P.Pages.map c.get.new.pages) (g.P.Pages.count c.get.new.pages)) (Unit {0}) e)
    (sym c.broken.ensures) (
      (λ same. omega (arith, same)),
      λ tells lists feet free gin below.
          let found = c.in_ok-found.ensures.found tells gin.held.entries gin.held.keys (subst (λ (n : ℕ). HoldsMap (g.P.Pages.map old) (g.P.Pages.count old) n gin.held.entries gin.held.keys) (sym c.at.ensures) gin.held.held) in
          let there = subst (λ (o : Option (List ℕ)). IsFound gin.held.entries c.args.key.now o) c.in-Some.is found in
          let posts = key_some (g.P.Pages.map old) (g.P.Pages.count old) c.args.root lists feet c.args.key.now bytes gin.held there in
          of_none (g.P.Pages.map old) (g.P.Pages.count old) bytes (rows_under lists c.args.key.now) posts.own
          (λ list is. c.in_default-list_in.ensures.none list (c.as_slice.ensures ∙ is))
          (λ root is. c.in_default-root_in.ensures.none root (c.as_slice-2.ensures ∙ is))
          posts.stands,
    )

pub returns-clause-put : goal.returns-clause-put
returns-clause-put g c =
    let old = c.args.pages.now in
    let mid = c.get.new.pages in
    let root = c.args.root in
    let key = c.args.key.now in
    let new = c.insert.new.pages in
    let page = c.in-Some-root_in.root_page in
    let posting = sym c.as_slice-2.ensures ∙ c.in-Some-root_in.ensures.some in
    on_ok_weaker c.insert.result (λ is tells lists feet free gin below.
    let so_far = c.in_ok-found.ensures.found tells gin.held.entries gin.held.keys (subst (λ (n : ℕ). HoldsMap (g.P.Pages.map old) (g.P.Pages.count old) n gin.held.entries gin.held.keys) (sym c.at.ensures) gin.held.held) in
    let there = subst (λ (o : Option (List ℕ)). IsFound gin.held.entries key o) c.in-Some.is so_far in
    let later = gin_at g.P.Pages old mid root lists feet free c.in_ok-found.ensures.map c.in_ok-found.ensures.count gin in
    let its = open_at g.P.Pages mid root lists feet free later there.0 key c.in-Some.posting there.1 there.2 in
    let rows = its_rows g.P.Pages mid root gin.held.keys lists feet free there.0 key c.in-Some.posting there.1 its in
    let tree = its_tree g.P.Pages mid root gin.held.keys lists feet free there.0 key c.in-Some.posting there.1 its page (g.met.P.Pages.bounded mid) c.in-Some-root_in.ensures.fits posting in
    let done = is tells its.rows its.own free (subst (λ (n : ℕ). HoldsRows g.P.Pages mid n its.rows its.own free) (sym c.at-rows.ensures) tree) (subst (λ (l : List RowRef). AreBelow l c.args.row.number) rows below) in
    let held = subst (λ (n : ℕ). HoldsRows g.P.Pages new n (its.rows ++ c.args.row ∷ []) done.0 done.1) c.at-rows.ensures done.2 in
    let all = posting_changed g.P.Pages mid root gin.held.keys lists feet free there.0 key c.in-Some.posting there.1 its new (its.rows ++ c.args.row ∷ []) (not_none its.rows c.args.row) done.0 done.1
    (inr (record { root = page; is = posting; held = held.held })) done.3 in
    let under = subst (λ (l : List RowRef). (k : List ℕ) → rows_under all.after k ≡ cond (bytes_eq key k) (l ++ c.args.row ∷ []) (rows_under lists k)) (sym rows) all.under in
    (all.after, all.later, all.rest, all.gin, keeps_from g.P.Pages old mid new feet free all.later all.rest c.in_ok-found.ensures.map c.in_ok-found.ensures.count all.keeps, one_grows key c.args.row lists all.after under))
    c.insert.ensures.inserted

pub returns-clause-cause : goal.returns-clause-cause
returns-clause-cause g c =
    let old = c.args.pages.now in
    let mid = c.get.new.pages in
    let root = c.args.root in
    let key = c.args.key.now in
    let new = c.insert.new.pages in
    let page = c.in-Some-root_in.root_page in
    let posting = sym c.as_slice-2.ensures ∙ c.in-Some-root_in.ensures.some in
    IfErr-weaker c.insert.result _ _ (λ error has.
    cause_weaker error (g.P.Pages.faults old) (g.P.Pages.faults mid) (g.P.Pages.faults new) (g.P.Pages.faults new)
    _ _ _ _ _ _ (let q = c.in_ok-found.ensures.quiet.faults in omega (arith, q)) (omega arith)
    (λ at expected found refused tells lists feet free gin below.
    let so_far = c.in_ok-found.ensures.found tells gin.held.entries gin.held.keys (subst (λ (n : ℕ). HoldsMap (g.P.Pages.map old) (g.P.Pages.count old) n gin.held.entries gin.held.keys) (sym c.at.ensures) gin.held.held) in
    let there = subst (λ (o : Option (List ℕ)). IsFound gin.held.entries key o) c.in-Some.is so_far in
    let later = gin_at g.P.Pages old mid root lists feet free c.in_ok-found.ensures.map c.in_ok-found.ensures.count gin in
    let its = open_at g.P.Pages mid root lists feet free later there.0 key c.in-Some.posting there.1 there.2 in
    let rows = its_rows g.P.Pages mid root gin.held.keys lists feet free there.0 key c.in-Some.posting there.1 its in
    let tree = its_tree g.P.Pages mid root gin.held.keys lists feet free there.0 key c.in-Some.posting there.1 its page (g.met.P.Pages.bounded mid) c.in-Some-root_in.ensures.fits posting in
    refused tells its.rows its.own free (subst (λ (n : ℕ). HoldsRows g.P.Pages mid n its.rows its.own free) (sym c.at-rows.ensures) tree) (subst (λ (l : List RowRef). AreBelow l c.args.row.number) rows below))
    (λ n space. space) (λ m. m) has)
    c.insert.ensures.cause
