use Rattle.std.proofs.Common.{◌≤◌, ◌+◌, ℕ, List, length, Option, sym, ◌∙◌, ap, subst, arith}
use Rattle.std.proofs.lemmas.Result.{on_ok_weaker, IfOk-weaker, IfErr-weaker, err_from_is_err_and}
use Rattle.gx_pages.proofs.Footprints.{cause_weaker}
use Rattle.gx_gin_entry.specs.EntryTrees.{HoldsMap, IsFound}
use Rattle.gx_gin_scan.specs.Lists.{rows_under}
use Rattle.gx_gin_scan.proofs.Held.{key_none, key_some, posting_at}
use Rattle.gx_gin_scan.proofs.postings.rows_of_key.Goals as goal

pub returns-in_err-posting-clause-cause : goal.returns-in_err-posting-clause-cause
returns-in_err-posting-clause-cause g c =
    let p = err_from_is_err_and c.from_residual.result c.from_residual.ensures.1 in
    let old = c.args.pages.now in
    rw (p.1, p.2)
    (cause_weaker c.in_err-posting.field-0.0 (g.P.Pages.faults old) (g.P.Pages.faults old) (g.P.Pages.faults c.get.new.pages) (g.P.Pages.faults c.get.new.pages)
    _ _ _ _ _ _ (omega arith) (omega arith)
    (λ at expected found refused tells lists feet held.
    refused tells held.entries held.keys (subst (λ (n : ℕ). HoldsMap (g.P.Pages.map old) (g.P.Pages.count old) n held.entries held.keys) (sym c.at.ensures) held.held))
    (λ n no. no) (λ m. m) c.in_err-posting.ensures.cause)

pub returns-in_default-clause-rows : goal.returns-in_default-clause-rows
returns-in_default-clause-rows g c = λ tells lists feet held.
    let old = c.args.pages.now in
    let map_held = subst (λ (n : ℕ). HoldsMap (g.P.Pages.map old) (g.P.Pages.count old) n held.entries held.keys) (sym c.at.ensures) held.held in
    let found = subst (λ (o : Option (List ℕ)). IsFound held.entries c.args.key.now o) c.in_default.is (c.in_ok-posting.ensures.found tells held.entries held.keys map_held) in
    c.new.ensures ∙ sym (key_none (g.P.Pages.map old) (g.P.Pages.count old) c.args.root lists feet c.args.key.now held found)

pub returns-in_default-clause-fetches : goal.returns-in_default-clause-fetches
returns-in_default-clause-fetches g c = λ tells lists feet held.
    let old = c.args.pages.now in
    let root = c.at.ensures in
    let few = subst (λ (n : ℕ). (h : HoldsMap (g.P.Pages.map old) (g.P.Pages.count old) n held.entries held.keys) → g.P.Pages.fetches c.get.new.pages ≤ g.P.Pages.fetches old + (h.tree.0 + 1)) root
    (λ h. c.in_ok-posting.ensures.fetches tells held.entries held.keys h) held.held in
    omega (arith, few)

pub returns-clause-rows : goal.returns-clause-rows
returns-clause-rows g c =
    let old = c.args.pages.now in
    let mid = c.get.new.pages in
    IfOk-weaker c.rows_of_posting.result _ _ (λ rows is tells lists feet held.
    let map_held = subst (λ (n : ℕ). HoldsMap (g.P.Pages.map old) (g.P.Pages.count old) n held.entries held.keys) (sym c.at.ensures) held.held in
    let found = subst (λ (o : Option (List ℕ)). IsFound held.entries c.args.key.now o) c.in-Some.is (c.in_ok-posting.ensures.found tells held.entries held.keys map_held) in
    let posts = key_some (g.P.Pages.map old) (g.P.Pages.count old) c.args.root lists feet c.args.key.now c.in-Some.posting held found in
    is tells (rows_under lists c.args.key.now) posts.own
    (posting_at (g.P.Pages.map old) (g.P.Pages.map mid) (g.P.Pages.count old) (g.P.Pages.count mid) c.in-Some.posting c.as_slice.result.now (rows_under lists c.args.key.now) posts.own
    c.in_ok-posting.ensures.map c.in_ok-posting.ensures.count c.as_slice.ensures posts.stands))
    c.rows_of_posting.ensures.rows

pub returns-clause-fetches : goal.returns-clause-fetches
returns-clause-fetches g c =
    let old = c.args.pages.now in
    let mid = c.get.new.pages in
    on_ok_weaker c.rows_of_posting.result (λ is tells lists feet held.
    let map_held = subst (λ (n : ℕ). HoldsMap (g.P.Pages.map old) (g.P.Pages.count old) n held.entries held.keys) (sym c.at.ensures) held.held in
    let found = subst (λ (o : Option (List ℕ)). IsFound held.entries c.args.key.now o) c.in-Some.is (c.in_ok-posting.ensures.found tells held.entries held.keys map_held) in
    let posts = key_some (g.P.Pages.map old) (g.P.Pages.count old) c.args.root lists feet c.args.key.now c.in-Some.posting held found in
    let root = c.at.ensures in
    let few = subst (λ (n : ℕ). (h : HoldsMap (g.P.Pages.map old) (g.P.Pages.count old) n held.entries held.keys) → g.P.Pages.fetches c.get.new.pages ≤ g.P.Pages.fetches old + (h.tree.0 + 1)) root
    (λ h. c.in_ok-posting.ensures.fetches tells held.entries held.keys h) held.held in
    let more = is tells (rows_under lists c.args.key.now) posts.own
    (posting_at (g.P.Pages.map old) (g.P.Pages.map mid) (g.P.Pages.count old) (g.P.Pages.count mid) c.in-Some.posting c.as_slice.result.now (rows_under lists c.args.key.now) posts.own
    c.in_ok-posting.ensures.map c.in_ok-posting.ensures.count c.as_slice.ensures posts.stands) in
    let size = ap (λ (l : List ℕ). length l) posts.are in
    omega (arith, few, more, size))
    c.rows_of_posting.ensures.fetches

pub returns-clause-cause : goal.returns-clause-cause
returns-clause-cause g c =
    let old = c.args.pages.now in
    let mid = c.get.new.pages in
    IfErr-weaker c.rows_of_posting.result _ _ (λ error has.
    cause_weaker error (g.P.Pages.faults old) (g.P.Pages.faults mid) (g.P.Pages.faults c.rows_of_posting.new.pages) (g.P.Pages.faults c.rows_of_posting.new.pages)
    _ _ _ _ _ _ (let q = c.in_ok-posting.ensures.quiet.faults in omega (arith, q)) (omega arith) (λ at expected found refused tells lists feet held.
    let map_held = subst (λ (n : ℕ). HoldsMap (g.P.Pages.map old) (g.P.Pages.count old) n held.entries held.keys) (sym c.at.ensures) held.held in
    let here = subst (λ (o : Option (List ℕ)). IsFound held.entries c.args.key.now o) c.in-Some.is (c.in_ok-posting.ensures.found tells held.entries held.keys map_held) in
    let posts = key_some (g.P.Pages.map old) (g.P.Pages.count old) c.args.root lists feet c.args.key.now c.in-Some.posting held here in
    refused tells (rows_under lists c.args.key.now) posts.own
    (posting_at (g.P.Pages.map old) (g.P.Pages.map mid) (g.P.Pages.count old) (g.P.Pages.count mid) c.in-Some.posting c.as_slice.result.now (rows_under lists c.args.key.now) posts.own
    c.in_ok-posting.ensures.map c.in_ok-posting.ensures.count c.as_slice.ensures posts.stands))
    (λ n no. no) (λ m. m) has)
    c.rows_of_posting.ensures.cause
