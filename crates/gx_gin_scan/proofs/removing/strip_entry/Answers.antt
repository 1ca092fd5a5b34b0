use Rattle.std.proofs.Common.{◌≡◌, ◌∷◌, ◌++◌, ◌∙◌, ◌≤◌, ℕ, List, length, sym, ap, subst, arith}
use Rattle.std.specs.List.{AllByRecursion}
use Rattle.std.proofs.lemmas.Result.{IfErr-weaker, on_ok_weaker}
use Rattle.gx_bytes.specs.Fields.{le64}
use Rattle.gx_pages.proofs.Footprints.{all_right, cause_weaker}
use Rattle.gx_tree.proofs.Causes.{broken_cause}
use Rattle.gx_gin_entry.specs.EntryTrees.{Entry, IsEntry}
use Rattle.gx_gin_scan.specs.Removing.{LosesRows}
use Rattle.gx_gin_scan.proofs.Held.{of_none}
use Rattle.gx_gin_scan.proofs.Puts.{open_at}
use Rattle.gx_gin_scan.proofs.removing.strip_entry.Goals as goal

-- the key of an entry is short
its_key : (front : List Entry) (key posting : List ℕ) (back entries : List Entry) → entries ≡ front ++ (key, posting) ∷ back → AllByRecursion IsEntry entries → length key ≤ 1901
its_key front key posting back entries cut are = (all_right IsEntry front ((key, posting) ∷ back) (subst (λ (l : List Entry). AllByRecursion IsEntry l) cut are)).0.key

pub returns-then-key-gt-LONGEST_KEY-clause-cause : goal.returns-then-key-gt-LONGEST_KEY-clause-cause
returns-then-key-gt-LONGEST_KEY-clause-cause g c =
    let old = c.args.pages.now in
    broken_cause c.broken.result c.args.root (g.P.Pages.faults old) (g.P.Pages.faults old) _ _ _ c.broken.ensures
    (λ tells lists feet free gin front back cut.
    let short = its_key front c.args.entry.now.key c.args.entry.now.posting back gin.held.entries cut gin.held.held.are in
    let size = ap (λ (l : List ℕ). length l) c.as_slice-key.ensures in
    let test = c.if-key-gt-LONGEST_KEY.true in
    omega (arith, short, size, test))

pub returns-in-Some-clause-stripped : goal.returns-in-Some-clause-stripped
returns-in-Some-clause-stripped g c =
    let posting = sym c.as_slice-posting.ensures ∙ c.in-Some.ensures.some in
    let key = c.as_slice-key.ensures in
    on_ok_weaker c.strip_list.result (λ is tells lists feet free gin front back cut.
    subst (λ (k : List ℕ). LosesRows g.P.Pages c.args.pages.now c.strip_list.new.pages c.args.root lists feet free front k back c.args.gone.now) key
    (is tells lists feet free gin front back (cut ∙ ap (λ (p : List ℕ). front ++ (c.args.entry.now.key, p) ∷ back) posting ∙ ap (λ (k : List ℕ). front ++ (k, 0 ∷ c.in-Some.list.now) ∷ back) (sym key))))
    c.strip_list.ensures.stripped

pub returns-in-Some-clause-cause : goal.returns-in-Some-clause-cause
returns-in-Some-clause-cause g c =
    let old = c.args.pages.now in
    let new = c.strip_list.new.pages in
    let posting = sym c.as_slice-posting.ensures ∙ c.in-Some.ensures.some in
    let key = c.as_slice-key.ensures in
    IfErr-weaker c.strip_list.result _ _ (λ error has.
    cause_weaker error (g.P.Pages.faults old) (g.P.Pages.faults old) (g.P.Pages.faults new) (g.P.Pages.faults new)
    _ _ _ _ _ _ (omega arith) (omega arith)
    (λ at expected found refused tells lists feet free gin front back cut.
    refused tells lists feet free gin front back (cut ∙ ap (λ (p : List ℕ). front ++ (c.args.entry.now.key, p) ∷ back) posting ∙ ap (λ (k : List ℕ). front ++ (k, 0 ∷ c.in-Some.list.now) ∷ back) (sym key)))
    (λ n none. none) (λ m. m) has)
    c.strip_list.ensures.cause

pub returns-in_default-root_in-clause-cause : goal.returns-in_default-root_in-clause-cause
returns-in_default-root_in-clause-cause g c =
    let old = c.args.pages.now in
    let key = c.args.entry.now.key in
    let bytes = c.args.entry.now.posting in
    broken_cause c.broken-in_default-root_in.result c.args.root (g.P.Pages.faults old) (g.P.Pages.faults old) _ _ _ c.broken-in_default-root_in.ensures
    (λ tells lists feet free gin front back cut.
    let o = open_at g.P.Pages old c.args.root lists feet free gin front key bytes back cut in
    of_none (g.P.Pages.map old) (g.P.Pages.count old) bytes o.rows o.own
    (λ list is. c.in_default.ensures.none list (c.as_slice-posting.ensures ∙ is))
    (λ root is. c.in_default-root_in.ensures.none root (c.as_slice-posting.ensures ∙ is))
    o.stands)

pub returns-clause-stripped : goal.returns-clause-stripped
returns-clause-stripped g c =
    let posting = sym c.as_slice-posting.ensures ∙ c.in-Some-root_in.ensures.some in
    let key = c.as_slice-key.ensures in
    on_ok_weaker c.strip_tree.result (λ is tells lists feet free gin front back cut.
    subst (λ (k : List ℕ). LosesRows g.P.Pages c.args.pages.now c.strip_tree.new.pages c.args.root lists feet free front k back c.args.gone.now) key
    (is tells lists feet free gin front back (cut ∙ ap (λ (p : List ℕ). front ++ (c.args.entry.now.key, p) ∷ back) posting ∙ ap (λ (k : List ℕ). front ++ (k, 1 ∷ le64 c.in-Some-root_in.tree) ∷ back) (sym key))))
    c.strip_tree.ensures.stripped

pub returns-clause-cause : goal.returns-clause-cause
returns-clause-cause g c =
    let old = c.args.pages.now in
    let new = c.strip_tree.new.pages in
    let posting = sym c.as_slice-posting.ensures ∙ c.in-Some-root_in.ensures.some in
    let key = c.as_slice-key.ensures in
    IfErr-weaker c.strip_tree.result _ _ (λ error has.
    cause_weaker error (g.P.Pages.faults old) (g.P.Pages.faults old) (g.P.Pages.faults new) (g.P.Pages.faults new)
    _ _ _ _ _ _ (omega arith) (omega arith)
    (λ at expected found refused tells lists feet free gin front back cut.
    refused tells lists feet free gin front back (cut ∙ ap (λ (p : List ℕ). front ++ (c.args.entry.now.key, p) ∷ back) posting ∙ ap (λ (k : List ℕ). front ++ (k, 1 ∷ le64 c.in-Some-root_in.tree) ∷ back) (sym key)))
    (λ n none. none) (λ m. m) has)
    c.strip_tree.ensures.cause
