use Rattle.std.proofs.Common.{◌≡◌, ◌≢◌, ◌+◌, ◌≤◌, ◌<◌, ◌∷◌, [], ◌++◌, ◌∙◌, ℕ, List, length, sym, ap, subst, refl, arith}
use Rattle.std.proofs.lemmas.Result.{err_from_is_err_and}
use Rattle.std.specs.List.{AllByRecursion}
use Rattle.gx_words.specs.PageMap.{PageMap}
use Rattle.gx_pages.proofs.Footprints.{cause_weaker, quiet_join}
use Rattle.gx_tree.specs.Trees.{IsOn, leaves, numbers}
use Rattle.gx_tree.proofs.Causes.{broken_or}
use Rattle.gx_tree.proofs.Dropped.{held_same, tree_pages, tree_refused}
use Rattle.gx_gin_entry.specs.EntryTrees.{Entry}
use Rattle.gx_gin_entry.specs.Listed.{entries_of}
use Rattle.gx_gin_entry.specs.declared.listing.EntryBytes.{EntryBytes}
use Rattle.gx_gin_entry.proofs.AllOf.{feet_len, leaves_below, leaves_on, root_feet, root_listed}
use Rattle.gx_gin_entry.proofs.tree.EntryTree.entries.Goals as goal

pub returns-in_err-push_entries-clause-cause : goal.returns-in_err-push_entries-clause-cause
returns-in_err-push_entries-clause-cause g c =
    let p = err_from_is_err_and c.from_residual-in_err-push_entries.result c.from_residual-in_err-push_entries.ensures.1 in
    rw (p.1, p.2)
    (broken_or c.in_err-push_entries.field-0.0 c.args.self.now.page (g.P.Pages.faults c.args.pages.now) (g.P.Pages.faults c.fetch_top.new.pages) _ _ _ _ c.in_err-push_entries.ensures.cause
    (λ refused at expected found tells list feet held.
    refused list
    (root_listed (g.P.Pages.map c.args.pages.now) (g.P.Pages.count c.args.pages.now) c.args.self.now.page list feet held c.in_ok-top.top (c.in_ok-top.ensures.top tells held.tree held.held) (sym c.level.ensures ∙ c.if-level-eq0.true)))
    tt)

pub returns-then-level-eq0-clause-entries : goal.returns-then-level-eq0-clause-entries
returns-then-level-eq0-clause-entries g c = λ tells list feet held.
    c.in_ok-push_entries.ensures.ok list
    (root_listed (g.P.Pages.map c.args.pages.now) (g.P.Pages.count c.args.pages.now) c.args.self.now.page list feet held c.in_ok-top.top (c.in_ok-top.ensures.top tells held.tree held.held) (sym c.level.ensures ∙ c.if-level-eq0.true))
    ∙ ap (λ (l : List EntryBytes). entries_of l ++ list) c.new-found.ensures.items

pub returns-then-level-eq0-clause-fetches : goal.returns-then-level-eq0-clause-fetches
returns-then-level-eq0-clause-fetches g c = λ tells list feet held.
    let one = root_feet (g.P.Pages.map c.args.pages.now) (g.P.Pages.count c.args.pages.now) c.args.self.now.page list feet held c.in_ok-top.top (c.in_ok-top.ensures.top tells held.tree held.held) (sym c.level.ensures ∙ c.if-level-eq0.true) in
    let few = c.in_ok-top.ensures.fetches in
    omega (arith, one, few)

pub returns-in_err-all-clause-cause : goal.returns-in_err-all-clause-cause
returns-in_err-all-clause-cause g c =
    let p = err_from_is_err_and c.from_residual-in_err-all.result c.from_residual-in_err-all.ensures.1 in
    rw (p.1, p.2)
    (cause_weaker c.in_err-all.field-0.0 (g.P.Pages.faults c.args.pages.now) (g.P.Pages.faults c.fetch_top.new.pages) (g.P.Pages.faults c.survey.new.pages) (g.P.Pages.faults c.survey.new.pages)
    _ _ _ _ _ _ (let q = c.in_ok-top.ensures.quiet.faults in omega arith) (omega arith) (λ at expected found refused tells list feet held.
    tree_refused (g.P.Pages.map c.fetch_top.new.pages) (g.P.Pages.count c.fetch_top.new.pages) 5 c.args.self.now.page c.in_ok-top.top (refused tells) held.tree
    (held_same (g.P.Pages.map c.args.pages.now) (g.P.Pages.map c.fetch_top.new.pages) (g.P.Pages.count c.args.pages.now) (g.P.Pages.count c.fetch_top.new.pages) 5 c.args.self.now.page held.tree c.in_ok-top.ensures.map c.in_ok-top.ensures.count held.held)
    (c.in_ok-top.ensures.top tells held.tree held.held) (λ flat. c.if-level-eq0.false (c.level.ensures ∙ flat)))
    (λ n none. absurd none) (λ m. m) c.in_err-all.ensures.cause)

pub returns-in_err-leaf_entries-clause-cause : goal.returns-in_err-leaf_entries-clause-cause
returns-in_err-leaf_entries-clause-cause g c =
    let p = err_from_is_err_and c.from_residual-in_err-leaf_entries.result c.from_residual-in_err-leaf_entries.ensures.1 in
    let now = g.P.Pages.map c.args.pages.now in
    let count = g.P.Pages.count c.args.pages.now in
    let last = c.survey.new.pages in
    let map : g.P.Pages.map last ≡ now = c.in_ok-all.ensures.map ∙ c.in_ok-top.ensures.map in
    let same : g.P.Pages.count last ≡ count = c.in_ok-all.ensures.count ∙ c.in_ok-top.ensures.count in
    rw (p.1, p.2)
    (cause_weaker c.in_err-leaf_entries.field-0.0 (g.P.Pages.faults c.args.pages.now) (g.P.Pages.faults c.survey.new.pages) (g.P.Pages.faults c.leaf_entries.new.pages) (g.P.Pages.faults c.leaf_entries.new.pages)
    _ _ _ _ _ _ (let q = c.in_ok-top.ensures.quiet.faults in let r = c.in_ok-all.ensures.quiet.faults in omega arith) (omega arith) (λ at expected found refused tells entries feet held.
    let both = tree_pages (g.P.Pages.map c.fetch_top.new.pages) (g.P.Pages.count c.fetch_top.new.pages) 5 c.args.self.now.page c.in_ok-top.top c.in_ok-all.all.uppers.items c.in_ok-all.all.leaves.items (c.in_ok-all.ensures.found tells) held.tree
    (held_same now (g.P.Pages.map c.fetch_top.new.pages) count (g.P.Pages.count c.fetch_top.new.pages) 5 c.args.self.now.page held.tree c.in_ok-top.ensures.map c.in_ok-top.ensures.count held.held)
    (c.in_ok-top.ensures.top tells held.tree held.held) (λ flat. c.if-level-eq0.false (c.level.ensures ∙ flat)) in
    let list : c.as_slice.result.now ≡ numbers (leaves held.tree) = c.as_slice.ensures.value ∙ both.1 in
    refused tells (leaves held.tree) entries list
    (subst (λ (m : PageMap). AllByRecursion (IsOn m 5 0) (leaves held.tree)) (sym map) (leaves_on now count c.args.self.now.page entries feet held))
    (subst (λ (l : List ℕ). AllByRecursion (λ (page : ℕ). page < g.P.Pages.count last) l) (sym list)
    (subst (λ (n : ℕ). AllByRecursion (λ (page : ℕ). page < n) (numbers (leaves held.tree))) (sym same) (leaves_below now count c.args.self.now.page entries feet held)))
    held.spelled held.are held.rising)
    (λ n none. absurd none) (λ m. m) c.in_err-leaf_entries.ensures.cause)

pub returns-clause-entries : goal.returns-clause-entries
returns-clause-entries g c = λ tells entries feet held.
    let now = g.P.Pages.map c.args.pages.now in
    let count = g.P.Pages.count c.args.pages.now in
    let map : g.P.Pages.map c.survey.new.pages ≡ now = c.in_ok-all.ensures.map ∙ c.in_ok-top.ensures.map in
    let both = tree_pages (g.P.Pages.map c.fetch_top.new.pages) (g.P.Pages.count c.fetch_top.new.pages) 5 c.args.self.now.page c.in_ok-top.top c.in_ok-all.all.uppers.items c.in_ok-all.all.leaves.items (c.in_ok-all.ensures.found tells) held.tree
    (held_same now (g.P.Pages.map c.fetch_top.new.pages) count (g.P.Pages.count c.fetch_top.new.pages) 5 c.args.self.now.page held.tree c.in_ok-top.ensures.map c.in_ok-top.ensures.count held.held)
    (c.in_ok-top.ensures.top tells held.tree held.held) (λ flat. c.if-level-eq0.false (c.level.ensures ∙ flat)) in
    c.in_ok-leaf_entries.ensures.ok tells (leaves held.tree) entries (c.as_slice.ensures.value ∙ both.1)
    (subst (λ (m : PageMap). AllByRecursion (IsOn m 5 0) (leaves held.tree)) (sym map) (leaves_on now count c.args.self.now.page entries feet held)) held.spelled held.are held.rising
    ∙ ap (λ (l : List EntryBytes). entries_of l ++ entries) c.new-found.ensures.items

pub returns-clause-fetches : goal.returns-clause-fetches
returns-clause-fetches g c = λ tells entries feet held.
    let now = g.P.Pages.map c.args.pages.now in
    let count = g.P.Pages.count c.args.pages.now in
    let both = tree_pages (g.P.Pages.map c.fetch_top.new.pages) (g.P.Pages.count c.fetch_top.new.pages) 5 c.args.self.now.page c.in_ok-top.top c.in_ok-all.all.uppers.items c.in_ok-all.all.leaves.items (c.in_ok-all.ensures.found tells) held.tree
    (held_same now (g.P.Pages.map c.fetch_top.new.pages) count (g.P.Pages.count c.fetch_top.new.pages) 5 c.args.self.now.page held.tree c.in_ok-top.ensures.map c.in_ok-top.ensures.count held.held)
    (c.in_ok-top.ensures.top tells held.tree held.held) (λ flat. c.if-level-eq0.false (c.level.ensures ∙ flat)) in
    let first = c.in_ok-top.ensures.fetches in
    let second = c.in_ok-all.ensures.fetches in
    let third = c.in_ok-leaf_entries.ensures.fetches in
    let ups = ap (λ (l : List ℕ). length l) both.0 in
    let ends = ap (λ (l : List ℕ). length l) (c.as_slice.ensures.value ∙ both.1) in
    let all = feet_len now count c.args.self.now.page entries feet held in
    omega (arith, first, second, third, ups, ends, all)

pub returns-in_err-leaf_entries-clause-quiet : goal.returns-in_err-leaf_entries-clause-quiet
returns-in_err-leaf_entries-clause-quiet g c = quiet_join g.P.Pages g.met.P.Pages.follows_on c.args.pages.now c.fetch_top.new.pages c.leaf_entries.new.pages c.in_ok-top.ensures.quiet
    (quiet_join g.P.Pages g.met.P.Pages.follows_on c.fetch_top.new.pages c.survey.new.pages c.leaf_entries.new.pages c.in_ok-all.ensures.quiet c.in_err-leaf_entries.ensures.quiet)

pub returns-clause-quiet : goal.returns-clause-quiet
returns-clause-quiet g c = quiet_join g.P.Pages g.met.P.Pages.follows_on c.args.pages.now c.fetch_top.new.pages c.leaf_entries.new.pages c.in_ok-top.ensures.quiet
    (quiet_join g.P.Pages g.met.P.Pages.follows_on c.fetch_top.new.pages c.survey.new.pages c.leaf_entries.new.pages c.in_ok-all.ensures.quiet c.in_ok-leaf_entries.ensures.quiet)
