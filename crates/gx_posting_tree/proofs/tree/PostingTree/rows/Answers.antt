use Rattle.std.proofs.Common.{◌≡◌, ◌<◌, ◌++◌, ◌∙◌, ℕ, List, length, sym, ap, subst, arith}
use Rattle.std.proofs.lemmas.Result.{err_from_is_err_and}
use Rattle.std.specs.List.{AllByRecursion}
use Rattle.gx_words.specs.PageMap.{PageMap}
use Rattle.gx_pages.specs.declared.row.RowRef.{RowRef}
use Rattle.gx_pages.specs.Rows.{IsRising}
use Rattle.gx_pages.proofs.Footprints.{cause_weaker, quiet_join}
use Rattle.gx_tree.specs.Trees.{IsOn, entries, leaves, numbers}
use Rattle.gx_tree.proofs.Causes.{broken_or}
use Rattle.gx_tree.proofs.Dropped.{held_same, tree_pages, tree_refused}
use Rattle.gx_posting_tree.proofs.Held.{feet_len, leaves_below, leaves_on, root_feet, root_items}
use Rattle.gx_posting_tree.proofs.tree.PostingTree.rows.Goals as goal

pub returns-in_err-top-clause-cause : goal.returns-in_err-top-clause-cause
returns-in_err-top-clause-cause g c =
    let p = err_from_is_err_and c.from_residual.result c.from_residual.ensures.1 in
    rw (p.1, p.2)
    (cause_weaker c.in_err-top.field-0.0 (g.P.Pages.faults c.args.pages.now) (g.P.Pages.faults c.args.pages.now) (g.P.Pages.faults c.fetch_top.new.pages) (g.P.Pages.faults c.fetch_top.new.pages)
    _ _ _ _ _ _ (omega arith) (omega arith) (λ at expected found none tells rows feet held. none tells held.tree held.held) (λ n no. absurd no) (λ no. absurd no) c.in_err-top.ensures.cause)

pub returns-in_err-push_rows-clause-cause : goal.returns-in_err-push_rows-clause-cause
returns-in_err-push_rows-clause-cause g c =
    let p = err_from_is_err_and c.from_residual-in_err-push_rows.result c.from_residual-in_err-push_rows.ensures.1 in
    rw (p.1, p.2)
    (broken_or c.in_err-push_rows.field-0.0 c.args.self.now.page (g.P.Pages.faults c.args.pages.now) (g.P.Pages.faults c.fetch_top.new.pages) _ _ _ _ c.in_err-push_rows.ensures.cause
    (λ refused at expected found tells rows feet held.
    refused (entries held.tree) rows
    (root_items (g.P.Pages.map c.args.pages.now) (g.P.Pages.count c.args.pages.now) c.args.self.now.page rows feet held c.in_ok-top.top (c.in_ok-top.ensures.top tells held.tree held.held) (sym c.level.ensures ∙ c.if-level-eq0.true))
    held.spelled (subst (λ (l : List RowRef). IsRising (l ++ rows)) (sym c.new-found.ensures) held.rising))
    tt)

pub returns-then-level-eq0-clause-rows : goal.returns-then-level-eq0-clause-rows
returns-then-level-eq0-clause-rows g c = λ tells rows feet held.
    c.in_ok-push_rows.ensures.ok (entries held.tree) rows
    (root_items (g.P.Pages.map c.args.pages.now) (g.P.Pages.count c.args.pages.now) c.args.self.now.page rows feet held c.in_ok-top.top (c.in_ok-top.ensures.top tells held.tree held.held) (sym c.level.ensures ∙ c.if-level-eq0.true))
    held.spelled ∙ ap (λ (l : List RowRef). l ++ rows) c.new-found.ensures

pub returns-then-level-eq0-clause-fetches : goal.returns-then-level-eq0-clause-fetches
returns-then-level-eq0-clause-fetches g c = λ tells rows feet held.
    let one = root_feet (g.P.Pages.map c.args.pages.now) (g.P.Pages.count c.args.pages.now) c.args.self.now.page rows feet held c.in_ok-top.top (c.in_ok-top.ensures.top tells held.tree held.held) (sym c.level.ensures ∙ c.if-level-eq0.true) in
    let few = c.in_ok-top.ensures.fetches in
    omega (arith, one, few)

pub returns-in_err-all-clause-cause : goal.returns-in_err-all-clause-cause
returns-in_err-all-clause-cause g c =
    let p = err_from_is_err_and c.from_residual-in_err-all.result c.from_residual-in_err-all.ensures.1 in
    rw (p.1, p.2)
    (cause_weaker c.in_err-all.field-0.0 (g.P.Pages.faults c.args.pages.now) (g.P.Pages.faults c.fetch_top.new.pages) (g.P.Pages.faults c.survey.new.pages) (g.P.Pages.faults c.survey.new.pages)
    _ _ _ _ _ _ (let q = c.in_ok-top.ensures.quiet.faults in omega arith) (omega arith) (λ at expected found refused tells rows feet held.
    tree_refused (g.P.Pages.map c.fetch_top.new.pages) (g.P.Pages.count c.fetch_top.new.pages) 6 c.args.self.now.page c.in_ok-top.top (refused tells) held.tree
    (held_same (g.P.Pages.map c.args.pages.now) (g.P.Pages.map c.fetch_top.new.pages) (g.P.Pages.count c.args.pages.now) (g.P.Pages.count c.fetch_top.new.pages) 6 c.args.self.now.page held.tree c.in_ok-top.ensures.map c.in_ok-top.ensures.count held.held)
    (c.in_ok-top.ensures.top tells held.tree held.held) (λ flat. c.if-level-eq0.false (c.level.ensures ∙ flat)))
    (λ n no. absurd no) (λ m. m) c.in_err-all.ensures.cause)

pub returns-in_err-leaf_rows-clause-cause : goal.returns-in_err-leaf_rows-clause-cause
returns-in_err-leaf_rows-clause-cause g c =
    let p = err_from_is_err_and c.from_residual-in_err-leaf_rows.result c.from_residual-in_err-leaf_rows.ensures.1 in
    let now = g.P.Pages.map c.args.pages.now in
    let count = g.P.Pages.count c.args.pages.now in
    let last = c.survey.new.pages in
    let map : g.P.Pages.map last ≡ now = c.in_ok-all.ensures.map ∙ c.in_ok-top.ensures.map in
    let same : g.P.Pages.count last ≡ count = c.in_ok-all.ensures.count ∙ c.in_ok-top.ensures.count in
    rw (p.1, p.2)
    (cause_weaker c.in_err-leaf_rows.field-0.0 (g.P.Pages.faults c.args.pages.now) (g.P.Pages.faults c.survey.new.pages) (g.P.Pages.faults c.leaf_rows.new.pages) (g.P.Pages.faults c.leaf_rows.new.pages)
    _ _ _ _ _ _ (let q = c.in_ok-top.ensures.quiet.faults in let r = c.in_ok-all.ensures.quiet.faults in omega arith) (omega arith) (λ at expected found refused tells rows feet held.
    let both = tree_pages (g.P.Pages.map c.fetch_top.new.pages) (g.P.Pages.count c.fetch_top.new.pages) 6 c.args.self.now.page c.in_ok-top.top c.in_ok-all.all.uppers.items c.in_ok-all.all.leaves.items (c.in_ok-all.ensures.found tells) held.tree
    (held_same now (g.P.Pages.map c.fetch_top.new.pages) count (g.P.Pages.count c.fetch_top.new.pages) 6 c.args.self.now.page held.tree c.in_ok-top.ensures.map c.in_ok-top.ensures.count held.held)
    (c.in_ok-top.ensures.top tells held.tree held.held) (λ flat. c.if-level-eq0.false (c.level.ensures ∙ flat)) in
    let list : c.as_slice.result.now ≡ numbers (leaves held.tree) = c.as_slice.ensures.value ∙ both.1 in
    refused tells (leaves held.tree) rows list
    (subst (λ (m : PageMap). AllByRecursion (IsOn m 6 0) (leaves held.tree)) (sym map) (leaves_on now count c.args.self.now.page rows feet held))
    (subst (λ (l : List ℕ). AllByRecursion (λ (page : ℕ). page < g.P.Pages.count last) l) (sym list)
    (subst (λ (n : ℕ). AllByRecursion (λ (page : ℕ). page < n) (numbers (leaves held.tree))) (sym same) (leaves_below now count c.args.self.now.page rows feet held)))
    held.spelled (subst (λ (l : List RowRef). IsRising (l ++ rows)) (sym c.new-found.ensures) held.rising))
    (λ n no. absurd no) (λ m. m) c.in_err-leaf_rows.ensures.cause)

pub returns-clause-rows : goal.returns-clause-rows
returns-clause-rows g c = λ tells rows feet held.
    let now = g.P.Pages.map c.args.pages.now in
    let count = g.P.Pages.count c.args.pages.now in
    let map : g.P.Pages.map c.survey.new.pages ≡ now = c.in_ok-all.ensures.map ∙ c.in_ok-top.ensures.map in
    let both = tree_pages (g.P.Pages.map c.fetch_top.new.pages) (g.P.Pages.count c.fetch_top.new.pages) 6 c.args.self.now.page c.in_ok-top.top c.in_ok-all.all.uppers.items c.in_ok-all.all.leaves.items (c.in_ok-all.ensures.found tells) held.tree
    (held_same now (g.P.Pages.map c.fetch_top.new.pages) count (g.P.Pages.count c.fetch_top.new.pages) 6 c.args.self.now.page held.tree c.in_ok-top.ensures.map c.in_ok-top.ensures.count held.held)
    (c.in_ok-top.ensures.top tells held.tree held.held) (λ flat. c.if-level-eq0.false (c.level.ensures ∙ flat)) in
    c.in_ok-leaf_rows.ensures.ok tells (leaves held.tree) rows (c.as_slice.ensures.value ∙ both.1)
    (subst (λ (m : PageMap). AllByRecursion (IsOn m 6 0) (leaves held.tree)) (sym map) (leaves_on now count c.args.self.now.page rows feet held)) held.spelled
    ∙ ap (λ (l : List RowRef). l ++ rows) c.new-found.ensures

pub returns-clause-fetches : goal.returns-clause-fetches
returns-clause-fetches g c = λ tells rows feet held.
    let now = g.P.Pages.map c.args.pages.now in
    let count = g.P.Pages.count c.args.pages.now in
    let both = tree_pages (g.P.Pages.map c.fetch_top.new.pages) (g.P.Pages.count c.fetch_top.new.pages) 6 c.args.self.now.page c.in_ok-top.top c.in_ok-all.all.uppers.items c.in_ok-all.all.leaves.items (c.in_ok-all.ensures.found tells) held.tree
    (held_same now (g.P.Pages.map c.fetch_top.new.pages) count (g.P.Pages.count c.fetch_top.new.pages) 6 c.args.self.now.page held.tree c.in_ok-top.ensures.map c.in_ok-top.ensures.count held.held)
    (c.in_ok-top.ensures.top tells held.tree held.held) (λ flat. c.if-level-eq0.false (c.level.ensures ∙ flat)) in
    let first = c.in_ok-top.ensures.fetches in
    let second = c.in_ok-all.ensures.fetches in
    let third = c.in_ok-leaf_rows.ensures.fetches in
    let ups = ap (λ (l : List ℕ). length l) both.0 in
    let ends = ap (λ (l : List ℕ). length l) (c.as_slice.ensures.value ∙ both.1) in
    let all = feet_len now count c.args.self.now.page rows feet held in
    omega (arith, first, second, third, ups, ends, all)

pub returns-in_err-top-clause-quiet : goal.returns-in_err-top-clause-quiet
returns-in_err-top-clause-quiet g c = c.in_err-top.ensures.quiet

pub returns-in_err-push_rows-clause-quiet : goal.returns-in_err-push_rows-clause-quiet
returns-in_err-push_rows-clause-quiet g c = c.in_ok-top.ensures.quiet

pub returns-then-level-eq0-clause-quiet : goal.returns-then-level-eq0-clause-quiet
returns-then-level-eq0-clause-quiet g c = c.in_ok-top.ensures.quiet

pub returns-in_err-all-clause-quiet : goal.returns-in_err-all-clause-quiet
returns-in_err-all-clause-quiet g c = quiet_join g.P.Pages g.met.P.Pages.follows_on c.args.pages.now c.fetch_top.new.pages c.survey.new.pages c.in_ok-top.ensures.quiet c.in_err-all.ensures.quiet

pub returns-in_err-leaf_rows-clause-quiet : goal.returns-in_err-leaf_rows-clause-quiet
returns-in_err-leaf_rows-clause-quiet g c = quiet_join g.P.Pages g.met.P.Pages.follows_on c.args.pages.now c.fetch_top.new.pages c.leaf_rows.new.pages c.in_ok-top.ensures.quiet
    (quiet_join g.P.Pages g.met.P.Pages.follows_on c.fetch_top.new.pages c.survey.new.pages c.leaf_rows.new.pages c.in_ok-all.ensures.quiet c.in_err-leaf_rows.ensures.quiet)

pub returns-clause-quiet : goal.returns-clause-quiet
returns-clause-quiet g c = quiet_join g.P.Pages g.met.P.Pages.follows_on c.args.pages.now c.fetch_top.new.pages c.leaf_rows.new.pages c.in_ok-top.ensures.quiet
    (quiet_join g.P.Pages g.met.P.Pages.follows_on c.fetch_top.new.pages c.survey.new.pages c.leaf_rows.new.pages c.in_ok-all.ensures.quiet c.in_ok-leaf_rows.ensures.quiet)
