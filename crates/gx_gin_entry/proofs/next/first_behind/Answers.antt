use Rattle.std.proofs.Common.{◌≡◌, ◌≢◌, ◌≤◌, ◌<◌, ◌+◌, ◌∷◌, [], ◌++◌, ◌∙◌, ℕ, List, Some, None, length, map, sym, ap, subst, refl, arith}
use Rattle.std.proofs.lemmas.Result.{IfErr-weaker, IfOk-weaker, err_from_is_err_and}
use Rattle.std.specs.List.{AllByRecursion}
use Rattle.gx_words.specs.PageMap.{PageMap}
use Rattle.gx_pages.proofs.Footprints.{cause_weaker, quiet_join}
use Rattle.gx_slot.specs.Slots.{Slots}
use Rattle.gx_tree.specs.Trees.{IsOn, leaves, numbers}
use Rattle.gx_tree.proofs.Causes.{broken_cause}
use Rattle.gx_tree.proofs.Dropped.{held_same, tree_pages, tree_refused}
use Rattle.gx_tree.proofs.Nodes.{slots_level}
use Rattle.gx_gin_entry.proofs.Nexts.{behind_list, flat_none, front_apart, others_below, others_on}
use Rattle.gx_gin_entry.proofs.next.first_behind.Goals as goal

pub returns-then-level-eq0-clause-found : goal.returns-then-level-eq0-clause-found
returns-then-level-eq0-clause-found g c = λ tells list feet held prior others items entries row are fit rise.
    flat_none held.tree prior c.args.page items others entries (sym (slots_level 5 held.tree.0 held.tree.1) ∙ ap (λ (s : Slots). s.level) (sym (c.in_ok-top.ensures.top tells held.tree held.held)) ∙ sym c.level.ensures ∙ c.if-level-eq0.true) row are

pub returns-in_err-all-clause-cause : goal.returns-in_err-all-clause-cause
returns-in_err-all-clause-cause g c =
    let p = err_from_is_err_and c.from_residual-in_err-all.result c.from_residual-in_err-all.ensures.1 in
    rw (p.1, p.2)
    (cause_weaker c.in_err-all.field-0.0 (g.P.Pages.faults c.args.pages.now) (g.P.Pages.faults c.fetch_top.new.pages) (g.P.Pages.faults c.survey.new.pages) (g.P.Pages.faults c.survey.new.pages)
    _ _ _ _ _ _ (let q = c.in_ok-top.ensures.quiet.faults in omega arith) (omega arith) (λ at expected found refused tells list feet held prior others items entries row are fit rise.
    tree_refused (g.P.Pages.map c.fetch_top.new.pages) (g.P.Pages.count c.fetch_top.new.pages) 5 c.args.root c.in_ok-top.top (refused tells) held.tree
    (held_same (g.P.Pages.map c.args.pages.now) (g.P.Pages.map c.fetch_top.new.pages) (g.P.Pages.count c.args.pages.now) (g.P.Pages.count c.fetch_top.new.pages) 5 c.args.root held.tree c.in_ok-top.ensures.map c.in_ok-top.ensures.count held.held)
    (c.in_ok-top.ensures.top tells held.tree held.held) (λ flat. c.if-level-eq0.false (c.level.ensures ∙ flat)))
    (λ n no. absurd no) (λ m. m) c.in_err-all.ensures.cause)

pub returns-in_default-clause-cause : goal.returns-in_default-clause-cause
returns-in_default-clause-cause g c =
    broken_cause c.broken.result c.args.root _ _ _ _ _ c.broken.ensures (λ tells list feet held prior others items entries row are fit rise.
    let both = tree_pages (g.P.Pages.map c.fetch_top.new.pages) (g.P.Pages.count c.fetch_top.new.pages) 5 c.args.root c.in_ok-top.top c.in_ok-all.all.uppers.items c.in_ok-all.all.leaves.items (c.in_ok-all.ensures.found tells) held.tree
    (held_same (g.P.Pages.map c.args.pages.now) (g.P.Pages.map c.fetch_top.new.pages) (g.P.Pages.count c.args.pages.now) (g.P.Pages.count c.fetch_top.new.pages) 5 c.args.root held.tree c.in_ok-top.ensures.map c.in_ok-top.ensures.count held.held)
    (c.in_ok-top.ensures.top tells held.tree held.held) (λ flat. c.if-level-eq0.false (c.level.ensures ∙ flat)) in
    let e : None ≡ Some (numbers others) = c.in_default.ensures (numbers prior) (numbers others) (behind_list c.as_slice.result.now held.tree prior c.args.page items others row (c.as_slice.ensures.value ∙ both.1))
    (front_apart (g.P.Pages.map c.args.pages.now) (g.P.Pages.count c.args.pages.now) c.args.root list feet held prior c.args.page items others row) in
    cc)

pub returns-clause-found : goal.returns-clause-found
returns-clause-found g c =
    IfOk-weaker c.first_in.result _ _ (λ found first tells list feet held prior others items entries row are fit rise.
    let now = g.P.Pages.map c.args.pages.now in
    let count = g.P.Pages.count c.args.pages.now in
    let both = tree_pages (g.P.Pages.map c.fetch_top.new.pages) (g.P.Pages.count c.fetch_top.new.pages) 5 c.args.root c.in_ok-top.top c.in_ok-all.all.uppers.items c.in_ok-all.all.leaves.items (c.in_ok-all.ensures.found tells) held.tree
    (held_same now (g.P.Pages.map c.fetch_top.new.pages) count (g.P.Pages.count c.fetch_top.new.pages) 5 c.args.root held.tree c.in_ok-top.ensures.map c.in_ok-top.ensures.count held.held)
    (c.in_ok-top.ensures.top tells held.tree held.held) (λ flat. c.if-level-eq0.false (c.level.ensures ∙ flat)) in
    let e : Some c.in-Some.list.now ≡ Some (numbers others) = c.in-Some.ensures (numbers prior) (numbers others) (behind_list c.as_slice.result.now held.tree prior c.args.page items others row (c.as_slice.ensures.value ∙ both.1))
    (front_apart now count c.args.root list feet held prior c.args.page items others row) in
    let list_is : c.in-Some.list.now ≡ numbers others = cc in
    let map : g.P.Pages.map c.survey.new.pages ≡ now = c.in_ok-all.ensures.map ∙ c.in_ok-top.ensures.map in
    first tells others entries list_is
    (subst (λ (m : PageMap). AllByRecursion (IsOn m 5 0) others) (sym map) (others_on now count c.args.root list feet held prior c.args.page items others row)) are fit rise)
    c.first_in.ensures.found

pub returns-clause-cause : goal.returns-clause-cause
returns-clause-cause g c =
    IfErr-weaker c.first_in.result _ _ (λ error has.
    let now = g.P.Pages.map c.args.pages.now in
    let count = g.P.Pages.count c.args.pages.now in
    let last = c.survey.new.pages in
    cause_weaker error (g.P.Pages.faults c.args.pages.now) (g.P.Pages.faults last) (g.P.Pages.faults c.first_in.new.pages) (g.P.Pages.faults c.first_in.new.pages)
    _ _ _ _ _ _ (let q = c.in_ok-top.ensures.quiet.faults in let r = c.in_ok-all.ensures.quiet.faults in omega arith) (omega arith) (λ at expected found refused tells list feet held prior others items entries row are fit rise.
    let both = tree_pages (g.P.Pages.map c.fetch_top.new.pages) (g.P.Pages.count c.fetch_top.new.pages) 5 c.args.root c.in_ok-top.top c.in_ok-all.all.uppers.items c.in_ok-all.all.leaves.items (c.in_ok-all.ensures.found tells) held.tree
    (held_same now (g.P.Pages.map c.fetch_top.new.pages) count (g.P.Pages.count c.fetch_top.new.pages) 5 c.args.root held.tree c.in_ok-top.ensures.map c.in_ok-top.ensures.count held.held)
    (c.in_ok-top.ensures.top tells held.tree held.held) (λ flat. c.if-level-eq0.false (c.level.ensures ∙ flat)) in
    let e : Some c.in-Some.list.now ≡ Some (numbers others) = c.in-Some.ensures (numbers prior) (numbers others) (behind_list c.as_slice.result.now held.tree prior c.args.page items others row (c.as_slice.ensures.value ∙ both.1))
    (front_apart now count c.args.root list feet held prior c.args.page items others row) in
    let list_is : c.in-Some.list.now ≡ numbers others = cc in
    let map : g.P.Pages.map last ≡ now = c.in_ok-all.ensures.map ∙ c.in_ok-top.ensures.map in
    let same : g.P.Pages.count last ≡ count = c.in_ok-all.ensures.count ∙ c.in_ok-top.ensures.count in
    refused tells others entries list_is
    (subst (λ (m : PageMap). AllByRecursion (IsOn m 5 0) others) (sym map) (others_on now count c.args.root list feet held prior c.args.page items others row))
    (subst (λ (l : List ℕ). AllByRecursion (λ (page : ℕ). page < g.P.Pages.count last) l) (sym list_is)
    (subst (λ (n : ℕ). AllByRecursion (λ (page : ℕ). page < n) (numbers others)) (sym same) (others_below now count c.args.root list feet held prior c.args.page items others row)))
    are fit rise)
    (λ n no. absurd no) (λ m. m) has)
    c.first_in.ensures.cause
