use Rattle.std.proofs.Common.{◌≡◌, ◌<◌, ◌∙◌, ◌∷◌, [], ℕ, List, sym, subst, arith}
use Rattle.std.specs.List.{AllByRecursion}
use Rattle.std.proofs.lemmas.Result.{IfErr-weaker, IfOk-weaker}
use Rattle.gx_words.specs.PageMap.{PageMap}
use Rattle.gx_pages.specs.Frees.{IsApart}
use Rattle.gx_pages.proofs.Footprints.{apart_right, cause_weaker}
use Rattle.gx_tree.specs.Trees.{IsOn, leaves, numbers, uppers_of}
use Rattle.gx_posting_tree.specs.Removing.{LostRows}
use Rattle.gx_posting_tree.proofs.Held.{leaves_below, leaves_on}
use Rattle.gx_posting_tree.proofs.Removed.{if_on, lost_empty, lost_rows}
use Rattle.gx_posting_tree.proofs.tree.PostingTree.remove_rows.Goals as goal

pub returns-clause-removed : goal.returns-clause-removed
returns-clause-removed g c =
    let old = g.P.Pages.map c.args.pages.now in
    let mid = g.P.Pages.map c.leaf_list.new.pages in
    let new = g.P.Pages.map c.strip_pages.new.pages in
    let list = c.as_slice.result.now in
    if_on c.strip_pages.result _ _ (λ empty stripped tells rows feet free held.
    let is : list ≡ numbers (leaves held.held.tree) = c.as_slice.ensures.value ∙ c.in_ok-list.ensures.all tells held.held.tree held.held.held in
    let lost = subst (λ (m : PageMap). LostRows c.args.gone.now m new list (leaves held.held.tree) empty) c.in_ok-list.ensures.map
    (stripped tells (leaves held.held.tree) is
    (subst (λ (l : List ℕ). IsApart l) (sym is) (apart_right (uppers_of held.held.tree.0 (held.held.tree.1 ∷ [])) (numbers (leaves held.held.tree)) held.held.held.apart))
    (subst (λ (m : PageMap). AllByRecursion (IsOn m 6 0) (leaves held.held.tree)) (sym c.in_ok-list.ensures.map)
    (leaves_on old (g.P.Pages.count c.args.pages.now) c.args.self.now.page rows feet held.held))) in
    lost_rows g.P.Pages c.args.pages.now c.strip_pages.new.pages c.args.self.now.page c.args.gone.now rows feet free empty held list is (c.strip_pages.ensures.count ∙ c.in_ok-list.ensures.count) lost)
    c.strip_pages.ensures.stripped

pub returns-clause-empty : goal.returns-clause-empty
returns-clause-empty g c =
    let old = g.P.Pages.map c.args.pages.now in
    let mid = g.P.Pages.map c.leaf_list.new.pages in
    let new = g.P.Pages.map c.strip_pages.new.pages in
    let list = c.as_slice.result.now in
    IfOk-weaker c.strip_pages.result _ _ (λ empty stripped tells rows feet free held.
    let is : list ≡ numbers (leaves held.held.tree) = c.as_slice.ensures.value ∙ c.in_ok-list.ensures.all tells held.held.tree held.held.held in
    let lost = subst (λ (m : PageMap). LostRows c.args.gone.now m new list (leaves held.held.tree) empty) c.in_ok-list.ensures.map
    (stripped tells (leaves held.held.tree) is
    (subst (λ (l : List ℕ). IsApart l) (sym is) (apart_right (uppers_of held.held.tree.0 (held.held.tree.1 ∷ [])) (numbers (leaves held.held.tree)) held.held.held.apart))
    (subst (λ (m : PageMap). AllByRecursion (IsOn m 6 0) (leaves held.held.tree)) (sym c.in_ok-list.ensures.map)
    (leaves_on old (g.P.Pages.count c.args.pages.now) c.args.self.now.page rows feet held.held))) in
    lost_empty g.P.Pages c.args.pages.now c.strip_pages.new.pages c.args.self.now.page c.args.gone.now rows feet free empty held list is (c.strip_pages.ensures.count ∙ c.in_ok-list.ensures.count) lost)
    c.strip_pages.ensures.stripped

pub returns-clause-cause : goal.returns-clause-cause
returns-clause-cause g c =
    let old = g.P.Pages.map c.args.pages.now in
    let list = c.as_slice.result.now in
    IfErr-weaker c.strip_pages.result _ _ (λ error has.
    cause_weaker error (g.P.Pages.faults c.args.pages.now) (g.P.Pages.faults c.leaf_list.new.pages) (g.P.Pages.faults c.strip_pages.new.pages) (g.P.Pages.faults c.strip_pages.new.pages)
    _ _ _ _ _ _ (let q = c.in_ok-list.ensures.quiet.faults in omega arith) (omega arith) (λ at expected found refused tells rows feet free held.
    let is : list ≡ numbers (leaves held.held.tree) = c.as_slice.ensures.value ∙ c.in_ok-list.ensures.all tells held.held.tree held.held.held in
    refused tells (leaves held.held.tree) rows is
    (subst (λ (l : List ℕ). IsApart l) (sym is) (apart_right (uppers_of held.held.tree.0 (held.held.tree.1 ∷ [])) (numbers (leaves held.held.tree)) held.held.held.apart))
    (subst (λ (m : PageMap). AllByRecursion (IsOn m 6 0) (leaves held.held.tree)) (sym c.in_ok-list.ensures.map)
    (leaves_on old (g.P.Pages.count c.args.pages.now) c.args.self.now.page rows feet held.held))
    (subst (λ (l : List ℕ). AllByRecursion (λ (page : ℕ). page < g.P.Pages.count c.leaf_list.new.pages) l) (sym is)
    (subst (λ (n : ℕ). AllByRecursion (λ (page : ℕ). page < n) (numbers (leaves held.held.tree))) (sym c.in_ok-list.ensures.count)
    (leaves_below old (g.P.Pages.count c.args.pages.now) c.args.self.now.page rows feet held.held)))
    held.held.spelled)
    (λ n no. no) (λ m. m) has)
    c.strip_pages.ensures.cause
