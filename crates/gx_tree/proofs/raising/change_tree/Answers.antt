use Rattle.std.proofs.Common.{◌≡◌, ◌≢◌, ◌≤◌, ◌<◌, ◌+◌, ℕ, List, Option, Some, None, refl, sym, ◌∙◌, ap, subst, arith}
use Rattle.std.proofs.lemmas.Result.{err_from_is_err_and}
use Rattle.gx_pages.proofs.Footprints.{cause_weaker, quiet_join}
use Rattle.gx_slot.specs.Slots.{Slots}
use Rattle.gx_tree.specs.declared.changing.Sibling.{Sibling}
use Rattle.gx_tree.specs.Changing.{Ends}
use Rattle.gx_tree.specs.Trees.{Holds, Tree, slots_of}
use Rattle.gx_tree.proofs.Nodes.{slots_level}
use Rattle.gx_tree.proofs.Wholes.{other, raise_at, refused_at, tree_begins, tree_ends, tree_refused, whole_none, whole_pair, whole_some}
use Rattle.gx_tree.proofs.raising.change_tree.Goals as goal

level_is : (kind : ℕ) (tree : Tree) (top : Slots) (level : ℕ) → top ≡ slots_of kind tree.0 tree.1 → level ≡ top.level → level ≡ tree.0
level_is kind tree top level is at = at ∙ ap (λ (s : Slots). s.level) is ∙ slots_level kind tree.0 tree.1

pub returns-in_err-top-clause-cause : goal.returns-in_err-top-clause-cause
returns-in_err-top-clause-cause g c =
    let p = err_from_is_err_and c.from_residual.result c.from_residual.ensures.1 in
    rw (p.1, p.2)
    (cause_weaker c.in_err-top.field-0.0 (g.P.Pages.faults c.args.pages.now) (g.P.Pages.faults c.args.pages.now) (g.P.Pages.faults c.fetch_top.new.pages) (g.P.Pages.faults c.fetch_top.new.pages)
    _ _ _ _ _ _ (omega arith) (omega arith) (λ at expected found none tells tree free held keyed key allowed. none tells tree held.held) (λ n no. absurd no) (λ no. absurd no) c.in_err-top.ensures.cause)

pub returns-in_err-sibling-clause-cause : goal.returns-in_err-sibling-clause-cause
returns-in_err-sibling-clause-cause g c =
    let p = err_from_is_err_and c.from_residual-in_err-sibling.result c.from_residual-in_err-sibling.ensures.1 in
    let old = c.args.pages.now in
    let mid = c.fetch_top.new.pages in
    let mine = g.C.Seek.sought c.args.change.now in
    let allows = g.C.Change.allows c.args.change.now in
    rw (p.1, p.2)
    (cause_weaker c.in_err-sibling.field-0.0 (g.P.Pages.faults old) (g.P.Pages.faults mid) (g.P.Pages.faults c.change_below.new.pages) (g.P.Pages.faults c.change_below.new.pages)
    _ _ _ _ _ _ (let q = c.in_ok-top.ensures.quiet.faults in omega (arith, q)) (omega arith)
    (λ at expected found refused tells tree free held keyed key allowed.
    tree_refused g.P.Pages g.C.Seek.order mine allows (g.C.Change.edits c.args.change.now) c.args.kind c.args.root old mid c.level-level.result c.in_ok-top.ensures.map c.in_ok-top.ensures.count (refused tells) tree free
    (level_is c.args.kind tree c.in_ok-top.top c.level-level.result (c.in_ok-top.ensures.top tells tree held.held) c.level-level.ensures)
    (tree_begins g.P.Pages old g.C.Seek.order mine allows c.args.kind c.args.root tree free held keyed key allowed))
    (λ n space. space) (λ m. m) c.in_err-sibling.ensures.cause)

pub returns-in-None-clause-changed : goal.returns-in-None-clause-changed
returns-in-None-clause-changed g c = λ tells tree free held keyed key allowed.
    let old = c.args.pages.now in
    let mid = c.fetch_top.new.pages in
    let new = c.change_below.new.pages in
    let mine = g.C.Seek.sought c.args.change.now in
    let allows = g.C.Change.allows c.args.change.now in
    let edits = g.C.Change.edits c.args.change.now in
    let begins = tree_begins g.P.Pages old g.C.Seek.order mine allows c.args.kind c.args.root tree free held keyed key allowed in
    let ends = tree_ends g.P.Pages g.C.Seek.order mine allows edits c.args.kind c.args.root old mid new c.in_ok-sibling.sibling c.level-level.result c.in_ok-top.ensures.map c.in_ok-top.ensures.count (c.in_ok-sibling.ensures.ends tells) tree free
    (level_is c.args.kind tree c.in_ok-top.top c.level-level.result (c.in_ok-top.ensures.top tells tree held.held) c.level-level.ensures) begins in
    whole_none g.P.Pages g.C.Seek.order mine allows edits c.args.kind c.args.root tree.0 old new tree.1 free begins
    (subst (λ (o : Option Sibling). Ends g.P.Pages old new g.C.Seek.order edits c.args.kind tree.0 c.args.root None None tree.1 free o) c.in-None.is ends)

pub returns-in_err-raise-in-Some-clause-cause : goal.returns-in_err-raise-in-Some-clause-cause
returns-in_err-raise-in-Some-clause-cause g c =
    let p = err_from_is_err_and c.from_residual-in_err-raise-in-Some.result c.from_residual-in_err-raise-in-Some.ensures.1 in
    let old = c.args.pages.now in
    let mid = c.fetch_top.new.pages in
    let new = c.change_below.new.pages in
    let mine = g.C.Seek.sought c.args.change.now in
    let allows = g.C.Change.allows c.args.change.now in
    let edits = g.C.Change.edits c.args.change.now in
    rw (p.1, p.2)
    (cause_weaker c.in_err-raise-in-Some.field-0.0 (g.P.Pages.faults old) (g.P.Pages.faults new) (g.P.Pages.faults c.raise.new.pages) (g.P.Pages.faults c.raise.new.pages)
    _ _ _ _ _ _ (let q = c.in_ok-top.ensures.quiet.faults in let r = c.in_ok-sibling.ensures.quiet.faults in omega (arith, q, r)) (omega arith)
    (λ at expected found refused tells tree free held keyed key allowed.
    let begins = tree_begins g.P.Pages old g.C.Seek.order mine allows c.args.kind c.args.root tree free held keyed key allowed in
    let level = level_is c.args.kind tree c.in_ok-top.top c.level-level.result (c.in_ok-top.ensures.top tells tree held.held) c.level-level.ensures in
    let ends = tree_ends g.P.Pages g.C.Seek.order mine allows edits c.args.kind c.args.root old mid new c.in_ok-sibling.sibling c.level-level.result c.in_ok-top.ensures.map c.in_ok-top.ensures.count (c.in_ok-sibling.ensures.ends tells) tree free level begins in
    let some = subst (λ (o : Option Sibling). Ends g.P.Pages old new g.C.Seek.order edits c.args.kind tree.0 c.args.root None None tree.1 free o) c.in-Some.is ends in
    refused_at g.P.Pages g.C.Seek.order c.args.kind c.args.root new c.in-Some.sibling.key c.in-Some.sibling.page c.level-level.result tree.0 level (refused tells) some.left
    (other g.P.Pages g.C.Seek.order mine allows edits c.args.kind c.args.root tree.0 old new tree.1 free begins c.in-Some.sibling some) some.rest
    (whole_pair g.P.Pages g.C.Seek.order mine allows edits c.args.kind c.args.root tree.0 old new tree.1 free begins c.in-Some.sibling some))
    (λ n space. space) (λ m. m) c.in_err-raise-in-Some.ensures.cause)

pub returns-in_ok-raise-in-Some-clause-changed : goal.returns-in_ok-raise-in-Some-clause-changed
returns-in_ok-raise-in-Some-clause-changed g c = λ tells tree free held keyed key allowed.
    let old = c.args.pages.now in
    let mid = c.fetch_top.new.pages in
    let new = c.change_below.new.pages in
    let mine = g.C.Seek.sought c.args.change.now in
    let allows = g.C.Change.allows c.args.change.now in
    let edits = g.C.Change.edits c.args.change.now in
    let begins = tree_begins g.P.Pages old g.C.Seek.order mine allows c.args.kind c.args.root tree free held keyed key allowed in
    let level = level_is c.args.kind tree c.in_ok-top.top c.level-level.result (c.in_ok-top.ensures.top tells tree held.held) c.level-level.ensures in
    let ends = tree_ends g.P.Pages g.C.Seek.order mine allows edits c.args.kind c.args.root old mid new c.in_ok-sibling.sibling c.level-level.result c.in_ok-top.ensures.map c.in_ok-top.ensures.count (c.in_ok-sibling.ensures.ends tells) tree free level begins in
    let some = subst (λ (o : Option Sibling). Ends g.P.Pages old new g.C.Seek.order edits c.args.kind tree.0 c.args.root None None tree.1 free o) c.in-Some.is ends in
    whole_some g.P.Pages g.C.Seek.order mine allows edits c.args.kind c.args.root tree.0 old new tree.1 free begins c.in-Some.sibling some c.raise.new.pages
    (raise_at g.P.Pages g.C.Seek.order c.args.kind c.args.root new c.raise.new.pages c.in-Some.sibling.key c.in-Some.sibling.page c.level-level.result tree.0 level (c.in_ok-raise-in-Some.ensures.raised tells) some.left
    (other g.P.Pages g.C.Seek.order mine allows edits c.args.kind c.args.root tree.0 old new tree.1 free begins c.in-Some.sibling some) some.rest
    (whole_pair g.P.Pages g.C.Seek.order mine allows edits c.args.kind c.args.root tree.0 old new tree.1 free begins c.in-Some.sibling some))

pub returns-in_ok-raise-in-Some-clause-by : goal.returns-in_ok-raise-in-Some-clause-by
returns-in_ok-raise-in-Some-clause-by g c =
    let a = c.in_ok-top.ensures.count in let b = c.in_ok-sibling.ensures.by in let d = c.in_ok-raise-in-Some.ensures.by_one in let e = c.level-level.ensures in let f = c.in_ok-top.ensures.level in
    omega (arith, a, b, d, e, f)

pub returns-in_ok-raise-in-Some-clause-heap : goal.returns-in_ok-raise-in-Some-clause-heap
returns-in_ok-raise-in-Some-clause-heap g c = λ other sound. c.in_ok-raise-in-Some.ensures.heap other tt ∙ c.in_ok-sibling.ensures.heap other tt ∙ c.in_ok-top.ensures.heap other tt

pub returns-in_ok-raise-in-Some-clause-quiet : goal.returns-in_ok-raise-in-Some-clause-quiet
returns-in_ok-raise-in-Some-clause-quiet g c =
    quiet_join g.P.Pages g.met.P.Pages.follows_on c.args.pages.now c.change_below.new.pages c.raise.new.pages
    (quiet_join g.P.Pages g.met.P.Pages.follows_on c.args.pages.now c.fetch_top.new.pages c.change_below.new.pages c.in_ok-top.ensures.quiet c.in_ok-sibling.ensures.quiet) c.in_ok-raise-in-Some.ensures.quiet
