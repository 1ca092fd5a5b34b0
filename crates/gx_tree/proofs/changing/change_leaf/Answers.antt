use Rattle.std.proofs.Common.{◌≡◌, ◌≢◌, ◌≤◌, ◌<◌, ◌+◌, ◌++◌, ◌∷◌, [], ℕ, List, Option, Some, None, length, map, refl, sym, ◌∙◌, ap, subst, arith}
use Rattle.std.proofs.lemmas.Result.{err_from_is_err_and}
use Rattle.gx_pages.proofs.Footprints.{cause_weaker}
use Rattle.gx_slot.specs.Slots.{Slots}
use Rattle.gx_tree.specs.Changing.{Begins}
use Rattle.gx_tree.specs.Paging.{CanSplit, replaced}
use Rattle.gx_tree.specs.Trees.{Node, slots_of}
use Rattle.gx_tree.proofs.Causes.{broken_cause, broken_or}
use Rattle.gx_tree.proofs.Leaves.{leaf_allowed, leaf_below, leaf_outside, leaf_split, leaves_below, leaves_none, leaves_some, option_none, option_some}
use Rattle.gx_tree.proofs.changing.change_leaf.Goals as goal

pub returns-in_default-found-clause-cause : goal.returns-in_default-found-clause-cause
returns-in_default-found-clause-cause g c =
    broken_cause c.broken.result c.args.page _ _ _ _ _ c.broken.ensures (λ tells least end node free begins is.
    let mine = g.C.Seek.sought c.args.change.now in
    option_none c.in-Ok.found _ _ c.in_default-found.is c.in-Ok.ensures least end node.1 (ap (λ (s : Slots). s.items) is) begins.keyed
    (leaf_allowed g.P.Pages g.C.Seek.order g.met.C.Seek.lawful mine (g.C.Change.allows c.args.change.now) (g.C.Change.edits c.args.change.now) c.args.kind c.args.page least end c.args.pages.now node free begins))

pub returns-in_err-items-clause-cause : goal.returns-in_err-items-clause-cause
returns-in_err-items-clause-cause g c =
    let p = err_from_is_err_and c.from_residual.result c.from_residual.ensures.1 in
    rw (p.1, p.2)
    (broken_or c.in_err-items.field-0.0 c.args.page (g.P.Pages.faults c.args.pages.now) (g.P.Pages.faults c.args.pages.now) _ _ _ _ c.in_err-items.ensures.cause
    (λ refused at expected found tells least end node free begins is.
    let mine = g.C.Seek.sought c.args.change.now in
    let edit = option_some c.in-Ok.found _ _ c.in-Some.edit c.in-Some.is c.in-Ok.ensures least end node.1 (ap (λ (s : Slots). s.items) is) begins.keyed
    (leaf_allowed g.P.Pages g.C.Seek.order g.met.C.Seek.lawful mine (g.C.Change.allows c.args.change.now) (g.C.Change.edits c.args.change.now) c.args.kind c.args.page least end c.args.pages.now node free begins) begins.from begins.under in
    refused node.1 (ap (λ (s : Slots). s.items) is) edit.0 edit.2) tt)

pub returns-in_err-right-clause-cause : goal.returns-in_err-right-clause-cause
returns-in_err-right-clause-cause g c =
    let p = err_from_is_err_and c.from_residual-in_err-right.result c.from_residual-in_err-right.ensures.1 in
    rw (p.1, p.2)
    (cause_weaker c.in_err-right.field-0.0 (g.P.Pages.faults c.args.pages.now) (g.P.Pages.faults c.args.pages.now) (g.P.Pages.faults c.write_items.new.pages) (g.P.Pages.faults c.write_items.new.pages)
    _ _ _ _ _ _ (omega arith) (omega arith)
    (λ at expected found refused tells least end node free begins is.
    let mine = g.C.Seek.sought c.args.change.now in
    let items_are = ap (λ (s : Slots). s.items) is in
    let edit = option_some c.in-Ok.found _ _ c.in-Some.edit c.in-Some.is c.in-Ok.ensures least end node.1 items_are begins.keyed
    (leaf_allowed g.P.Pages g.C.Seek.order g.met.C.Seek.lawful mine (g.C.Change.allows c.args.change.now) (g.C.Change.edits c.args.change.now) c.args.kind c.args.page least end c.args.pages.now node free begins) begins.from begins.under in
    let made = c.in_ok-items.ensures.items node.1 items_are edit.0 edit.2 ∙ ap (λ (l : List ℕ). replaced node.1 c.in-Some.edit.place c.in-Some.edit.behind (l ∷ [])) c.as_slice.ensures in
    refused tells free begins.frees
    (leaf_below g.P.Pages g.C.Seek.order g.met.C.Seek.lawful mine (g.C.Change.allows c.args.change.now) (g.C.Change.edits c.args.change.now) c.args.kind c.args.page least end c.args.pages.now node free begins)
    (subst (λ (l : List (List ℕ)). CanSplit 1 l) (sym made)
    (leaf_split g.P.Pages g.C.Seek.order g.met.C.Seek.lawful mine (g.C.Change.allows c.args.change.now) (g.C.Change.edits c.args.change.now) c.args.kind c.args.page least end c.args.pages.now node free begins
    c.in-Some.edit.place c.in-Some.edit.behind c.in-Some.edit.item edit.0 edit.3)))
    (λ n space. space) (λ m. m) c.in_err-right.ensures.cause)

pub returns-in-None-clause-ends : goal.returns-in-None-clause-ends
returns-in-None-clause-ends g c = λ tells least end node free begins is.
    let mine = g.C.Seek.sought c.args.change.now in
    let allows = g.C.Change.allows c.args.change.now in
    let edits = g.C.Change.edits c.args.change.now in
    let items_are = ap (λ (s : Slots). s.items) is in
    let edit = option_some c.in-Ok.found _ _ c.in-Some.edit c.in-Some.is c.in-Ok.ensures least end node.1 items_are begins.keyed
    (leaf_allowed g.P.Pages g.C.Seek.order g.met.C.Seek.lawful mine allows edits c.args.kind c.args.page least end c.args.pages.now node free begins) begins.from begins.under in
    let made = c.in_ok-items.ensures.items node.1 items_are edit.0 edit.2 ∙ ap (λ (l : List ℕ). replaced node.1 c.in-Some.edit.place c.in-Some.edit.behind (l ∷ [])) c.as_slice.ensures in
    leaves_none g.P.Pages g.C.Seek.order g.met.C.Seek.lawful mine allows edits c.args.kind c.args.page least end c.args.pages.now node free begins c.write_items.new.pages
    (replaced node.1 c.in-Some.edit.place c.in-Some.edit.behind (c.in-Some.edit.item ∷ [])) c.in_ok-items.items edit.3 edit.4 made c.in_ok-right.right
    (c.in_ok-right.ensures.parted tells free begins.frees (leaf_outside g.P.Pages g.C.Seek.order g.met.C.Seek.lawful mine allows edits c.args.kind c.args.page least end c.args.pages.now node free begins)
    (leaf_below g.P.Pages g.C.Seek.order g.met.C.Seek.lawful mine allows edits c.args.kind c.args.page least end c.args.pages.now node free begins))
    c.in-None.is

pub returns-in_err-sibling-in-Some-right-clause-cause : goal.returns-in_err-sibling-in-Some-right-clause-cause
returns-in_err-sibling-in-Some-right-clause-cause g c =
    let p = err_from_is_err_and c.from_residual-in_err-sibling-in-Some-right.result c.from_residual-in_err-sibling-in-Some-right.ensures.1 in
    rw (p.1, p.2)
    (broken_or c.in_err-sibling-in-Some-right.field-0.0 c.args.page (g.P.Pages.faults c.args.pages.now) (g.P.Pages.faults c.write_items.new.pages) _ _ _ _ c.in_err-sibling-in-Some-right.ensures.cause
    (λ refused at expected found tells least end node free begins is.
    let mine = g.C.Seek.sought c.args.change.now in
    let allows = g.C.Change.allows c.args.change.now in
    let edits = g.C.Change.edits c.args.change.now in
    let items_are = ap (λ (s : Slots). s.items) is in
    let edit = option_some c.in-Ok.found _ _ c.in-Some.edit c.in-Some.is c.in-Ok.ensures least end node.1 items_are begins.keyed
    (leaf_allowed g.P.Pages g.C.Seek.order g.met.C.Seek.lawful mine allows edits c.args.kind c.args.page least end c.args.pages.now node free begins) begins.from begins.under in
    let made = c.in_ok-items.ensures.items node.1 items_are edit.0 edit.2 ∙ ap (λ (l : List ℕ). replaced node.1 c.in-Some.edit.place c.in-Some.edit.behind (l ∷ [])) c.as_slice.ensures in
    refused least end (subst (λ (l : List (List ℕ)). g.C.Seek.order.AreIn least end l) (sym made) edit.3)
    (leaves_below g.P.Pages g.C.Seek.order g.met.C.Seek.lawful mine allows edits c.args.kind c.args.page least end c.args.pages.now node free begins c.write_items.new.pages
    (replaced node.1 c.in-Some.edit.place c.in-Some.edit.behind (c.in-Some.edit.item ∷ [])) c.in_ok-items.items edit.3 edit.4 made c.in_ok-right.right
    (c.in_ok-right.ensures.parted tells free begins.frees (leaf_outside g.P.Pages g.C.Seek.order g.met.C.Seek.lawful mine allows edits c.args.kind c.args.page least end c.args.pages.now node free begins)
    (leaf_below g.P.Pages g.C.Seek.order g.met.C.Seek.lawful mine allows edits c.args.kind c.args.page least end c.args.pages.now node free begins))
    c.in-Some-right.right c.in-Some-right.is))
    tt)

pub returns-clause-ends : goal.returns-clause-ends
returns-clause-ends g c = λ tells least end node free begins is.
    let mine = g.C.Seek.sought c.args.change.now in
    let allows = g.C.Change.allows c.args.change.now in
    let edits = g.C.Change.edits c.args.change.now in
    let items_are = ap (λ (s : Slots). s.items) is in
    let edit = option_some c.in-Ok.found _ _ c.in-Some.edit c.in-Some.is c.in-Ok.ensures least end node.1 items_are begins.keyed
    (leaf_allowed g.P.Pages g.C.Seek.order g.met.C.Seek.lawful mine allows edits c.args.kind c.args.page least end c.args.pages.now node free begins) begins.from begins.under in
    let made = c.in_ok-items.ensures.items node.1 items_are edit.0 edit.2 ∙ ap (λ (l : List ℕ). replaced node.1 c.in-Some.edit.place c.in-Some.edit.behind (l ∷ [])) c.as_slice.ensures in
    leaves_some g.P.Pages g.C.Seek.order g.met.C.Seek.lawful mine allows edits c.args.kind c.args.page least end c.args.pages.now node free begins c.write_items.new.pages
    (replaced node.1 c.in-Some.edit.place c.in-Some.edit.behind (c.in-Some.edit.item ∷ [])) c.in_ok-items.items edit.3 edit.4 made c.in_ok-right.right
    (c.in_ok-right.ensures.parted tells free begins.frees (leaf_outside g.P.Pages g.C.Seek.order g.met.C.Seek.lawful mine allows edits c.args.kind c.args.page least end c.args.pages.now node free begins)
    (leaf_below g.P.Pages g.C.Seek.order g.met.C.Seek.lawful mine allows edits c.args.kind c.args.page least end c.args.pages.now node free begins))
    c.in-Some-right.right c.in_ok-sibling-in-Some-right.sibling c.in-Some-right.is c.in_ok-sibling-in-Some-right.ensures.page c.in_ok-sibling-in-Some-right.ensures.key
