use Rattle.std.proofs.Common.{◌≡◌, ◌≢◌, ◌≤◌, ◌<◌, ◌+◌, ◌-◌, ◌++◌, ◌∷◌, [], ◌^◌, ℕ, zero, suc, Bool, List, Option, Some, None, length, map, get_or, refl, sym, ◌∙◌, ap, subst, add-one, arith}
use Rattle.std.specs.List.{AllByRecursion}
use Rattle.std.proofs.lemmas.Result.{err_from_is_err_and, IfOk-weaker, IfErr-weaker}
use Rattle.gx_pages.proofs.Footprints.{cause_weaker, quiet_join}
use Rattle.gx_slot.specs.Slots.{Slots}
use Rattle.gx_tree.specs.Changing.{Begins, Chosen, Ends}
use Rattle.gx_tree.specs.Trees.{Node, link, named, page_of, slots_of}
use Rattle.gx_tree.proofs.Causes.{broken_cause, broken_or}
use Rattle.gx_tree.proofs.Recursion.{begins_child, child_is, does_leaf, does_under, item_ends, item_refused, items_are, lacks_none, level_up, page_fits, page_links, page_some, refused_leaf, refused_under, slot_below, the_way}
use Rattle.gx_tree.proofs.changing.+change.Goals as goal

pub change_below-returns-in_err-slots-clause-cause : goal.change_below-returns-in_err-slots-clause-cause
change_below-returns-in_err-slots-clause-cause g t c =
    let p = err_from_is_err_and c.from_residual.result c.from_residual.ensures.1 in
    rw (p.1, p.2)
    (cause_weaker c.in_err-slots.field-0.0 (g.P.Pages.faults c.args.pages.now) (g.P.Pages.faults c.args.pages.now) (g.P.Pages.faults c.fetch_level.new.pages) (g.P.Pages.faults c.fetch_level.new.pages)
    _ _ _ _ _ _ (omega arith) (omega arith)
    (λ at expected found broken tells least end node free begins.
    lacks_none g.P.Pages g.C.Seek.order (g.C.Seek.sought c.args.change.now) (g.C.Change.allows c.args.change.now) (g.C.Change.edits c.args.change.now) c.args.kind c.args.page c.args.pages.now c.args.level least end node free begins (broken tells))
    (λ n no. absurd no) (λ no. absurd no) c.in_err-slots.ensures.cause)

pub change_below-returns-then-level-eq0-clause-ends : goal.change_below-returns-then-level-eq0-clause-ends
change_below-returns-then-level-eq0-clause-ends g t c =
    IfOk-weaker c.change_leaf.result _ _ (λ sibling ends tells.
    does_leaf g.P.Pages g.C.Seek.order (g.C.Seek.sought c.args.change.now) (g.C.Change.allows c.args.change.now) (g.C.Change.edits c.args.change.now) c.args.kind c.args.page c.args.pages.now c.fetch_level.new.pages
    c.in_ok-slots.slots c.in_ok-slots.ensures.map c.in_ok-slots.ensures.count (c.in_ok-slots.ensures.one tells) c.change_leaf.new.pages sibling c.args.level c.if-level-eq0.true (ends tells))
    c.change_leaf.ensures.ends

pub change_below-returns-then-level-eq0-clause-cause : goal.change_below-returns-then-level-eq0-clause-cause
change_below-returns-then-level-eq0-clause-cause g t c =
    IfErr-weaker c.change_leaf.result _ _ (λ error has.
    cause_weaker error (g.P.Pages.faults c.args.pages.now) (g.P.Pages.faults c.fetch_level.new.pages) (g.P.Pages.faults c.change_leaf.new.pages) (g.P.Pages.faults c.change_leaf.new.pages)
    _ _ _ _ _ _ (let q = c.in_ok-slots.ensures.quiet.faults in omega (arith, q)) (omega arith)
    (λ at expected found refused tells.
    refused_leaf g.P.Pages g.C.Seek.order (g.C.Seek.sought c.args.change.now) (g.C.Change.allows c.args.change.now) (g.C.Change.edits c.args.change.now) c.args.kind c.args.page c.args.pages.now c.fetch_level.new.pages
    c.in_ok-slots.slots c.in_ok-slots.ensures.map c.in_ok-slots.ensures.count (c.in_ok-slots.ensures.one tells) c.args.level c.if-level-eq0.true (refused tells))
    (λ n space. space) (λ m. m) has)
    c.change_leaf.ensures.cause

pub change_below-returns-then-level-eq0-clause-quiet : goal.change_below-returns-then-level-eq0-clause-quiet
change_below-returns-then-level-eq0-clause-quiet g t c = quiet_join g.P.Pages g.met.P.Pages.follows_on c.args.pages.now c.fetch_level.new.pages c.change_leaf.new.pages c.in_ok-slots.ensures.quiet c.change_leaf.ensures.quiet

pub change_below-returns-clause-ends : goal.change_below-returns-clause-ends
change_below-returns-clause-ends g t c =
    IfOk-weaker c.change_under.result _ _ (λ sibling ends tells.
    does_under g.P.Pages g.C.Seek.order (g.C.Seek.sought c.args.change.now) (g.C.Change.allows c.args.change.now) (g.C.Change.edits c.args.change.now) c.args.kind c.args.page c.args.pages.now c.fetch_level.new.pages
    c.in_ok-slots.slots c.in_ok-slots.ensures.map c.in_ok-slots.ensures.count (c.in_ok-slots.ensures.one tells) c.change_under.new.pages sibling c.args.level (c.args.level - 1) (level_up c.args.level c.if-level-eq0.false) (ends tells))
    c.change_under.ensures.ends

pub change_below-returns-clause-cause : goal.change_below-returns-clause-cause
change_below-returns-clause-cause g t c =
    IfErr-weaker c.change_under.result _ _ (λ error has.
    cause_weaker error (g.P.Pages.faults c.args.pages.now) (g.P.Pages.faults c.fetch_level.new.pages) (g.P.Pages.faults c.change_under.new.pages) (g.P.Pages.faults c.change_under.new.pages)
    _ _ _ _ _ _ (let q = c.in_ok-slots.ensures.quiet.faults in omega (arith, q)) (omega arith)
    (λ at expected found refused tells.
    refused_under g.P.Pages g.C.Seek.order (g.C.Seek.sought c.args.change.now) (g.C.Change.allows c.args.change.now) (g.C.Change.edits c.args.change.now) c.args.kind c.args.page c.args.pages.now c.fetch_level.new.pages
    c.in_ok-slots.slots c.in_ok-slots.ensures.map c.in_ok-slots.ensures.count (c.in_ok-slots.ensures.one tells) c.args.level (c.args.level - 1) (level_up c.args.level c.if-level-eq0.false) (refused tells))
    (λ n space. space) (λ m. m) has)
    c.change_under.ensures.cause

pub change_below-returns-clause-by : goal.change_below-returns-clause-by
change_below-returns-clause-by g t c =
    let more = c.change_under.ensures.by in
    let same = c.in_ok-slots.ensures.count in
    let up = level_up c.args.level c.if-level-eq0.false in
    omega (arith, more, same, up)

pub change_below-returns-clause-quiet : goal.change_below-returns-clause-quiet
change_below-returns-clause-quiet g t c = quiet_join g.P.Pages g.met.P.Pages.follows_on c.args.pages.now c.fetch_level.new.pages c.change_under.new.pages c.in_ok-slots.ensures.quiet c.change_under.ensures.quiet

pub change_under-returns-in_err-slot-clause-cause : goal.change_under-returns-in_err-slot-clause-cause
change_under-returns-in_err-slot-clause-cause g t c =
    let p = err_from_is_err_and c.from_residual.result c.from_residual.ensures.1 in
    let old = c.args.pages.now in
    rw (p.1, p.2)
    (broken_or c.in_err-slot.field-0.0 c.args.page (g.P.Pages.faults old) (g.P.Pages.faults old) _ _ _ _ c.in_err-slot.ensures.cause
    (λ refused at expected found tells least end node free begins is.
    let mine = g.C.Seek.sought c.args.change.now in
    let allows = g.C.Change.allows c.args.change.now in
    let edits = g.C.Change.edits c.args.change.now in
    refused (named c.args.below node.1)
    (items_are g.P.Pages g.C.Seek.order g.met.C.Seek.lawful mine allows edits c.args.kind c.args.page c.args.below old (g.met.P.Pages.bounded old) c.args.slots.now 0 least end node free begins is)
    (page_links g.P.Pages g.C.Seek.order g.met.C.Seek.lawful mine allows edits c.args.kind c.args.page c.args.below old (g.met.P.Pages.bounded old) c.args.slots.now 0 least end node free begins is)
    (page_some g.P.Pages g.C.Seek.order g.met.C.Seek.lawful mine allows edits c.args.kind c.args.page c.args.below old (g.met.P.Pages.bounded old) c.args.slots.now 0 least end node free begins is)) tt)

pub change_under-returns-in_default-clause-cause : goal.change_under-returns-in_default-clause-cause
change_under-returns-in_default-clause-cause g t c =
    let old = c.args.pages.now in
    let slot = c.in_ok-slot.slot in
    broken_cause c.broken.result c.args.page _ _ _ _ _ c.broken.ensures (λ tells least end node free begins is.
    let mine = g.C.Seek.sought c.args.change.now in
    let allows = g.C.Change.allows c.args.change.now in
    let edits = g.C.Change.edits c.args.change.now in
    let bound = g.met.P.Pages.bounded old in
    let e : None ≡ Some (get_or (named c.args.below node.1) slot ([], 0)).1 =
    c.in_default.ensures (named c.args.below node.1) [] 0
    (items_are g.P.Pages g.C.Seek.order g.met.C.Seek.lawful mine allows edits c.args.kind c.args.page c.args.below old bound c.args.slots.now slot least end node free begins is)
    (page_fits g.P.Pages g.C.Seek.order g.met.C.Seek.lawful mine allows edits c.args.kind c.args.page c.args.below old bound c.args.slots.now slot least end node free begins is)
    (slot_below g.P.Pages g.C.Seek.order g.met.C.Seek.lawful mine allows edits c.args.kind c.args.page c.args.below old bound c.args.slots.now slot least end node free begins is c.in_ok-slot.ensures.chosen) in
    cc)

pub change_under-returns-in_err-kept-clause-cause : goal.change_under-returns-in_err-kept-clause-cause
change_under-returns-in_err-kept-clause-cause g t c =
    let p = err_from_is_err_and c.from_residual-in_err-kept.result c.from_residual-in_err-kept.ensures.1 in
    let old = c.args.pages.now in
    let slot = c.in_ok-slot.slot in
    rw (p.1, p.2)
    (broken_or c.in_err-kept.field-0.0 c.args.page (g.P.Pages.faults old) (g.P.Pages.faults old) _ _ _ _ c.in_err-kept.ensures.cause
    (λ refused at expected found tells least end node free begins is.
    let mine = g.C.Seek.sought c.args.change.now in
    let allows = g.C.Change.allows c.args.change.now in
    let edits = g.C.Change.edits c.args.change.now in
    let bound = g.met.P.Pages.bounded old in
    refused (named c.args.below node.1)
    (items_are g.P.Pages g.C.Seek.order g.met.C.Seek.lawful mine allows edits c.args.kind c.args.page c.args.below old bound c.args.slots.now slot least end node free begins is)
    (page_links g.P.Pages g.C.Seek.order g.met.C.Seek.lawful mine allows edits c.args.kind c.args.page c.args.below old bound c.args.slots.now slot least end node free begins is)
    (slot_below g.P.Pages g.C.Seek.order g.met.C.Seek.lawful mine allows edits c.args.kind c.args.page c.args.below old bound c.args.slots.now slot least end node free begins is c.in_ok-slot.ensures.chosen)) tt)

pub change_under-returns-in_err-sibling-clause-cause : goal.change_under-returns-in_err-sibling-clause-cause
change_under-returns-in_err-sibling-clause-cause g t c =
    let p = err_from_is_err_and c.from_residual-in_err-sibling.result c.from_residual-in_err-sibling.ensures.1 in
    let old = c.args.pages.now in
    let slot = c.in_ok-slot.slot in
    rw (p.1, p.2)
    (cause_weaker c.in_err-sibling.field-0.0 (g.P.Pages.faults old) (g.P.Pages.faults old) (g.P.Pages.faults c.change_below.new.pages) (g.P.Pages.faults c.change_below.new.pages)
    _ _ _ _ _ _ (omega arith) (omega arith)
    (λ at expected found refused tells least end node free begins is.
    let mine = g.C.Seek.sought c.args.change.now in
    let allows = g.C.Change.allows c.args.change.now in
    let edits = g.C.Change.edits c.args.change.now in
    let bound = g.met.P.Pages.bounded old in
    let are = items_are g.P.Pages g.C.Seek.order g.met.C.Seek.lawful mine allows edits c.args.kind c.args.page c.args.below old bound c.args.slots.now slot least end node free begins is in
    let below = slot_below g.P.Pages g.C.Seek.order g.met.C.Seek.lawful mine allows edits c.args.kind c.args.page c.args.below old bound c.args.slots.now slot least end node free begins is c.in_ok-slot.ensures.chosen in
    let child = child_is g.P.Pages g.C.Seek.order g.met.C.Seek.lawful mine allows edits c.args.kind c.args.page c.args.below old bound c.args.slots.now slot least end node free begins is c.in_ok-slot.ensures.chosen
    c.in-Some.child c.in-Some.ensures
    (page_fits g.P.Pages g.C.Seek.order g.met.C.Seek.lawful mine allows edits c.args.kind c.args.page c.args.below old bound c.args.slots.now slot least end node free begins is) in
    refused tells _ _ _ free
    (begins_child g.P.Pages g.C.Seek.order g.met.C.Seek.lawful mine allows edits c.args.kind c.args.page c.args.below old bound c.args.slots.now slot least end node free begins is c.in_ok-slot.ensures.chosen
    c.in_ok-kept.kept (c.in_ok-kept.ensures.found (named c.args.below node.1) are below) c.in-Some.child child))
    (λ n space. space) (λ m. m) c.in_err-sibling.ensures.cause)

pub change_under-returns-clause-ends : goal.change_under-returns-clause-ends
change_under-returns-clause-ends g t c =
    let old = c.args.pages.now in
    let slot = c.in_ok-slot.slot in
    IfOk-weaker c.relink.result _ _ (λ out relinked tells least end node free begins is.
    let mine = g.C.Seek.sought c.args.change.now in
    let allows = g.C.Change.allows c.args.change.now in
    let edits = g.C.Change.edits c.args.change.now in
    let bound = g.met.P.Pages.bounded old in
    let are = items_are g.P.Pages g.C.Seek.order g.met.C.Seek.lawful mine allows edits c.args.kind c.args.page c.args.below old bound c.args.slots.now slot least end node free begins is in
    let below = slot_below g.P.Pages g.C.Seek.order g.met.C.Seek.lawful mine allows edits c.args.kind c.args.page c.args.below old bound c.args.slots.now slot least end node free begins is c.in_ok-slot.ensures.chosen in
    let child = child_is g.P.Pages g.C.Seek.order g.met.C.Seek.lawful mine allows edits c.args.kind c.args.page c.args.below old bound c.args.slots.now slot least end node free begins is c.in_ok-slot.ensures.chosen
    c.in-Some.child c.in-Some.ensures
    (page_fits g.P.Pages g.C.Seek.order g.met.C.Seek.lawful mine allows edits c.args.kind c.args.page c.args.below old bound c.args.slots.now slot least end node free begins is) in
    let reached = c.in_ok-kept.ensures.found (named c.args.below node.1) are below in
    let ends = c.in_ok-sibling.ensures.ends tells _ _ _ free
    (begins_child g.P.Pages g.C.Seek.order g.met.C.Seek.lawful mine allows edits c.args.kind c.args.page c.args.below old bound c.args.slots.now slot least end node free begins is c.in_ok-slot.ensures.chosen
    c.in_ok-kept.kept reached c.in-Some.child child) in
    item_ends g.P.Pages g.C.Seek.order g.met.C.Seek.lawful mine allows edits c.args.kind c.args.page c.args.below old bound c.args.slots.now slot least end node free begins is c.in_ok-slot.ensures.chosen
    c.in_ok-kept.kept reached c.change_below.new.pages c.in_ok-sibling.sibling c.in-Some.child child ends c.relink.new.pages out (c.args.below + 1) (let e : c.args.below + 1 ≡ suc c.args.below = omega arith in e) (relinked tells))
    c.relink.ensures.relinked

pub change_under-returns-clause-cause : goal.change_under-returns-clause-cause
change_under-returns-clause-cause g t c =
    let old = c.args.pages.now in
    let slot = c.in_ok-slot.slot in
    IfErr-weaker c.relink.result _ _ (λ error has.
    cause_weaker error (g.P.Pages.faults old) (g.P.Pages.faults c.change_below.new.pages) (g.P.Pages.faults c.relink.new.pages) (g.P.Pages.faults c.relink.new.pages)
    _ _ _ _ _ _ (let q = c.in_ok-sibling.ensures.quiet.faults in omega (arith, q)) (omega arith)
    (λ at expected found refused tells least end node free begins is.
    let mine = g.C.Seek.sought c.args.change.now in
    let allows = g.C.Change.allows c.args.change.now in
    let edits = g.C.Change.edits c.args.change.now in
    let bound = g.met.P.Pages.bounded old in
    let are = items_are g.P.Pages g.C.Seek.order g.met.C.Seek.lawful mine allows edits c.args.kind c.args.page c.args.below old bound c.args.slots.now slot least end node free begins is in
    let below = slot_below g.P.Pages g.C.Seek.order g.met.C.Seek.lawful mine allows edits c.args.kind c.args.page c.args.below old bound c.args.slots.now slot least end node free begins is c.in_ok-slot.ensures.chosen in
    let child = child_is g.P.Pages g.C.Seek.order g.met.C.Seek.lawful mine allows edits c.args.kind c.args.page c.args.below old bound c.args.slots.now slot least end node free begins is c.in_ok-slot.ensures.chosen
    c.in-Some.child c.in-Some.ensures
    (page_fits g.P.Pages g.C.Seek.order g.met.C.Seek.lawful mine allows edits c.args.kind c.args.page c.args.below old bound c.args.slots.now slot least end node free begins is) in
    let reached = c.in_ok-kept.ensures.found (named c.args.below node.1) are below in
    let ends = c.in_ok-sibling.ensures.ends tells _ _ _ free
    (begins_child g.P.Pages g.C.Seek.order g.met.C.Seek.lawful mine allows edits c.args.kind c.args.page c.args.below old bound c.args.slots.now slot least end node free begins is c.in_ok-slot.ensures.chosen
    c.in_ok-kept.kept reached c.in-Some.child child) in
    item_refused g.P.Pages g.C.Seek.order g.met.C.Seek.lawful mine allows edits c.args.kind c.args.page c.args.below old bound c.args.slots.now slot least end node free begins is c.in_ok-slot.ensures.chosen
    c.in_ok-kept.kept reached c.change_below.new.pages c.in_ok-sibling.sibling c.in-Some.child child ends (c.args.below + 1) (let e : c.args.below + 1 ≡ suc c.args.below = omega arith in e) (refused tells))
    (λ n space. space) (λ m. m) has)
    c.relink.ensures.cause

pub change_under-returns-clause-quiet : goal.change_under-returns-clause-quiet
change_under-returns-clause-quiet g t c = quiet_join g.P.Pages g.met.P.Pages.follows_on c.args.pages.now c.change_below.new.pages c.relink.new.pages c.in_ok-sibling.ensures.quiet c.relink.ensures.quiet

pub change_below-returns-then-level-eq0-clause-grows : goal.change_below-returns-then-level-eq0-clause-grows
change_below-returns-then-level-eq0-clause-grows g t c = let a = c.in_ok-slots.ensures.count in let b = c.change_leaf.ensures.grows in omega (arith, a, b)

pub change_below-returns-then-level-eq0-clause-by : goal.change_below-returns-then-level-eq0-clause-by
change_below-returns-then-level-eq0-clause-by g t c = let a = c.in_ok-slots.ensures.count in let b = c.change_leaf.ensures.by_one in omega (arith, a, b)

pub change_below-returns-then-level-eq0-clause-heap : goal.change_below-returns-then-level-eq0-clause-heap
change_below-returns-then-level-eq0-clause-heap g t c = λ other sound. c.change_leaf.ensures.heap ∙ c.in_ok-slots.ensures.heap other tt

pub change_below-returns-clause-grows : goal.change_below-returns-clause-grows
change_below-returns-clause-grows g t c = let a = c.in_ok-slots.ensures.count in let b = c.change_under.ensures.grows in omega (arith, a, b)

pub change_below-returns-clause-heap : goal.change_below-returns-clause-heap
change_below-returns-clause-heap g t c = λ other sound. c.change_under.ensures.heap other sound ∙ c.in_ok-slots.ensures.heap other tt

pub change_under-returns-clause-grows : goal.change_under-returns-clause-grows
change_under-returns-clause-grows g t c = let a = c.in_ok-sibling.ensures.grows in let b = c.relink.ensures.grows in omega (arith, a, b)

pub change_under-returns-clause-by : goal.change_under-returns-clause-by
change_under-returns-clause-by g t c = let a = c.in_ok-sibling.ensures.by in let b = c.relink.ensures.by_one in omega (arith, a, b)

pub change_under-returns-clause-heap : goal.change_under-returns-clause-heap
change_under-returns-clause-heap g t c = λ other sound. c.relink.ensures.heap ∙ c.in_ok-sibling.ensures.heap other tt
