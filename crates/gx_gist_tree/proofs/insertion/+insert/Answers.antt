use Rattle.std.proofs.Common.{◌≡◌, List, ℕ, Some, sym, ◌∙◌, ap, subst, arith}
use Rattle.std.proofs.lemmas.Result.{err_from_is_err_and}
use Rattle.gx_pages.proofs.Footprints.{cause_weaker, quiet_join}
use Rattle.gx_slot.specs.Slots.{Slots, spelling}
use Rattle.gx_gist_tree.specs.Trees.{Node, page_of}
use Rattle.gx_gist_tree.specs.OnPages.{slots_of}
use Rattle.gx_gist_tree.specs.Insertion.{IsInserted, IsReady}
use Rattle.gx_gist_tree.proofs.Places.{at}
use Rattle.gx_gist_tree.proofs.VisitFacts.{level_up, not_refused, named_cause}
use Rattle.gx_gist_tree.proofs.ChildFacts.{inserted_same, many_slots, pairs, pairs_are, pairs_some, pairs_valid, ready_at, ready_low, ready_same, ready_slots, refused_at, same_slots}
use Rattle.gx_gist_tree.proofs.PutFacts.{valid_keys}
use Rattle.gx_gist_tree.proofs.UpperPut.{child_ready, item_is, item_low, item_valid, page_apart, page_same, upper_inserted, upper_keys}
use Rattle.gx_gist_tree.proofs.insertion.+insert.Goals as goal

pub insert_on_child-returns-in_err-inner-clause-cause : goal.insert_on_child-returns-in_err-inner-clause-cause
insert_on_child-returns-in_err-inner-clause-cause g t c =
    let class = c.args.class.now in
    let old = c.args.pages.now in
    let p = err_from_is_err_and c.from_residual.result c.from_residual.ensures.1 in
    rw (p.1, p.2)
    (cause_weaker c.in_err-inner.field-0.0 (g.P.Pages.faults old) (g.P.Pages.faults old) (g.P.Pages.faults c.fetch_level.new.pages) (g.P.Pages.faults c.fetch_level.new.pages)
    _ _ _ _ _ _ (omega arith) (omega arith)
    (λ at expected found broken tells node free ready.
    not_refused g.C.GistClass class (g.P.Pages.map old) (g.P.Pages.count old) c.args.below node c.args.child ready.read.at
    (ready_low g.P.Pages g.C.GistClass class old c.args.below node (slots_of (g.C.GistClass.spelling class) c.args.below node) c.args.child free ready) ready.read.sound
    (λ some small slots is fits kind level. broken some small tells slots is fits kind level))
    (λ n no. absurd no) (λ no. absurd no) c.in_err-inner.ensures.cause)

pub insert_on_child-returns-in_err-change-clause-cause : goal.insert_on_child-returns-in_err-change-clause-cause
insert_on_child-returns-in_err-change-clause-cause g t c =
    let class = c.args.class.now in
    let old = c.args.pages.now in
    let mid = c.fetch_level.new.pages in
    let p = err_from_is_err_and c.from_residual-in_err-change.result c.from_residual-in_err-change.ensures.1 in
    rw (p.1, p.2)
    (cause_weaker c.in_err-change.field-0.0 (g.P.Pages.faults old) (g.P.Pages.faults mid) (g.P.Pages.faults c.insert_on_page.new.pages) (g.P.Pages.faults c.insert_on_page.new.pages)
    _ _ _ _ _ _ (let q = c.in_ok-inner.ensures.quiet.faults in omega (arith, q)) (omega arith)
    (λ at expected found broken tells node free ready.
    let s = slots_of (g.C.GistClass.spelling class) c.args.below node in
    let is = ready_slots g.P.Pages g.C.GistClass class old c.args.below node s c.args.child free ready c.in_ok-inner.inner (c.in_ok-inner.ensures.one tells) in
    broken tells node free (ready_same g.P.Pages g.C.GistClass class old c.args.below node s c.args.child free ready mid c.in_ok-inner.ensures.map c.in_ok-inner.ensures.count c.in_ok-inner.inner is))
    (λ n has. has) (λ has. has) c.in_err-change.ensures.cause)

pub insert_on_child-returns-clause-inserted : goal.insert_on_child-returns-clause-inserted
insert_on_child-returns-clause-inserted g t c = λ tells node free ready.
    let class = c.args.class.now in
    let old = c.args.pages.now in
    let mid = c.fetch_level.new.pages in
    let s = slots_of (g.C.GistClass.spelling class) c.args.below node in
    let is = ready_slots g.P.Pages g.C.GistClass class old c.args.below node s c.args.child free ready c.in_ok-inner.inner (c.in_ok-inner.ensures.one tells) in
    let made = c.in_ok-change.ensures.inserted tells node free
    (ready_same g.P.Pages g.C.GistClass class old c.args.below node s c.args.child free ready mid c.in_ok-inner.ensures.map c.in_ok-inner.ensures.count c.in_ok-inner.inner is) in (
      c.insert_on_page.new.slots,
      inserted_same g.P.Pages g.C.GistClass class old mid c.insert_on_page.new.pages c.args.row c.args.key.now c.args.below node free c.insert_on_page.new.slots c.in_ok-change.change
          c.in_ok-inner.ensures.map c.in_ok-inner.ensures.count made,
    )

pub insert_on_page-returns-in_err-leaf-clause-cause : goal.insert_on_page-returns-in_err-leaf-clause-cause
insert_on_page-returns-in_err-leaf-clause-cause g t c =
    let class = c.args.class.now in
    let old = c.args.pages.now in
    let p = err_from_is_err_and c.from_residual.result c.from_residual.ensures.1 in
    rw (p.1, p.2)
    (cause_weaker c.in_err-leaf.field-0.0 (g.P.Pages.faults old) (g.P.Pages.faults old) (g.P.Pages.faults c.insert_on_leaf.new.pages) (g.P.Pages.faults c.insert_on_leaf.new.pages)
    _ _ _ _ _ _ (omega arith) (omega arith)
    (λ at expected found broken tells.
    subst (λ (n : ℕ). (node : Node g.row.C-Key.Denot n) (free : List ℕ) → IsReady g.P.Pages g.C.GistClass class old n node c.args.slots.now c.args.page free → ⊥) (sym c.if-level-eq0.true) (broken tells))
    (λ n has. has) (λ has. has) c.in_err-leaf.ensures.cause)

pub insert_on_page-returns-then-level-eq0-clause-inserted : goal.insert_on_page-returns-then-level-eq0-clause-inserted
insert_on_page-returns-then-level-eq0-clause-inserted g t c = λ tells.
    let class = c.args.class.now in
    let old = c.args.pages.now in
    subst (λ (n : ℕ). (node : Node g.row.C-Key.Denot n) (free : List ℕ) → IsReady g.P.Pages g.C.GistClass class old n node c.args.slots.now c.args.page free
    → IsInserted g.P.Pages g.C.GistClass class old c.insert_on_leaf.new.pages c.args.row c.args.key.now n node free c.insert_on_leaf.new.slots c.in_ok-leaf.leaf)
    (sym c.if-level-eq0.true) (c.in_ok-leaf.ensures.inserted tells)

pub insert_on_page-returns-in_err-change-clause-cause : goal.insert_on_page-returns-in_err-change-clause-cause
insert_on_page-returns-in_err-change-clause-cause g t c =
    let class = c.args.class.now in
    let old = c.args.pages.now in
    let p = err_from_is_err_and c.from_residual-in_err-change.result c.from_residual-in_err-change.ensures.1 in
    rw (p.1, p.2)
    (cause_weaker c.in_err-change.field-0.0 (g.P.Pages.faults old) (g.P.Pages.faults old) (g.P.Pages.faults c.insert_below.new.pages) (g.P.Pages.faults c.insert_below.new.pages)
    _ _ _ _ _ _ (omega arith) (omega arith)
    (λ at expected found broken tells.
    subst (λ (n : ℕ). (node : Node g.row.C-Key.Denot n) (free : List ℕ) → IsReady g.P.Pages g.C.GistClass class old n node c.args.slots.now c.args.page free → ⊥) (sym (level_up c.args.level c.if-level-eq0.false)) (broken tells))
    (λ n has. has) (λ has. has) c.in_err-change.ensures.cause)

pub insert_on_page-returns-clause-inserted : goal.insert_on_page-returns-clause-inserted
insert_on_page-returns-clause-inserted g t c = λ tells.
    let class = c.args.class.now in
    let old = c.args.pages.now in
    subst (λ (n : ℕ). (node : Node g.row.C-Key.Denot n) (free : List ℕ) → IsReady g.P.Pages g.C.GistClass class old n node c.args.slots.now c.args.page free
    → IsInserted g.P.Pages g.C.GistClass class old c.insert_below.new.pages c.args.row c.args.key.now n node free c.insert_below.new.slots c.in_ok-change.change)
    (sym (level_up c.args.level c.if-level-eq0.false)) (c.in_ok-change.ensures.inserted tells)

pub insert_below-returns-in_err-slot-clause-cause : goal.insert_below-returns-in_err-slot-clause-cause
insert_below-returns-in_err-slot-clause-cause g t c =
    let class = c.args.class.now in
    let old = c.args.pages.now in
    let p = err_from_is_err_and c.from_residual.result c.from_residual.ensures.1 in
    rw (p.1, p.2)
    (named_cause c.in_err-slot.field-0.0 c.args.page _ _ _ _ _ c.in_err-slot.ensures.cause
    (λ broken tells node free ready.
    broken (pairs g.P.Pages g.C.GistClass class old c.args.below node c.args.slots.now c.args.page free ready) (pairs_some g.P.Pages g.C.GistClass class old c.args.below node c.args.slots.now c.args.page free ready)
    (pairs_valid g.P.Pages g.C.GistClass class old c.args.below node c.args.slots.now c.args.page free ready) (pairs_are g.P.Pages g.C.GistClass class old c.args.below node c.args.slots.now c.args.page free ready)))

pub insert_below-returns-in_err-child-clause-cause : goal.insert_below-returns-in_err-child-clause-cause
insert_below-returns-in_err-child-clause-cause g t c =
    let class = c.args.class.now in
    let old = c.args.pages.now in
    let p = err_from_is_err_and c.from_residual-in_err-child.result c.from_residual-in_err-child.ensures.1 in
    rw (p.1, p.2)
    (named_cause c.in_err-child.field-0.0 c.args.page _ _ _ _ _ c.in_err-child.ensures.cause
    (λ broken tells node free ready.
    let k = c.in_ok-slot.slot in
    let small = c.in_ok-slot.ensures.below in
    let a = at node.1 k (omega (arith, small, many_slots g.P.Pages g.C.GistClass class old c.args.below node c.args.slots.now c.args.page free ready)) in
    broken (page_of g.row.C-Key.Denot c.args.below a.item.1) a.item.0
    (item_valid g.P.Pages g.C.GistClass class old c.args.below node free c.args.slots.now c.args.page ready k a)
    (item_is g.P.Pages g.C.GistClass class old c.args.below node free c.args.slots.now c.args.page ready k a)))

pub insert_below-returns-in_err-change-clause-cause : goal.insert_below-returns-in_err-change-clause-cause
insert_below-returns-in_err-change-clause-cause g t c =
    let class = c.args.class.now in
    let old = c.args.pages.now in
    let p = err_from_is_err_and c.from_residual-in_err-change.result c.from_residual-in_err-change.ensures.1 in
    rw (p.1, p.2)
    (cause_weaker c.in_err-change.field-0.0 (g.P.Pages.faults old) (g.P.Pages.faults old) (g.P.Pages.faults c.insert_on_child.new.pages) (g.P.Pages.faults c.insert_on_child.new.pages)
    _ _ _ _ _ _ (omega arith) (omega arith)
    (λ at_page expected found broken tells node free ready.
    let k = c.in_ok-slot.slot in
    let small = c.in_ok-slot.ensures.below in
    let a = at node.1 k (omega (arith, small, many_slots g.P.Pages g.C.GistClass class old c.args.below node c.args.slots.now c.args.page free ready)) in
    let n = page_of g.row.C-Key.Denot c.args.below a.item.1 in
    let bound = g.met.P.Pages.bounded old in
    let low = item_low g.P.Pages g.C.GistClass class old c.args.below node free c.args.slots.now c.args.page ready k a in
    let goes = c.in_ok-child.ensures.some n a.item.0 (item_valid g.P.Pages g.C.GistClass class old c.args.below node free c.args.slots.now c.args.page ready k a) (omega (arith, bound, low))
    (item_is g.P.Pages g.C.GistClass class old c.args.below node free c.args.slots.now c.args.page ready k a) in
    broken tells a.item.1 free
    (ready_at g.P.Pages g.C.GistClass class old c.args.below a.item.1 (slots_of (g.C.GistClass.spelling class) c.args.below a.item.1) n c.in_ok-child.child free goes.0
    (child_ready g.P.Pages g.C.GistClass class old c.args.below node free c.args.slots.now c.args.page ready k a)))
    (λ n has. has) (λ has. has) c.in_err-change.ensures.cause)

pub insert_below-returns-in_err-arranged-clause-cause : goal.insert_below-returns-in_err-arranged-clause-cause
insert_below-returns-in_err-arranged-clause-cause g t c =
    let class = c.args.class.now in
    let old = c.args.pages.now in
    let mid = c.insert_on_child.new.pages in
    let key = c.args.key.now in
    let p = err_from_is_err_and c.from_residual-in_err-arranged.result c.from_residual-in_err-arranged.ensures.1 in
    rw (p.1, p.2)
    (named_cause c.in_err-arranged.field-0.0 c.args.page _ _ _ _ _ c.in_err-arranged.ensures.cause
    (λ broken tells node free ready.
    let k = c.in_ok-slot.slot in
    let small = c.in_ok-slot.ensures.below in
    let a = at node.1 k (omega (arith, small, many_slots g.P.Pages g.C.GistClass class old c.args.below node c.args.slots.now c.args.page free ready)) in
    let n = page_of g.row.C-Key.Denot c.args.below a.item.1 in
    let bound = g.met.P.Pages.bounded old in
    let low = item_low g.P.Pages g.C.GistClass class old c.args.below node free c.args.slots.now c.args.page ready k a in
    let valid = item_valid g.P.Pages g.C.GistClass class old c.args.below node free c.args.slots.now c.args.page ready k a in
    let goes = c.in_ok-child.ensures.some n a.item.0 valid (omega (arith, bound, low)) (item_is g.P.Pages g.C.GistClass class old c.args.below node free c.args.slots.now c.args.page ready k a) in
    let made = c.in_ok-change.ensures.inserted tells a.item.1 free
    (ready_at g.P.Pages g.C.GistClass class old c.args.below a.item.1 (slots_of (g.C.GistClass.spelling class) c.args.below a.item.1) n c.in_ok-child.child free goes.0
    (child_ready g.P.Pages g.C.GistClass class old c.args.below node free c.args.slots.now c.args.page ready k a)) in
    let one = λ (x y : g.row.C-Key.Denot) (vx : g.C.GistClass.valid_key class x) (vy : g.C.GistClass.valid_key class y) (same : g.C.GistClass.spelling class x ≡ g.C.GistClass.spelling class y). g.met.C.GistClass.one_spelling class x y c.requires.class vx vy same in
    let wide = g.met.C.GistClass.union_is_valid class a.item.0 key c.requires.class valid c.requires.key in
    upper_keys g.P.Pages g.C.GistClass class old c.args.below node free c.args.slots.now c.args.page ready k a one mid c.args.row key made.0 c.in_ok-change.change made.1 wide c.in_ok-change.ensures.valid
    (refused_at (g.C.GistClass.valid_key class) (g.C.GistClass.union_of class) (g.C.GistClass.spelling class) c.args.slots.now k c.in_ok-child.child n c.in_ok-child.at a.item.0 key c.in_ok-change.change goes.0 goes.1 broken)))

pub insert_below-returns-in_err-outcome-clause-cause : goal.insert_below-returns-in_err-outcome-clause-cause
insert_below-returns-in_err-outcome-clause-cause g t c =
    let class = c.args.class.now in
    let old = c.args.pages.now in
    let mid = c.insert_on_child.new.pages in
    let p = err_from_is_err_and c.from_residual-in_err-outcome.result c.from_residual-in_err-outcome.ensures.1 in
    rw (p.1, p.2)
    (cause_weaker c.in_err-outcome.field-0.0 (g.P.Pages.faults old) (g.P.Pages.faults mid) (g.P.Pages.faults c.put_arranged.new.pages) (g.P.Pages.faults c.put_arranged.new.pages)
    _ _ _ _ _ _ (let q = c.in_ok-change.ensures.quiet.faults in omega (arith, q)) (omega arith)
    (λ at_page expected found broken tells node free ready.
    let k = c.in_ok-slot.slot in
    let small = c.in_ok-slot.ensures.below in
    let a = at node.1 k (omega (arith, small, many_slots g.P.Pages g.C.GistClass class old c.args.below node c.args.slots.now c.args.page free ready)) in
    let n = page_of g.row.C-Key.Denot c.args.below a.item.1 in
    let bound = g.met.P.Pages.bounded old in
    let low = item_low g.P.Pages g.C.GistClass class old c.args.below node free c.args.slots.now c.args.page ready k a in
    let valid = item_valid g.P.Pages g.C.GistClass class old c.args.below node free c.args.slots.now c.args.page ready k a in
    let goes = c.in_ok-child.ensures.some n a.item.0 valid (omega (arith, bound, low)) (item_is g.P.Pages g.C.GistClass class old c.args.below node free c.args.slots.now c.args.page ready k a) in
    let made = c.in_ok-change.ensures.inserted tells a.item.1 free
    (ready_at g.P.Pages g.C.GistClass class old c.args.below a.item.1 (slots_of (g.C.GistClass.spelling class) c.args.below a.item.1) n c.in_ok-child.child free goes.0
    (child_ready g.P.Pages g.C.GistClass class old c.args.below node free c.args.slots.now c.args.page ready k a)) in
    broken tells made.1.rest made.1.pages.frees)
    (λ n has. has) (λ has. has) c.in_err-outcome.ensures.cause)

pub insert_below-returns-clause-valid : goal.insert_below-returns-clause-valid
insert_below-returns-clause-valid g t c = valid_keys (g.C.GistClass.valid_key c.args.class.now) c.in_ok-arranged.arranged c.in_ok-outcome.outcome c.in_ok-outcome.ensures.keys c.in_ok-arranged.ensures.valid

pub insert_below-returns-clause-inserted : goal.insert_below-returns-clause-inserted
insert_below-returns-clause-inserted g t c = λ tells node free ready.
    let class = c.args.class.now in
    let old = c.args.pages.now in
    let mid = c.insert_on_child.new.pages in
    let new = c.put_arranged.new.pages in
    let key = c.args.key.now in
    let k = c.in_ok-slot.slot in
    let small = c.in_ok-slot.ensures.below in
    let a = at node.1 k (omega (arith, small, many_slots g.P.Pages g.C.GistClass class old c.args.below node c.args.slots.now c.args.page free ready)) in
    let n = page_of g.row.C-Key.Denot c.args.below a.item.1 in
    let bound = g.met.P.Pages.bounded old in
    let low = item_low g.P.Pages g.C.GistClass class old c.args.below node free c.args.slots.now c.args.page ready k a in
    let valid = item_valid g.P.Pages g.C.GistClass class old c.args.below node free c.args.slots.now c.args.page ready k a in
    let goes = c.in_ok-child.ensures.some n a.item.0 valid (omega (arith, bound, low)) (item_is g.P.Pages g.C.GistClass class old c.args.below node free c.args.slots.now c.args.page ready k a) in
    let made = c.in_ok-change.ensures.inserted tells a.item.1 free
    (ready_at g.P.Pages g.C.GistClass class old c.args.below a.item.1 (slots_of (g.C.GistClass.spelling class) c.args.below a.item.1) n c.in_ok-child.child free goes.0
    (child_ready g.P.Pages g.C.GistClass class old c.args.below node free c.args.slots.now c.args.page ready k a)) in
    let one = λ (x y : g.row.C-Key.Denot) (vx : g.C.GistClass.valid_key class x) (vy : g.C.GistClass.valid_key class y) (same : g.C.GistClass.spelling class x ≡ g.C.GistClass.spelling class y). g.met.C.GistClass.one_spelling class x y c.requires.class vx vy same in
    let wide = g.met.C.GistClass.union_is_valid class a.item.0 key c.requires.class valid c.requires.key in
    let put = c.in_ok-outcome.ensures.put tells made.1.rest made.1.pages.frees
    (page_apart g.P.Pages g.C.GistClass class old c.args.below node free c.args.slots.now c.args.page ready k a one mid c.args.row key made.0 c.in_ok-change.change made.1 wide c.in_ok-change.ensures.valid)
    (λ none. page_same g.P.Pages g.C.GistClass class old c.args.below node free c.args.slots.now c.args.page ready k a one mid c.args.row key made.0 c.in_ok-change.change made.1 wide c.in_ok-change.ensures.valid
    ∙ ap (λ (s : Slots). Some (spelling s)) (sym (same_slots (g.C.GistClass.valid_key class) (g.C.GistClass.union_of class) (g.C.GistClass.spelling class) c.args.slots.now k c.in_ok-child.child c.in_ok-child.at
    (g.C.GistClass.union_of class c.in_ok-child.at key) c.in_ok-change.change c.replace_item.new.slots c.in_ok-arranged.arranged c.in_ok-arranged.ensures.replaced none))) in
    upper_inserted g.P.Pages g.C.GistClass class old c.args.below node free c.args.slots.now c.args.page ready k a one mid c.args.row key made.0 c.in_ok-change.change made.1 wide c.in_ok-change.ensures.valid
    new c.replace_item.new.slots c.in_ok-arranged.arranged c.in_ok-outcome.outcome c.in_ok-child.child c.in_ok-child.at goes.0 goes.1 c.in_ok-arranged.ensures.replaced put

pub insert_on_child-returns-in_err-change-clause-quiet : goal.insert_on_child-returns-in_err-change-clause-quiet
insert_on_child-returns-in_err-change-clause-quiet g t c = quiet_join g.P.Pages g.met.P.Pages.follows_on c.args.pages.now c.fetch_level.new.pages c.insert_on_page.new.pages c.fetch_level.ensures.quiet c.insert_on_page.ensures.quiet

pub insert_on_child-returns-clause-quiet : goal.insert_on_child-returns-clause-quiet
insert_on_child-returns-clause-quiet g t c = quiet_join g.P.Pages g.met.P.Pages.follows_on c.args.pages.now c.fetch_level.new.pages c.insert_on_page.new.pages c.fetch_level.ensures.quiet c.insert_on_page.ensures.quiet

pub insert_below-returns-in_err-outcome-clause-quiet : goal.insert_below-returns-in_err-outcome-clause-quiet
insert_below-returns-in_err-outcome-clause-quiet g t c = quiet_join g.P.Pages g.met.P.Pages.follows_on c.args.pages.now c.insert_on_child.new.pages c.put_arranged.new.pages c.insert_on_child.ensures.quiet c.put_arranged.ensures.quiet

pub insert_below-returns-clause-quiet : goal.insert_below-returns-clause-quiet
insert_below-returns-clause-quiet g t c = quiet_join g.P.Pages g.met.P.Pages.follows_on c.args.pages.now c.insert_on_child.new.pages c.put_arranged.new.pages c.insert_on_child.ensures.quiet c.put_arranged.ensures.quiet
