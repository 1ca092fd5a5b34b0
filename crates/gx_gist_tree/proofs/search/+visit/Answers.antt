use Rattle.std.proofs.Common.{◌≡◌, ◌≢◌, ◌<◌, ◌≤◌, ◌+◌, ◌++◌, List, ℕ, length, map, take, sym, ◌∙◌, ap, subst, arith}
use Rattle.std.specs.Prelude.{sum_by}
use Rattle.std.specs.List.{flat_map}
use Rattle.std.proofs.lemmas.Result.{err_from_is_err_and}
use Rattle.gx_pages.specs.Footprints.{IsOutside}
use Rattle.gx_pages.proofs.Footprints.{cause_weaker, quiet_join, all_left, all_right}
use Rattle.gx_slot.specs.Slots.{Slots}
use Rattle.gx_gist_tree.specs.Trees.{Node, found, page_of, pages_of, visits}
use Rattle.gx_gist_tree.specs.OnPages.{AreFresh, IsRead}
use Rattle.gx_gist_tree.proofs.Places.{flat_more, sum_more, sum_split, take_whole}
use Rattle.gx_gist_tree.proofs.VisitFacts.{found_in, visits_in, below_pages, place, is_below, many, still_fresh, level_up, read_same, read_well, not_refused, below_same, some_if, visits_some, rows_next, named_cause, sum_all, sum_next, visit_sum, visit_one, rows_where}
use Rattle.gx_gist_tree.proofs.search.+visit.Goals as goal

pub visit_items-returns-in_err-visit_slot-clause-visits : goal.visit_items-returns-in_err-visit_slot-clause-visits
visit_items-returns-in_err-visit_slot-clause-visits g t c = λ tells node read.
    let class = c.args.class.now in
    let old = c.args.pages.now in
    let small = c.loop-slot-test.true in
    let a = place g.C.GistClass class (g.P.Pages.map old) (g.P.Pages.count old) c.args.below node c.args.slots.now c.args.page read c.loop-slot.slot (omega (arith, small, c.count-slot-end.ensures)) in
    let f = visits_in (λ (k : g.row.C-Key.Denot). g.C.GistClass.inner_test class k c.args.query.now) c.args.below in
    sum_all (g.P.Pages.fetches c.visit_slot.new.pages) (g.P.Pages.fetches c.loop-slot.pages) (g.P.Pages.fetches old) (sum_by f (take c.loop-slot.slot node.1)) (f a.item) (sum_by f node.1)
    (c.visit_slot.ensures.visits tells a.item.0 a.item.1
    (below_same g.C.GistClass class (g.P.Pages.map old) (g.P.Pages.count old) (g.P.Pages.map c.loop-slot.pages) (g.P.Pages.count c.loop-slot.pages) c.loop-slot.invariant.map c.loop-slot.invariant.count c.args.below
    a.item.0 a.item.1 c.args.slots.now c.loop-slot.slot (is_below g.C.GistClass class (g.P.Pages.map old) (g.P.Pages.count old) c.args.below node c.args.slots.now c.args.page read c.loop-slot.slot a)))
    (c.loop-slot.invariant.visits tells node read) (sum_split f node.1 c.loop-slot.slot a)

pub visit_items-returns-in_err-visit_slot-clause-cause : goal.visit_items-returns-in_err-visit_slot-clause-cause
visit_items-returns-in_err-visit_slot-clause-cause g t c =
    let p = err_from_is_err_and c.from_residual.result c.from_residual.ensures.1 in
    rw (p.1, p.2)
    (cause_weaker c.in_err-visit_slot.field-0.0 (g.P.Pages.faults c.args.pages.now) (g.P.Pages.faults c.loop-slot.pages) (g.P.Pages.faults c.visit_slot.new.pages) (g.P.Pages.faults c.visit_slot.new.pages)
    _ _ _ _ _ _ (let q = c.loop-slot.invariant.quiet.faults in omega arith) (omega arith)
    (λ at expected found broken tells node read fresh.
    let class = c.args.class.now in
    let old = c.args.pages.now in
    let small = c.loop-slot-test.true in
    let a = place g.C.GistClass class (g.P.Pages.map old) (g.P.Pages.count old) c.args.below node c.args.slots.now c.args.page read c.loop-slot.slot (omega (arith, small, c.count-slot-end.ensures)) in
    broken tells a.item.0 a.item.1
    (below_same g.C.GistClass class (g.P.Pages.map old) (g.P.Pages.count old) (g.P.Pages.map c.loop-slot.pages) (g.P.Pages.count c.loop-slot.pages) c.loop-slot.invariant.map c.loop-slot.invariant.count c.args.below
    a.item.0 a.item.1 c.args.slots.now c.loop-slot.slot (is_below g.C.GistClass class (g.P.Pages.map old) (g.P.Pages.count old) c.args.below node c.args.slots.now c.args.page read c.loop-slot.slot a))
    (still_fresh g.C.GistClass class (g.P.Pages.map old) (g.P.Pages.count old) c.args.below node c.args.slots.now c.args.page read c.loop-slot.slot a c.args.so_far.now.seen c.loop-slot.so_far.seen fresh
    (c.loop-slot.invariant.seen tells node read)))
    (λ n no. absurd no) (λ no. no) c.in_err-visit_slot.ensures.cause)

pub visit_items-loop-slot-preserved : goal.visit_items-loop-slot-preserved
visit_items-loop-slot-preserved g t c =
    let class = c.args.class.now in
    let old = c.args.pages.now in
    let slot = c.loop-slot.slot in
    let small : slot < length c.args.slots.now.items = (let test = c.loop-slot-test.true in omega (arith, test, c.count-slot-end.ensures)) in
    let leaf = λ (k : g.row.C-Key.Denot). g.C.GistClass.leaf_test class k c.args.query.now in
    let inner = λ (k : g.row.C-Key.Denot). g.C.GistClass.inner_test class k c.args.query.now in
    record {
      rows = λ tells node read.
          let a = place g.C.GistClass class (g.P.Pages.map old) (g.P.Pages.count old) c.args.below node c.args.slots.now c.args.page read slot small in
          rows_next (found_in leaf inner c.args.below) node.1 slot a c.args.so_far.now.rows.items c.loop-slot.so_far.rows.items c.visit_slot.new.so_far.rows.items
          (c.in_ok-visit_slot.ensures.found tells a.item.0 a.item.1
          (below_same g.C.GistClass class (g.P.Pages.map old) (g.P.Pages.count old) (g.P.Pages.map c.loop-slot.pages) (g.P.Pages.count c.loop-slot.pages) c.loop-slot.invariant.map c.loop-slot.invariant.count c.args.below
          a.item.0 a.item.1 c.args.slots.now slot (is_below g.C.GistClass class (g.P.Pages.map old) (g.P.Pages.count old) c.args.below node c.args.slots.now c.args.page read slot a)))
          (c.loop-slot.invariant.rows tells node read);
      seen = λ tells node read n out differ outs.
          let a = place g.C.GistClass class (g.P.Pages.map old) (g.P.Pages.count old) c.args.below node c.args.slots.now c.args.page read slot small in
          let done = flat_map (below_pages g.row.C-Key.Denot c.args.below) (take slot node.1) in
          let here = below_pages g.row.C-Key.Denot c.args.below a.item in
          let parts : IsOutside n (done ++ here) = subst (λ (l : List ℕ). IsOutside n l) (flat_more (below_pages g.row.C-Key.Denot c.args.below) node.1 slot a) outs in
          c.in_ok-visit_slot.ensures.seen tells a.item.0 a.item.1
          (below_same g.C.GistClass class (g.P.Pages.map old) (g.P.Pages.count old) (g.P.Pages.map c.loop-slot.pages) (g.P.Pages.count c.loop-slot.pages) c.loop-slot.invariant.map c.loop-slot.invariant.count c.args.below
          a.item.0 a.item.1 c.args.slots.now slot (is_below g.C.GistClass class (g.P.Pages.map old) (g.P.Pages.count old) c.args.below node c.args.slots.now c.args.page read slot a))
          n (c.loop-slot.invariant.seen tells node read n out differ (all_left (λ (m : ℕ). n ≢ m) done here parts)) (all_right (λ (m : ℕ). n ≢ m) done here parts);
      visits = λ tells node read.
          let a = place g.C.GistClass class (g.P.Pages.map old) (g.P.Pages.count old) c.args.below node c.args.slots.now c.args.page read slot small in
          let f = visits_in inner c.args.below in
          sum_next (g.P.Pages.fetches c.visit_slot.new.pages) (g.P.Pages.fetches c.loop-slot.pages) (g.P.Pages.fetches old) (sum_by f (take slot node.1)) (f a.item) (sum_by f (take (slot + 1) node.1))
          (c.in_ok-visit_slot.ensures.visits tells a.item.0 a.item.1
          (below_same g.C.GistClass class (g.P.Pages.map old) (g.P.Pages.count old) (g.P.Pages.map c.loop-slot.pages) (g.P.Pages.count c.loop-slot.pages) c.loop-slot.invariant.map c.loop-slot.invariant.count c.args.below
          a.item.0 a.item.1 c.args.slots.now slot (is_below g.C.GistClass class (g.P.Pages.map old) (g.P.Pages.count old) c.args.below node c.args.slots.now c.args.page read slot a)))
          (c.loop-slot.invariant.visits tells node read) (sum_more f node.1 slot a);
      map = c.in_ok-visit_slot.ensures.map ∙ c.loop-slot.invariant.map;
      count = c.in_ok-visit_slot.ensures.count ∙ c.loop-slot.invariant.count;
      other = c.in_ok-visit_slot.ensures.other tt ∙ c.loop-slot.invariant.other;
      quiet = quiet_join g.P.Pages g.met.P.Pages.follows_on old c.loop-slot.pages c.visit_slot.new.pages c.loop-slot.invariant.quiet c.in_ok-visit_slot.ensures.quiet;
    }

pub visit_items-returns-clause-seen : goal.visit_items-returns-clause-seen
visit_items-returns-clause-seen g t c = λ tells node read n out outs.
    let done = c.loop-slot-test.false in
    let all = take_whole node.1 c.loop-slot.slot
    (omega (arith, done, c.count-slot-end.ensures, many g.C.GistClass c.args.class.now (g.P.Pages.map c.args.pages.now) (g.P.Pages.count c.args.pages.now) c.args.below node c.args.slots.now c.args.page read)) in
    c.loop-slot.invariant.seen tells node read n out (λ same. outs.0 (same ∙ read.at))
    (subst (λ (l : List (g.row.C-Key.Denot × Node g.row.C-Key.Denot c.args.below)). IsOutside n (flat_map (below_pages g.row.C-Key.Denot c.args.below) l)) (sym all) outs.1)

pub visit_page-returns-then-level-eq0-clause-found : goal.visit_page-returns-then-level-eq0-clause-found
visit_page-returns-then-level-eq0-clause-found g t c = λ tells.
    let class = c.args.class.now in
    let old = c.args.pages.now in
    let leaf = λ (k : g.row.C-Key.Denot). g.C.GistClass.leaf_test class k c.args.query.now in
    let inner = λ (k : g.row.C-Key.Denot). g.C.GistClass.inner_test class k c.args.query.now in
    subst (λ (n : ℕ). (node : Node g.row.C-Key.Denot n) → IsRead g.C.GistClass class (g.P.Pages.map old) (g.P.Pages.count old) n node c.args.slots.now c.args.page
    → c.push_rows.new.rows.items ≡ c.args.so_far.now.rows.items ++ map (λ e. e.0) (found leaf inner n node))
    (sym c.if-level-eq0.true)
    (λ node read. c.in_ok-push_rows.ensures.found node.1 read.sound.1 (ap (λ (s : Slots). s.items) read.is))

pub visit_page-returns-in_err-push_rows-clause-cause : goal.visit_page-returns-in_err-push_rows-clause-cause
visit_page-returns-in_err-push_rows-clause-cause g t c =
    let class = c.args.class.now in
    let old = c.args.pages.now in
    let p = err_from_is_err_and c.from_residual.result c.from_residual.ensures.1 in
    rw (p.1, p.2)
    (named_cause c.in_err-push_rows.field-0.0 c.args.page _ _ _ _ _ c.in_err-push_rows.ensures.cause
    (λ broken tells.
    subst (λ (n : ℕ). (node : Node g.row.C-Key.Denot n) → IsRead g.C.GistClass class (g.P.Pages.map old) (g.P.Pages.count old) n node c.args.slots.now c.args.page
    → AreFresh c.args.so_far.now.seen (pages_of g.row.C-Key.Denot n node) → ⊥)
    (sym c.if-level-eq0.true)
    (λ node read fresh. broken node.1 read.sound.1 (ap (λ (s : Slots). s.items) read.is))))

pub visit_page-returns-in_err-visit_items-clause-visits : goal.visit_page-returns-in_err-visit_items-clause-visits
visit_page-returns-in_err-visit_items-clause-visits g t c = λ tells.
    subst (λ (n : ℕ). (node : Node g.row.C-Key.Denot n) → IsRead g.C.GistClass c.args.class.now (g.P.Pages.map c.args.pages.now) (g.P.Pages.count c.args.pages.now) n node c.args.slots.now c.args.page
    → g.P.Pages.fetches c.visit_items.new.pages + 1 ≤ g.P.Pages.fetches c.args.pages.now + visits (λ k. g.C.GistClass.inner_test c.args.class.now k c.args.query.now) n node)
    (sym (level_up c.args.level c.if-level-eq0.false)) (c.visit_items.ensures.visits tells)

pub visit_page-returns-clause-found : goal.visit_page-returns-clause-found
visit_page-returns-clause-found g t c = λ tells.
    subst (λ (n : ℕ). (node : Node g.row.C-Key.Denot n) → IsRead g.C.GistClass c.args.class.now (g.P.Pages.map c.args.pages.now) (g.P.Pages.count c.args.pages.now) n node c.args.slots.now c.args.page
    → c.visit_items.new.so_far.rows.items ≡ c.args.so_far.now.rows.items ++ map (λ e. e.0) (found (λ k. g.C.GistClass.leaf_test c.args.class.now k c.args.query.now) (λ k. g.C.GistClass.inner_test c.args.class.now k c.args.query.now) n node))
    (sym (level_up c.args.level c.if-level-eq0.false)) (c.in_ok-visit_items.ensures.found tells)

pub visit_page-returns-clause-seen : goal.visit_page-returns-clause-seen
visit_page-returns-clause-seen g t c = λ tells.
    subst (λ (n : ℕ). (node : Node g.row.C-Key.Denot n) → IsRead g.C.GistClass c.args.class.now (g.P.Pages.map c.args.pages.now) (g.P.Pages.count c.args.pages.now) n node c.args.slots.now c.args.page
    → (m : ℕ) → IsOutside m c.args.so_far.now.seen → IsOutside m (pages_of g.row.C-Key.Denot n node) → IsOutside m c.visit_items.new.so_far.seen)
    (sym (level_up c.args.level c.if-level-eq0.false)) (c.in_ok-visit_items.ensures.seen tells)

pub visit_page-returns-clause-visits : goal.visit_page-returns-clause-visits
visit_page-returns-clause-visits g t c = λ tells.
    subst (λ (n : ℕ). (node : Node g.row.C-Key.Denot n) → IsRead g.C.GistClass c.args.class.now (g.P.Pages.map c.args.pages.now) (g.P.Pages.count c.args.pages.now) n node c.args.slots.now c.args.page
    → g.P.Pages.fetches c.visit_items.new.pages + 1 ≤ g.P.Pages.fetches c.args.pages.now + visits (λ k. g.C.GistClass.inner_test c.args.class.now k c.args.query.now) n node)
    (sym (level_up c.args.level c.if-level-eq0.false)) (c.visit_items.ensures.visits tells)

pub visit_page-returns-in_err-visit_items-clause-cause : goal.visit_page-returns-in_err-visit_items-clause-cause
visit_page-returns-in_err-visit_items-clause-cause g t c =
    let p = err_from_is_err_and c.from_residual-in_err-visit_items.result c.from_residual-in_err-visit_items.ensures.1 in
    rw (p.1, p.2)
    (cause_weaker c.in_err-visit_items.field-0.0 (g.P.Pages.faults c.args.pages.now) (g.P.Pages.faults c.args.pages.now) (g.P.Pages.faults c.visit_items.new.pages) (g.P.Pages.faults c.visit_items.new.pages)
    _ _ _ _ _ _ (omega arith) (omega arith)
    (λ at expected found broken tells.
    subst (λ (n : ℕ). (node : Node g.row.C-Key.Denot n) → IsRead g.C.GistClass c.args.class.now (g.P.Pages.map c.args.pages.now) (g.P.Pages.count c.args.pages.now) n node c.args.slots.now c.args.page
    → AreFresh c.args.so_far.now.seen (pages_of g.row.C-Key.Denot n node) → ⊥)
    (sym (level_up c.args.level c.if-level-eq0.false)) (broken tells))
    (λ n no. absurd no) (λ no. no) c.in_err-visit_items.ensures.cause)

pub visit_slot-returns-in_err-inner-clause-cause : goal.visit_slot-returns-in_err-inner-clause-cause
visit_slot-returns-in_err-inner-clause-cause g t c =
    let class = c.args.class.now in
    let old = c.args.pages.now in
    let p = err_from_is_err_and c.from_residual-in_err-inner.result c.from_residual-in_err-inner.ensures.1 in
    rw (p.1, p.2)
    (cause_weaker c.in_err-inner.field-0.0 (g.P.Pages.faults old) (g.P.Pages.faults old) (g.P.Pages.faults c.fetch_level.new.pages) (g.P.Pages.faults c.fetch_level.new.pages)
    _ _ _ _ _ _ (omega arith) (omega arith)
    (λ at expected found broken tells key child below fresh.
    let bound = g.met.P.Pages.bounded old in
    let low = below.below in
    let goes = some_if (g.C.GistClass.inner_test class key c.args.query.now) (page_of g.row.C-Key.Denot c.args.below child) c.in-Some.child
    (sym c.in-Some.is ∙ c.in_ok-next.ensures.some (page_of g.row.C-Key.Denot c.args.below child) key below.valid (omega (arith, bound, low)) below.is) in
    not_refused g.C.GistClass class (g.P.Pages.map old) (g.P.Pages.count old) c.args.below child c.in-Some.child goes.1 below.below below.sound
    (λ some small slots is fits kind level. broken some small tells slots is fits kind level))
    (λ n no. absurd no) (λ no. absurd no) c.in_err-inner.ensures.cause)

pub visit_slot-returns-in_err-inner-clause-visits : goal.visit_slot-returns-in_err-inner-clause-visits
visit_slot-returns-in_err-inner-clause-visits g t c = λ tells key child below.
    let class = c.args.class.now in
    let old = c.args.pages.now in
    let bound = g.met.P.Pages.bounded old in
    let low = below.below in
    let goes = some_if (g.C.GistClass.inner_test class key c.args.query.now) (page_of g.row.C-Key.Denot c.args.below child) c.in-Some.child
    (sym c.in-Some.is ∙ c.in_ok-next.ensures.some (page_of g.row.C-Key.Denot c.args.below child) key below.valid (omega (arith, bound, low)) below.is) in
    visit_one (g.C.GistClass.inner_test class key c.args.query.now) (g.P.Pages.fetches c.fetch_level.new.pages) (g.P.Pages.fetches old) (visits (λ (k : g.row.C-Key.Denot). g.C.GistClass.inner_test class k c.args.query.now) c.args.below child) goes.0
    c.fetch_level.ensures.fetches (visits_some (λ (k : g.row.C-Key.Denot). g.C.GistClass.inner_test class k c.args.query.now) c.args.below child)

pub visit_slot-returns-in_err-visit_page-clause-visits : goal.visit_slot-returns-in_err-visit_page-clause-visits
visit_slot-returns-in_err-visit_page-clause-visits g t c = λ tells key child below.
    let class = c.args.class.now in
    let old = c.args.pages.now in
    let bound = g.met.P.Pages.bounded old in
    let low = below.below in
    let goes = some_if (g.C.GistClass.inner_test class key c.args.query.now) (page_of g.row.C-Key.Denot c.args.below child) c.in-Some.child
    (sym c.in-Some.is ∙ c.in_ok-next.ensures.some (page_of g.row.C-Key.Denot c.args.below child) key below.valid (omega (arith, bound, low)) below.is) in
    let read = read_same g.C.GistClass class (g.P.Pages.map old) (g.P.Pages.count old) (g.P.Pages.map c.fetch_level.new.pages) (g.P.Pages.count c.fetch_level.new.pages) c.in_ok-inner.ensures.map c.in_ok-inner.ensures.count
    c.args.below child c.in_ok-inner.inner c.in-Some.child
    (read_well g.C.GistClass class (g.P.Pages.map old) (g.P.Pages.count old) c.args.below child c.in-Some.child c.in_ok-inner.inner goes.1 below.sound (c.in_ok-inner.ensures.one tells)) in
    visit_sum (g.C.GistClass.inner_test class key c.args.query.now) (g.P.Pages.fetches c.visit_page.new.pages) (g.P.Pages.fetches c.fetch_level.new.pages) (g.P.Pages.fetches old) (visits (λ (k : g.row.C-Key.Denot). g.C.GistClass.inner_test class k c.args.query.now) c.args.below child) goes.0
    (c.visit_page.ensures.visits tells child read) c.in_ok-inner.ensures.fetches

pub visit_slot-returns-in_err-visit_page-clause-cause : goal.visit_slot-returns-in_err-visit_page-clause-cause
visit_slot-returns-in_err-visit_page-clause-cause g t c =
    let class = c.args.class.now in
    let old = c.args.pages.now in
    let p = err_from_is_err_and c.from_residual-in_err-visit_page.result c.from_residual-in_err-visit_page.ensures.1 in
    rw (p.1, p.2)
    (cause_weaker c.in_err-visit_page.field-0.0 (g.P.Pages.faults old) (g.P.Pages.faults c.fetch_level.new.pages) (g.P.Pages.faults c.visit_page.new.pages) (g.P.Pages.faults c.visit_page.new.pages)
    _ _ _ _ _ _ (let q = c.in_ok-inner.ensures.quiet.faults in omega (arith, q)) (omega arith)
    (λ at expected found broken tells key child below fresh.
    let bound = g.met.P.Pages.bounded old in
    let low = below.below in
    let goes = some_if (g.C.GistClass.inner_test class key c.args.query.now) (page_of g.row.C-Key.Denot c.args.below child) c.in-Some.child
    (sym c.in-Some.is ∙ c.in_ok-next.ensures.some (page_of g.row.C-Key.Denot c.args.below child) key below.valid (omega (arith, bound, low)) below.is) in
    let read = read_same g.C.GistClass class (g.P.Pages.map old) (g.P.Pages.count old) (g.P.Pages.map c.fetch_level.new.pages) (g.P.Pages.count c.fetch_level.new.pages) c.in_ok-inner.ensures.map c.in_ok-inner.ensures.count
    c.args.below child c.in_ok-inner.inner c.in-Some.child
    (read_well g.C.GistClass class (g.P.Pages.map old) (g.P.Pages.count old) c.args.below child c.in-Some.child c.in_ok-inner.inner goes.1 below.sound (c.in_ok-inner.ensures.one tells)) in
    broken tells child read fresh)
    (λ n no. absurd no) (λ no. no) c.in_err-visit_page.ensures.cause)

pub visit_slot-returns-clause-found : goal.visit_slot-returns-clause-found
visit_slot-returns-clause-found g t c = λ tells key child below.
    let class = c.args.class.now in
    let old = c.args.pages.now in
    let bound = g.met.P.Pages.bounded old in
    let low = below.below in
    let goes = some_if (g.C.GistClass.inner_test class key c.args.query.now) (page_of g.row.C-Key.Denot c.args.below child) c.in-Some.child
    (sym c.in-Some.is ∙ c.in_ok-next.ensures.some (page_of g.row.C-Key.Denot c.args.below child) key below.valid (omega (arith, bound, low)) below.is) in
    let read = read_same g.C.GistClass class (g.P.Pages.map old) (g.P.Pages.count old) (g.P.Pages.map c.fetch_level.new.pages) (g.P.Pages.count c.fetch_level.new.pages) c.in_ok-inner.ensures.map c.in_ok-inner.ensures.count
    c.args.below child c.in_ok-inner.inner c.in-Some.child
    (read_well g.C.GistClass class (g.P.Pages.map old) (g.P.Pages.count old) c.args.below child c.in-Some.child c.in_ok-inner.inner goes.1 below.sound (c.in_ok-inner.ensures.one tells)) in
    rows_where (g.C.GistClass.inner_test class key c.args.query.now) (found (λ (k : g.row.C-Key.Denot). g.C.GistClass.leaf_test class k c.args.query.now) (λ (k : g.row.C-Key.Denot). g.C.GistClass.inner_test class k c.args.query.now) c.args.below child) c.args.so_far.now.rows.items
    c.visit_page.new.so_far.rows.items goes.0 (c.in_ok-visit_page.ensures.found tells child read)

pub visit_slot-returns-clause-seen : goal.visit_slot-returns-clause-seen
visit_slot-returns-clause-seen g t c = λ tells key child below.
    let class = c.args.class.now in
    let old = c.args.pages.now in
    let bound = g.met.P.Pages.bounded old in
    let low = below.below in
    let goes = some_if (g.C.GistClass.inner_test class key c.args.query.now) (page_of g.row.C-Key.Denot c.args.below child) c.in-Some.child
    (sym c.in-Some.is ∙ c.in_ok-next.ensures.some (page_of g.row.C-Key.Denot c.args.below child) key below.valid (omega (arith, bound, low)) below.is) in
    let read = read_same g.C.GistClass class (g.P.Pages.map old) (g.P.Pages.count old) (g.P.Pages.map c.fetch_level.new.pages) (g.P.Pages.count c.fetch_level.new.pages) c.in_ok-inner.ensures.map c.in_ok-inner.ensures.count
    c.args.below child c.in_ok-inner.inner c.in-Some.child
    (read_well g.C.GistClass class (g.P.Pages.map old) (g.P.Pages.count old) c.args.below child c.in-Some.child c.in_ok-inner.inner goes.1 below.sound (c.in_ok-inner.ensures.one tells)) in
    c.in_ok-visit_page.ensures.seen tells child read

pub visit_slot-returns-clause-visits : goal.visit_slot-returns-clause-visits
visit_slot-returns-clause-visits g t c = λ tells key child below.
    let class = c.args.class.now in
    let old = c.args.pages.now in
    let bound = g.met.P.Pages.bounded old in
    let low = below.below in
    let goes = some_if (g.C.GistClass.inner_test class key c.args.query.now) (page_of g.row.C-Key.Denot c.args.below child) c.in-Some.child
    (sym c.in-Some.is ∙ c.in_ok-next.ensures.some (page_of g.row.C-Key.Denot c.args.below child) key below.valid (omega (arith, bound, low)) below.is) in
    let read = read_same g.C.GistClass class (g.P.Pages.map old) (g.P.Pages.count old) (g.P.Pages.map c.fetch_level.new.pages) (g.P.Pages.count c.fetch_level.new.pages) c.in_ok-inner.ensures.map c.in_ok-inner.ensures.count
    c.args.below child c.in_ok-inner.inner c.in-Some.child
    (read_well g.C.GistClass class (g.P.Pages.map old) (g.P.Pages.count old) c.args.below child c.in-Some.child c.in_ok-inner.inner goes.1 below.sound (c.in_ok-inner.ensures.one tells)) in
    visit_sum (g.C.GistClass.inner_test class key c.args.query.now) (g.P.Pages.fetches c.visit_page.new.pages) (g.P.Pages.fetches c.fetch_level.new.pages) (g.P.Pages.fetches old) (visits (λ (k : g.row.C-Key.Denot). g.C.GistClass.inner_test class k c.args.query.now) c.args.below child) goes.0
    (c.visit_page.ensures.visits tells child read) c.in_ok-inner.ensures.fetches
