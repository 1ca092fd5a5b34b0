use Rattle.std.proofs.Common.{◌≢◌, ◌++◌, inr, List, ℕ, take, refl, sym, ◌∙◌, subst, arith}
use Rattle.std.specs.List.{AllByRecursion, flat_map}
use Rattle.std.proofs.lemmas.Result.{err_from_is_err_and}
use Rattle.gx_words.specs.PageMap.{PageMap}
use Rattle.gx_pages.specs.Frees.{IsApart}
use Rattle.gx_pages.specs.Footprints.{ChangesOnly, IsOutside}
use Rattle.gx_pages.proofs.Footprints.{cause_weaker, quiet_join, all_left, all_right}
use Rattle.gx_gist_tree.specs.Trees.{Entry, Node, page_of, pages_of, stripped}
use Rattle.gx_gist_tree.specs.OnPages.{AreFresh, IsRead, Stands, is_in}
use Rattle.gx_gist_tree.proofs.Places.{flat_more, take_whole}
use Rattle.gx_gist_tree.proofs.VisitFacts.{below_pages, place, many, still_fresh, level_up, read_same, read_well, not_refused, below_same, named_cause}
use Rattle.gx_gist_tree.proofs.StripWalk.{apart_here, item_now, only_more, done_more, all_done}
use Rattle.gx_gist_tree.proofs.removal.+strip.Goals as goal

pub strip_page-returns-then-level-eq0-clause-stripped : goal.strip_page-returns-then-level-eq0-clause-stripped
strip_page-returns-then-level-eq0-clause-stripped g t c = λ tells.
    subst (λ (n : ℕ). (node : Node g.row.C-Key.Denot n) → IsRead g.C.GistClass c.args.class.now (g.P.Pages.map c.args.pages.now) (g.P.Pages.count c.args.pages.now) n node c.args.slots.now c.args.page → IsApart (pages_of g.row.C-Key.Denot n node) → Stands (g.P.Pages.map c.strip_leaf.new.pages) (g.C.GistClass.spelling c.args.class.now) n (stripped (λ (e : Entry g.row.C-Key.Denot). is_in c.args.rows.now e.0.number) n node) × ChangesOnly (g.P.Pages.map c.args.pages.now) (g.P.Pages.map c.strip_leaf.new.pages) (pages_of g.row.C-Key.Denot n node))
    (sym c.if-level-eq0.true) (λ node read apart. c.in_ok-strip_leaf.ensures.stripped tells node read)

pub strip_page-returns-in_err-strip_leaf-clause-cause : goal.strip_page-returns-in_err-strip_leaf-clause-cause
strip_page-returns-in_err-strip_leaf-clause-cause g t c =
    let p = err_from_is_err_and c.from_residual.result c.from_residual.ensures.1 in
    rw (p.1, p.2)
    (cause_weaker c.in_err-strip_leaf.field-0.0 (g.P.Pages.faults c.args.pages.now) (g.P.Pages.faults c.args.pages.now) (g.P.Pages.faults c.strip_leaf.new.pages) (g.P.Pages.faults c.strip_leaf.new.pages)
    _ _ _ _ _ _ (omega arith) (omega arith)
    (λ at expected found broken tells.
    subst (λ (n : ℕ). (node : Node g.row.C-Key.Denot n) → IsRead g.C.GistClass c.args.class.now (g.P.Pages.map c.args.pages.now) (g.P.Pages.count c.args.pages.now) n node c.args.slots.now c.args.page → AreFresh c.args.seen.now (pages_of g.row.C-Key.Denot n node) → ⊥)
    (sym c.if-level-eq0.true) (λ node read fresh. broken tells node read))
    (λ n no. absurd no) (λ no. no) c.in_err-strip_leaf.ensures.cause)

pub strip_page-returns-in_err-strip_items-clause-cause : goal.strip_page-returns-in_err-strip_items-clause-cause
strip_page-returns-in_err-strip_items-clause-cause g t c =
    let p = err_from_is_err_and c.from_residual-in_err-strip_items.result c.from_residual-in_err-strip_items.ensures.1 in
    rw (p.1, p.2)
    (cause_weaker c.in_err-strip_items.field-0.0 (g.P.Pages.faults c.args.pages.now) (g.P.Pages.faults c.args.pages.now) (g.P.Pages.faults c.strip_items.new.pages) (g.P.Pages.faults c.strip_items.new.pages)
    _ _ _ _ _ _ (omega arith) (omega arith)
    (λ at expected found broken tells.
    subst (λ (n : ℕ). (node : Node g.row.C-Key.Denot n) → IsRead g.C.GistClass c.args.class.now (g.P.Pages.map c.args.pages.now) (g.P.Pages.count c.args.pages.now) n node c.args.slots.now c.args.page → AreFresh c.args.seen.now (pages_of g.row.C-Key.Denot n node) → ⊥)
    (sym (level_up c.args.level c.if-level-eq0.false)) (broken tells))
    (λ n no. absurd no) (λ no. no) c.in_err-strip_items.ensures.cause)

pub strip_page-returns-clause-stripped : goal.strip_page-returns-clause-stripped
strip_page-returns-clause-stripped g t c = λ tells.
    subst (λ (n : ℕ). (node : Node g.row.C-Key.Denot n) → IsRead g.C.GistClass c.args.class.now (g.P.Pages.map c.args.pages.now) (g.P.Pages.count c.args.pages.now) n node c.args.slots.now c.args.page → IsApart (pages_of g.row.C-Key.Denot n node) → Stands (g.P.Pages.map c.strip_items.new.pages) (g.C.GistClass.spelling c.args.class.now) n (stripped (λ (e : Entry g.row.C-Key.Denot). is_in c.args.rows.now e.0.number) n node) × ChangesOnly (g.P.Pages.map c.args.pages.now) (g.P.Pages.map c.strip_items.new.pages) (pages_of g.row.C-Key.Denot n node))
    (sym (level_up c.args.level c.if-level-eq0.false)) (c.in_ok-strip_items.ensures.stripped tells)

pub strip_page-returns-clause-seen : goal.strip_page-returns-clause-seen
strip_page-returns-clause-seen g t c = λ tells.
    subst (λ (n : ℕ). (node : Node g.row.C-Key.Denot n) → IsRead g.C.GistClass c.args.class.now (g.P.Pages.map c.args.pages.now) (g.P.Pages.count c.args.pages.now) n node c.args.slots.now c.args.page → IsApart (pages_of g.row.C-Key.Denot n node)
    → (m : ℕ) → IsOutside m c.args.seen.now → IsOutside m (pages_of g.row.C-Key.Denot n node) → IsOutside m c.strip_items.new.seen)
    (sym (level_up c.args.level c.if-level-eq0.false)) (c.in_ok-strip_items.ensures.seen tells)

pub strip_items-returns-in_err-strip_slot-clause-cause : goal.strip_items-returns-in_err-strip_slot-clause-cause
strip_items-returns-in_err-strip_slot-clause-cause g t c =
    let p = err_from_is_err_and c.from_residual.result c.from_residual.ensures.1 in
    rw (p.1, p.2)
    (cause_weaker c.in_err-strip_slot.field-0.0 (g.P.Pages.faults c.args.pages.now) (g.P.Pages.faults c.loop-slot.pages) (g.P.Pages.faults c.strip_slot.new.pages) (g.P.Pages.faults c.strip_slot.new.pages)
    _ _ _ _ _ _ (let q = c.loop-slot.invariant.quiet.faults in omega arith) (omega arith)
    (λ at expected found broken tells node read fresh.
    let class = c.args.class.now in
    let old = c.args.pages.now in
    let slot = c.loop-slot.slot in
    let test = c.loop-slot-test.true in
    let a = place g.C.GistClass class (g.P.Pages.map old) (g.P.Pages.count old) c.args.below node c.args.slots.now c.args.page read slot (omega (arith, test, c.count-slot-end.ensures)) in
    let was = c.loop-slot.invariant.done tells node read fresh.1 in
    let is = below_same g.C.GistClass class (g.P.Pages.map c.loop-slot.pages) (g.P.Pages.count old) (g.P.Pages.map c.loop-slot.pages) (g.P.Pages.count c.loop-slot.pages) refl c.loop-slot.invariant.count c.args.below
    a.item.0 a.item.1 c.args.slots.now slot (item_now g.C.GistClass class (g.P.Pages.map old) (g.P.Pages.count old) c.args.below node c.args.slots.now c.args.page read fresh.1 slot a (g.P.Pages.map c.loop-slot.pages) was.1) in
    broken tells a.item.0 a.item.1 is
    (still_fresh g.C.GistClass class (g.P.Pages.map old) (g.P.Pages.count old) c.args.below node c.args.slots.now c.args.page read slot a c.args.seen.now c.loop-slot.seen fresh (c.loop-slot.invariant.seen tells node read fresh.1)))
    (λ n no. absurd no) (λ no. no) c.in_err-strip_slot.ensures.cause)

pub strip_items-loop-slot-preserved : goal.strip_items-loop-slot-preserved
strip_items-loop-slot-preserved g t c =
    let class = c.args.class.now in
    let old = c.args.pages.now in
    let slot = c.loop-slot.slot in
    let test = c.loop-slot-test.true in
    record {
      done = λ tells node read apart.
          let a = place g.C.GistClass class (g.P.Pages.map old) (g.P.Pages.count old) c.args.below node c.args.slots.now c.args.page read slot (omega (arith, test, c.count-slot-end.ensures)) in
          let was = c.loop-slot.invariant.done tells node read apart in
          let is = below_same g.C.GistClass class (g.P.Pages.map c.loop-slot.pages) (g.P.Pages.count old) (g.P.Pages.map c.loop-slot.pages) (g.P.Pages.count c.loop-slot.pages) refl c.loop-slot.invariant.count c.args.below
          a.item.0 a.item.1 c.args.slots.now slot (item_now g.C.GistClass class (g.P.Pages.map old) (g.P.Pages.count old) c.args.below node c.args.slots.now c.args.page read apart slot a (g.P.Pages.map c.loop-slot.pages) was.1) in
          let more = c.in_ok-strip_slot.ensures.stripped tells a.item.0 a.item.1 is (apart_here g.C.GistClass class (g.P.Pages.map old) (g.P.Pages.count old) c.args.below node c.args.slots.now c.args.page read apart slot a) in (
            done_more g.C.GistClass class (g.P.Pages.map old) (g.P.Pages.count old) c.args.below node c.args.slots.now c.args.page read apart slot a (λ (e : Entry g.row.C-Key.Denot). is_in c.args.rows.now e.0.number) (g.P.Pages.map c.loop-slot.pages) (g.P.Pages.map c.strip_slot.new.pages) more.1 was.0 more.0,
            only_more g.C.GistClass class (g.P.Pages.map old) (g.P.Pages.count old) c.args.below node c.args.slots.now c.args.page read apart slot a (g.P.Pages.map c.loop-slot.pages) (g.P.Pages.map c.strip_slot.new.pages) was.1 more.1,
          );
      seen = λ tells node read apart n out differ outs.
          let a = place g.C.GistClass class (g.P.Pages.map old) (g.P.Pages.count old) c.args.below node c.args.slots.now c.args.page read slot (omega (arith, test, c.count-slot-end.ensures)) in
          let was = c.loop-slot.invariant.done tells node read apart in
          let is = below_same g.C.GistClass class (g.P.Pages.map c.loop-slot.pages) (g.P.Pages.count old) (g.P.Pages.map c.loop-slot.pages) (g.P.Pages.count c.loop-slot.pages) refl c.loop-slot.invariant.count c.args.below
          a.item.0 a.item.1 c.args.slots.now slot (item_now g.C.GistClass class (g.P.Pages.map old) (g.P.Pages.count old) c.args.below node c.args.slots.now c.args.page read apart slot a (g.P.Pages.map c.loop-slot.pages) was.1) in
          let done = flat_map (below_pages g.row.C-Key.Denot c.args.below) (take slot node.1) in
          let here = below_pages g.row.C-Key.Denot c.args.below a.item in
          let parts : IsOutside n (done ++ here) = subst (λ (l : List ℕ). IsOutside n l) (flat_more (below_pages g.row.C-Key.Denot c.args.below) node.1 slot a) outs in
          c.in_ok-strip_slot.ensures.seen tells a.item.0 a.item.1 is (apart_here g.C.GistClass class (g.P.Pages.map old) (g.P.Pages.count old) c.args.below node c.args.slots.now c.args.page read apart slot a)
          n (c.loop-slot.invariant.seen tells node read apart n out differ (all_left (λ (m : ℕ). n ≢ m) done here parts)) (all_right (λ (m : ℕ). n ≢ m) done here parts);
      zero = λ tells. c.in_ok-strip_slot.ensures.zero tells ∙ c.loop-slot.invariant.zero tells;
      count = c.in_ok-strip_slot.ensures.count ∙ c.loop-slot.invariant.count;
      other = c.in_ok-strip_slot.ensures.other tt ∙ c.loop-slot.invariant.other;
      quiet = quiet_join g.P.Pages g.met.P.Pages.follows_on old c.loop-slot.pages c.strip_slot.new.pages c.loop-slot.invariant.quiet c.in_ok-strip_slot.ensures.quiet;
    }

pub strip_items-returns-clause-stripped : goal.strip_items-returns-clause-stripped
strip_items-returns-clause-stripped g t c = λ tells node read apart.
    let class = c.args.class.now in
    let old = c.args.pages.now in
    let slot = c.loop-slot.slot in
    let test = c.loop-slot-test.false in
    let all = take_whole node.1 slot (omega (arith, test, c.count-slot-end.ensures, many g.C.GistClass class (g.P.Pages.map old) (g.P.Pages.count old) c.args.below node c.args.slots.now c.args.page read)) in
    let was = c.loop-slot.invariant.done tells node read apart in
    all_done g.C.GistClass class (g.P.Pages.map old) (g.P.Pages.count old) c.args.below node c.args.slots.now c.args.page read apart (λ (e : Entry g.row.C-Key.Denot). is_in c.args.rows.now e.0.number) (g.P.Pages.map c.loop-slot.pages)
    (subst (λ (l : List (g.row.C-Key.Denot × Node g.row.C-Key.Denot c.args.below)). ChangesOnly (g.P.Pages.map old) (g.P.Pages.map c.loop-slot.pages) (flat_map (below_pages g.row.C-Key.Denot c.args.below) l)) all was.1)
    (subst (λ (l : List (g.row.C-Key.Denot × Node g.row.C-Key.Denot c.args.below)). AllByRecursion (λ item. Stands (g.P.Pages.map c.loop-slot.pages) (g.C.GistClass.spelling class) c.args.below (stripped (λ (e : Entry g.row.C-Key.Denot). is_in c.args.rows.now e.0.number) c.args.below item.1)) l) all was.0)

pub strip_items-returns-clause-seen : goal.strip_items-returns-clause-seen
strip_items-returns-clause-seen g t c = λ tells node read apart n out outs.
    let class = c.args.class.now in
    let old = c.args.pages.now in
    let slot = c.loop-slot.slot in
    let test = c.loop-slot-test.false in
    let all = take_whole node.1 slot (omega (arith, test, c.count-slot-end.ensures, many g.C.GistClass class (g.P.Pages.map old) (g.P.Pages.count old) c.args.below node c.args.slots.now c.args.page read)) in
    c.loop-slot.invariant.seen tells node read apart n out (λ same. outs.0 (same ∙ read.at))
    (subst (λ (l : List (g.row.C-Key.Denot × Node g.row.C-Key.Denot c.args.below)). IsOutside n (flat_map (below_pages g.row.C-Key.Denot c.args.below) l)) (sym all) outs.1)

pub strip_slot-returns-in_err-child-clause-cause : goal.strip_slot-returns-in_err-child-clause-cause
strip_slot-returns-in_err-child-clause-cause g t c =
    let p = err_from_is_err_and c.from_residual.result c.from_residual.ensures.1 in
    rw (p.1, p.2)
    (named_cause c.in_err-child.field-0.0 c.args.page _ _ _ _ _ (inr c.in_err-child.ensures.cause)
    (λ broken tells key child below fresh. broken (page_of g.row.C-Key.Denot c.args.below child) (g.C.GistClass.spelling c.args.class.now key) below.is))

pub strip_slot-returns-in_err-inner-clause-cause : goal.strip_slot-returns-in_err-inner-clause-cause
strip_slot-returns-in_err-inner-clause-cause g t c =
    let class = c.args.class.now in
    let old = c.args.pages.now in
    let p = err_from_is_err_and c.from_residual-in_err-inner.result c.from_residual-in_err-inner.ensures.1 in
    rw (p.1, p.2)
    (cause_weaker c.in_err-inner.field-0.0 (g.P.Pages.faults old) (g.P.Pages.faults old) (g.P.Pages.faults c.fetch_level.new.pages) (g.P.Pages.faults c.fetch_level.new.pages)
    _ _ _ _ _ _ (omega arith) (omega arith)
    (λ at expected found broken tells key child below fresh.
    let bound = g.met.P.Pages.bounded old in
    let low = below.below in
    let goes = c.in_ok-child.ensures.some (page_of g.row.C-Key.Denot c.args.below child) (g.C.GistClass.spelling class key) (omega (arith, bound, low)) below.is in
    not_refused g.C.GistClass class (g.P.Pages.map old) (g.P.Pages.count old) c.args.below child c.in_ok-child.child goes below.below below.sound
    (λ some small slots is fits kind level. broken some small tells slots is fits kind level))
    (λ n no. absurd no) (λ no. absurd no) c.in_err-inner.ensures.cause)

pub strip_slot-returns-in_err-strip_page-clause-cause : goal.strip_slot-returns-in_err-strip_page-clause-cause
strip_slot-returns-in_err-strip_page-clause-cause g t c =
    let class = c.args.class.now in
    let old = c.args.pages.now in
    let p = err_from_is_err_and c.from_residual-in_err-strip_page.result c.from_residual-in_err-strip_page.ensures.1 in
    rw (p.1, p.2)
    (cause_weaker c.in_err-strip_page.field-0.0 (g.P.Pages.faults old) (g.P.Pages.faults c.fetch_level.new.pages) (g.P.Pages.faults c.strip_page.new.pages) (g.P.Pages.faults c.strip_page.new.pages)
    _ _ _ _ _ _ (let q = c.in_ok-inner.ensures.quiet.faults in omega (arith, q)) (omega arith)
    (λ at expected found broken tells key child below fresh.
    let bound = g.met.P.Pages.bounded old in
    let low = below.below in
    let goes = c.in_ok-child.ensures.some (page_of g.row.C-Key.Denot c.args.below child) (g.C.GistClass.spelling class key) (omega (arith, bound, low)) below.is in
    let read = read_same g.C.GistClass class (g.P.Pages.map old) (g.P.Pages.count old) (g.P.Pages.map c.fetch_level.new.pages) (g.P.Pages.count c.fetch_level.new.pages) c.in_ok-inner.ensures.map c.in_ok-inner.ensures.count
    c.args.below child c.in_ok-inner.inner c.in_ok-child.child
    (read_well g.C.GistClass class (g.P.Pages.map old) (g.P.Pages.count old) c.args.below child c.in_ok-child.child c.in_ok-inner.inner goes below.sound (c.in_ok-inner.ensures.one tells)) in
    broken tells child read fresh)
    (λ n no. absurd no) (λ no. no) c.in_err-strip_page.ensures.cause)

pub strip_slot-returns-clause-stripped : goal.strip_slot-returns-clause-stripped
strip_slot-returns-clause-stripped g t c = λ tells key child below apart.
    let class = c.args.class.now in
    let old = c.args.pages.now in
    let bound = g.met.P.Pages.bounded old in
    let low = below.below in
    let goes = c.in_ok-child.ensures.some (page_of g.row.C-Key.Denot c.args.below child) (g.C.GistClass.spelling class key) (omega (arith, bound, low)) below.is in
    let read = read_same g.C.GistClass class (g.P.Pages.map old) (g.P.Pages.count old) (g.P.Pages.map c.fetch_level.new.pages) (g.P.Pages.count c.fetch_level.new.pages) c.in_ok-inner.ensures.map c.in_ok-inner.ensures.count
    c.args.below child c.in_ok-inner.inner c.in_ok-child.child
    (read_well g.C.GistClass class (g.P.Pages.map old) (g.P.Pages.count old) c.args.below child c.in_ok-child.child c.in_ok-inner.inner goes below.sound (c.in_ok-inner.ensures.one tells)) in
    let made = c.in_ok-strip_page.ensures.stripped tells child read apart in
    (made.0, subst (λ (m : PageMap). ChangesOnly m (g.P.Pages.map c.strip_page.new.pages) (pages_of g.row.C-Key.Denot c.args.below child)) c.in_ok-inner.ensures.map made.1)

pub strip_slot-returns-clause-seen : goal.strip_slot-returns-clause-seen
strip_slot-returns-clause-seen g t c = λ tells key child below apart.
    let class = c.args.class.now in
    let old = c.args.pages.now in
    let bound = g.met.P.Pages.bounded old in
    let low = below.below in
    let goes = c.in_ok-child.ensures.some (page_of g.row.C-Key.Denot c.args.below child) (g.C.GistClass.spelling class key) (omega (arith, bound, low)) below.is in
    let read = read_same g.C.GistClass class (g.P.Pages.map old) (g.P.Pages.count old) (g.P.Pages.map c.fetch_level.new.pages) (g.P.Pages.count c.fetch_level.new.pages) c.in_ok-inner.ensures.map c.in_ok-inner.ensures.count
    c.args.below child c.in_ok-inner.inner c.in_ok-child.child
    (read_well g.C.GistClass class (g.P.Pages.map old) (g.P.Pages.count old) c.args.below child c.in_ok-child.child c.in_ok-inner.inner goes below.sound (c.in_ok-inner.ensures.one tells)) in
    c.in_ok-strip_page.ensures.seen tells child read apart
