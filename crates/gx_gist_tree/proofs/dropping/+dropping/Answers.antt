use Rattle.std.proofs.Common.{◌-◌, ◌++◌, ◌∷◌, [], inr, List, ℕ, suc, refl, sym, ◌∙◌, subst, arith}
use Rattle.std.specs.List.{flat_map}
use Rattle.std.specs.List.Sorted.{IsPermutation}
use Rattle.std.proofs.lemmas.List.Sorted.{IsPermutation-refl}
use Rattle.std.proofs.lemmas.Result.{err_from_is_err_and}
use Rattle.gx_words.specs.PageMap.{PageMap}
use Rattle.gx_pages.specs.Frees.{IsApart, IsFreeList}
use Rattle.gx_pages.specs.Footprints.{ChangesOnly}
use Rattle.gx_pages.proofs.Footprints.{cause_weaker, quiet_join, header_join, free_list_at}
use Rattle.gx_gist_tree.specs.Trees.{Node, page_of, pages_of}
use Rattle.gx_gist_tree.specs.OnPages.{IsRead}
use Rattle.gx_gist_tree.proofs.Places.{take_whole}
use Rattle.gx_gist_tree.proofs.VisitFacts.{below_pages, place, many, level_up, read_same, read_well, not_refused, below_same, named_cause}
use Rattle.gx_gist_tree.proofs.StripWalk.{item_now, only_more}
use Rattle.gx_gist_tree.proofs.DropWalk.{apart_first, apart_item, moved_more, gave}
use Rattle.gx_gist_tree.proofs.dropping.+dropping.Goals as goal

pub drop_page-returns-then-level-eq0-clause-dropped : goal.drop_page-returns-then-level-eq0-clause-dropped
drop_page-returns-then-level-eq0-clause-dropped g t c = λ tells.
    subst (λ (n : ℕ). (node : Node g.row.C-Key.Denot n) → IsRead g.C.GistClass c.args.class.now (g.P.Pages.map c.args.pages.now) (g.P.Pages.count c.args.pages.now) n node c.args.slots.now c.args.page → (free : List ℕ) → IsFreeList (g.P.Pages.map c.args.pages.now) (g.P.Pages.count c.args.pages.now) free → IsApart (pages_of g.row.C-Key.Denot n node ++ free) → (rest : List ℕ) × IsFreeList (g.P.Pages.map c.give.new.self) (g.P.Pages.count c.give.new.self) rest × IsPermutation (pages_of g.row.C-Key.Denot n node ++ free) rest × ChangesOnly (g.P.Pages.map c.args.pages.now) (g.P.Pages.map c.give.new.self) (pages_of g.row.C-Key.Denot n node))
    (sym c.if-level-eq0.true) (λ node read free list apart.
    let same = subst (λ (n : ℕ). IsApart ((n ∷ []) ++ free)) (sym read.at) apart in
    let all = gave (g.P.Pages.map c.args.pages.now) (g.P.Pages.map c.args.pages.now) (g.P.Pages.map c.give.new.self) (g.P.Pages.count c.args.pages.now) (g.P.Pages.count c.give.new.self) c.args.page [] free free
    (IsPermutation-refl free) (λ n some out. refl) same (c.in_ok-give.ensures.others tells) c.in_ok-give.ensures.count (c.in_ok-give.ensures.given tells) list in
    (all.0, all.1, subst (λ (n : ℕ). IsPermutation ((n ∷ []) ++ free) all.0) read.at all.2, subst (λ (n : ℕ). ChangesOnly (g.P.Pages.map c.args.pages.now) (g.P.Pages.map c.give.new.self) (n ∷ [])) read.at all.3))

pub drop_page-returns-in_err-drop_items-clause-cause : goal.drop_page-returns-in_err-drop_items-clause-cause
drop_page-returns-in_err-drop_items-clause-cause g t c =
    let p = err_from_is_err_and c.from_residual-in_err-drop_items.result c.from_residual-in_err-drop_items.ensures.1 in
    rw (p.1, p.2)
    (cause_weaker c.in_err-drop_items.field-0.0 (g.P.Pages.faults c.args.pages.now) (g.P.Pages.faults c.args.pages.now) (g.P.Pages.faults c.drop_items.new.pages) (g.P.Pages.faults c.drop_items.new.pages)
    _ _ _ _ _ _ (omega arith) (omega arith)
    (λ at expected found broken tells. subst (λ (n : ℕ). (node : Node g.row.C-Key.Denot n) → IsRead g.C.GistClass c.args.class.now (g.P.Pages.map c.args.pages.now) (g.P.Pages.count c.args.pages.now) n node c.args.slots.now c.args.page → (free : List ℕ) → IsFreeList (g.P.Pages.map c.args.pages.now) (g.P.Pages.count c.args.pages.now) free → IsApart (pages_of g.row.C-Key.Denot n node ++ free) → ⊥) (sym (level_up c.args.level c.if-level-eq0.false)) (broken tells))
    (λ n no. absurd no) (λ no. no) c.in_err-drop_items.ensures.cause)

pub drop_page-returns-clause-dropped : goal.drop_page-returns-clause-dropped
drop_page-returns-clause-dropped g t c = λ tells.
    let old = c.args.pages.now in
    let mid = c.drop_items.new.pages in
    subst (λ (n : ℕ). (node : Node g.row.C-Key.Denot n) → IsRead g.C.GistClass c.args.class.now (g.P.Pages.map c.args.pages.now) (g.P.Pages.count c.args.pages.now) n node c.args.slots.now c.args.page → (free : List ℕ) → IsFreeList (g.P.Pages.map c.args.pages.now) (g.P.Pages.count c.args.pages.now) free → IsApart (pages_of g.row.C-Key.Denot n node ++ free) → (rest : List ℕ) × IsFreeList (g.P.Pages.map c.give-2.new.self) (g.P.Pages.count c.give-2.new.self) rest × IsPermutation (pages_of g.row.C-Key.Denot n node ++ free) rest × ChangesOnly (g.P.Pages.map c.args.pages.now) (g.P.Pages.map c.give-2.new.self) (pages_of g.row.C-Key.Denot n node))
    (sym (level_up c.args.level c.if-level-eq0.false)) (λ node read free list apart.
    let below = flat_map (below_pages g.row.C-Key.Denot (c.args.level - 1)) node.1 in
    let was = c.in_ok-drop_items.ensures.dropped tells node read free list apart in
    let same = subst (λ (n : ℕ). IsApart ((n ∷ below) ++ free)) (sym read.at) apart in
    let all = gave (g.P.Pages.map old) (g.P.Pages.map mid) (g.P.Pages.map c.give-2.new.self) (g.P.Pages.count mid) (g.P.Pages.count c.give-2.new.self) c.args.page below free was.0
    was.2 was.3 same (c.in_ok-give-2.ensures.others tells) c.in_ok-give-2.ensures.count (c.in_ok-give-2.ensures.given tells) was.1 in
    (all.0, all.1, subst (λ (n : ℕ). IsPermutation ((n ∷ below) ++ free) all.0) read.at all.2, subst (λ (n : ℕ). ChangesOnly (g.P.Pages.map old) (g.P.Pages.map c.give-2.new.self) (n ∷ below)) read.at all.3))

pub drop_items-returns-in_err-drop_slot-clause-cause : goal.drop_items-returns-in_err-drop_slot-clause-cause
drop_items-returns-in_err-drop_slot-clause-cause g t c =
    let p = err_from_is_err_and c.from_residual.result c.from_residual.ensures.1 in
    rw (p.1, p.2)
    (cause_weaker c.in_err-drop_slot.field-0.0 (g.P.Pages.faults c.args.pages.now) (g.P.Pages.faults c.loop-slot.pages) (g.P.Pages.faults c.drop_slot.new.pages) (g.P.Pages.faults c.drop_slot.new.pages)
    _ _ _ _ _ _ (let q = c.loop-slot.invariant.quiet.faults in omega arith) (omega arith)
    (λ at expected found broken tells node read free list apart.
    let class = c.args.class.now in
    let old = c.args.pages.now in
    let slot = c.loop-slot.slot in
    let test = c.loop-slot-test.true in
    let a = place g.C.GistClass class (g.P.Pages.map old) (g.P.Pages.count old) c.args.below node c.args.slots.now c.args.page read slot (omega (arith, test, c.count-slot-end.ensures)) in
    let own = apart_first (pages_of g.row.C-Key.Denot (suc c.args.below) node) free apart in
    let was = c.loop-slot.invariant.done tells node read free list apart in
    let is = below_same g.C.GistClass class (g.P.Pages.map c.loop-slot.pages) (g.P.Pages.count old) (g.P.Pages.map c.loop-slot.pages) (g.P.Pages.count c.loop-slot.pages) refl c.loop-slot.invariant.count c.args.below
    a.item.0 a.item.1 c.args.slots.now slot (item_now g.C.GistClass class (g.P.Pages.map old) (g.P.Pages.count old) c.args.below node c.args.slots.now c.args.page read own slot a (g.P.Pages.map c.loop-slot.pages) was.3) in
    let left = apart_item c.args.below node slot a free was.0 apart was.2 in
    broken tells a.item.0 a.item.1 is was.0 was.1 left)
    (λ n no. absurd no) (λ no. no) c.in_err-drop_slot.ensures.cause)

pub drop_items-loop-slot-preserved : goal.drop_items-loop-slot-preserved
drop_items-loop-slot-preserved g t c =
    let class = c.args.class.now in
    let old = c.args.pages.now in
    let slot = c.loop-slot.slot in
    let test = c.loop-slot-test.true in
    record {
      done = λ tells node read free list apart.
          let a = place g.C.GistClass class (g.P.Pages.map old) (g.P.Pages.count old) c.args.below node c.args.slots.now c.args.page read slot (omega (arith, test, c.count-slot-end.ensures)) in
          let own = apart_first (pages_of g.row.C-Key.Denot (suc c.args.below) node) free apart in
          let was = c.loop-slot.invariant.done tells node read free list apart in
          let is = below_same g.C.GistClass class (g.P.Pages.map c.loop-slot.pages) (g.P.Pages.count old) (g.P.Pages.map c.loop-slot.pages) (g.P.Pages.count c.loop-slot.pages) refl c.loop-slot.invariant.count c.args.below
          a.item.0 a.item.1 c.args.slots.now slot (item_now g.C.GistClass class (g.P.Pages.map old) (g.P.Pages.count old) c.args.below node c.args.slots.now c.args.page read own slot a (g.P.Pages.map c.loop-slot.pages) was.3) in
          let left = apart_item c.args.below node slot a free was.0 apart was.2 in
          let more = c.in_ok-drop_slot.ensures.dropped tells a.item.0 a.item.1 is was.0 was.1 left in (
            more.0,
            more.1,
            moved_more c.args.below node slot a free was.0 more.0 was.2 more.2,
            only_more g.C.GistClass class (g.P.Pages.map old) (g.P.Pages.count old) c.args.below node c.args.slots.now c.args.page read own slot a (g.P.Pages.map c.loop-slot.pages) (g.P.Pages.map c.drop_slot.new.pages) was.3 more.3,
          );
      header = λ tells. header_join (g.P.Pages.map old) (g.P.Pages.map c.loop-slot.pages) (g.P.Pages.map c.drop_slot.new.pages) (c.loop-slot.invariant.header tells) (c.in_ok-drop_slot.ensures.header tells);
      count = c.in_ok-drop_slot.ensures.count ∙ c.loop-slot.invariant.count;
      other = c.in_ok-drop_slot.ensures.other tt ∙ c.loop-slot.invariant.other;
      quiet = quiet_join g.P.Pages g.met.P.Pages.follows_on old c.loop-slot.pages c.drop_slot.new.pages c.loop-slot.invariant.quiet c.in_ok-drop_slot.ensures.quiet;
    }

pub drop_items-returns-in_err-drop_slot-clause-header : goal.drop_items-returns-in_err-drop_slot-clause-header
drop_items-returns-in_err-drop_slot-clause-header g t c = λ tells.
    header_join (g.P.Pages.map c.args.pages.now) (g.P.Pages.map c.loop-slot.pages) (g.P.Pages.map c.drop_slot.new.pages) (c.loop-slot.invariant.header tells) (c.drop_slot.ensures.header tells)

pub drop_items-returns-clause-dropped : goal.drop_items-returns-clause-dropped
drop_items-returns-clause-dropped g t c = λ tells node read free list apart.
    let class = c.args.class.now in
    let old = c.args.pages.now in
    let slot = c.loop-slot.slot in
    let test = c.loop-slot-test.false in
    let all = take_whole node.1 slot (omega (arith, test, c.count-slot-end.ensures, many g.C.GistClass class (g.P.Pages.map old) (g.P.Pages.count old) c.args.below node c.args.slots.now c.args.page read)) in
    let was = c.loop-slot.invariant.done tells node read free list apart in (
      was.0,
      was.1,
      subst (λ (l : List (g.row.C-Key.Denot × Node g.row.C-Key.Denot c.args.below)). IsPermutation (flat_map (below_pages g.row.C-Key.Denot c.args.below) l ++ free) was.0) all was.2,
      subst (λ (l : List (g.row.C-Key.Denot × Node g.row.C-Key.Denot c.args.below)). ChangesOnly (g.P.Pages.map old) (g.P.Pages.map c.loop-slot.pages) (flat_map (below_pages g.row.C-Key.Denot c.args.below) l)) all was.3,
    )

pub drop_page-returns-in_err-give-clause-header : goal.drop_page-returns-in_err-give-clause-header
drop_page-returns-in_err-give-clause-header g t c = c.give.ensures.header

pub drop_slot-returns-in_err-child-clause-cause : goal.drop_slot-returns-in_err-child-clause-cause
drop_slot-returns-in_err-child-clause-cause g t c =
    let p = err_from_is_err_and c.from_residual.result c.from_residual.ensures.1 in
    rw (p.1, p.2)
    (named_cause c.in_err-child.field-0.0 c.args.page _ _ _ _ _ (inr c.in_err-child.ensures.cause)
    (λ broken tells key child below free list apart. broken (page_of g.row.C-Key.Denot c.args.below child) (g.C.GistClass.spelling c.args.class.now key) below.is))

pub drop_slot-returns-in_err-inner-clause-cause : goal.drop_slot-returns-in_err-inner-clause-cause
drop_slot-returns-in_err-inner-clause-cause g t c =
    let class = c.args.class.now in
    let old = c.args.pages.now in
    let p = err_from_is_err_and c.from_residual-in_err-inner.result c.from_residual-in_err-inner.ensures.1 in
    rw (p.1, p.2)
    (cause_weaker c.in_err-inner.field-0.0 (g.P.Pages.faults old) (g.P.Pages.faults old) (g.P.Pages.faults c.fetch_level.new.pages) (g.P.Pages.faults c.fetch_level.new.pages)
    _ _ _ _ _ _ (omega arith) (omega arith)
    (λ at expected found broken tells key child below free list apart.
    let bound = g.met.P.Pages.bounded old in
    let low = below.below in
    let goes = c.in_ok-child.ensures.some (page_of g.row.C-Key.Denot c.args.below child) (g.C.GistClass.spelling class key) (omega (arith, bound, low)) below.is in
    not_refused g.C.GistClass class (g.P.Pages.map old) (g.P.Pages.count old) c.args.below child c.in_ok-child.child goes below.below below.sound
    (λ some small slots is fits kind level. broken some small tells slots is fits kind level))
    (λ n no. absurd no) (λ no. absurd no) c.in_err-inner.ensures.cause)

pub drop_slot-returns-in_err-drop_page-clause-cause : goal.drop_slot-returns-in_err-drop_page-clause-cause
drop_slot-returns-in_err-drop_page-clause-cause g t c =
    let class = c.args.class.now in
    let old = c.args.pages.now in
    let p = err_from_is_err_and c.from_residual-in_err-drop_page.result c.from_residual-in_err-drop_page.ensures.1 in
    rw (p.1, p.2)
    (cause_weaker c.in_err-drop_page.field-0.0 (g.P.Pages.faults old) (g.P.Pages.faults c.fetch_level.new.pages) (g.P.Pages.faults c.drop_page.new.pages) (g.P.Pages.faults c.drop_page.new.pages)
    _ _ _ _ _ _ (let q = c.in_ok-inner.ensures.quiet.faults in omega (arith, q)) (omega arith)
    (λ at expected found broken tells key child below free list apart.
    let bound = g.met.P.Pages.bounded old in
    let low = below.below in
    let goes = c.in_ok-child.ensures.some (page_of g.row.C-Key.Denot c.args.below child) (g.C.GistClass.spelling class key) (omega (arith, bound, low)) below.is in
    let read = read_same g.C.GistClass class (g.P.Pages.map old) (g.P.Pages.count old) (g.P.Pages.map c.fetch_level.new.pages) (g.P.Pages.count c.fetch_level.new.pages) c.in_ok-inner.ensures.map c.in_ok-inner.ensures.count
    c.args.below child c.in_ok-inner.inner c.in_ok-child.child
    (read_well g.C.GistClass class (g.P.Pages.map old) (g.P.Pages.count old) c.args.below child c.in_ok-child.child c.in_ok-inner.inner goes below.sound (c.in_ok-inner.ensures.one tells)) in
    let there = free_list_at (g.P.Pages.map c.fetch_level.new.pages) (g.P.Pages.map old) (g.P.Pages.count c.fetch_level.new.pages) (g.P.Pages.count old) free c.in_ok-inner.ensures.map c.in_ok-inner.ensures.count list in
    broken tells child read free there apart)
    (λ n no. absurd no) (λ no. no) c.in_err-drop_page.ensures.cause)

pub drop_slot-returns-clause-dropped : goal.drop_slot-returns-clause-dropped
drop_slot-returns-clause-dropped g t c = λ tells key child below free list apart.
    let class = c.args.class.now in
    let old = c.args.pages.now in
    let bound = g.met.P.Pages.bounded old in
    let low = below.below in
    let goes = c.in_ok-child.ensures.some (page_of g.row.C-Key.Denot c.args.below child) (g.C.GistClass.spelling class key) (omega (arith, bound, low)) below.is in
    let read = read_same g.C.GistClass class (g.P.Pages.map old) (g.P.Pages.count old) (g.P.Pages.map c.fetch_level.new.pages) (g.P.Pages.count c.fetch_level.new.pages) c.in_ok-inner.ensures.map c.in_ok-inner.ensures.count
    c.args.below child c.in_ok-inner.inner c.in_ok-child.child
    (read_well g.C.GistClass class (g.P.Pages.map old) (g.P.Pages.count old) c.args.below child c.in_ok-child.child c.in_ok-inner.inner goes below.sound (c.in_ok-inner.ensures.one tells)) in
    let there = free_list_at (g.P.Pages.map c.fetch_level.new.pages) (g.P.Pages.map old) (g.P.Pages.count c.fetch_level.new.pages) (g.P.Pages.count old) free c.in_ok-inner.ensures.map c.in_ok-inner.ensures.count list in
    let made = c.in_ok-drop_page.ensures.dropped tells child read free there apart in
    (made.0, made.1, made.2, subst (λ (m : PageMap). ChangesOnly m (g.P.Pages.map c.drop_page.new.pages) (pages_of g.row.C-Key.Denot c.args.below child)) c.in_ok-inner.ensures.map made.3)
