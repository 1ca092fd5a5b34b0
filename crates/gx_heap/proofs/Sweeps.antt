-- A walk that gives the pages without items back.
use Rattle.std.proofs.Common.{◌≡◌, ◌≢◌, ◌⊎◌, inl, inr, ⊎_elim, ℕ, ◌+◌, ◌<◌, ◌≤◌, List, [], ◌∷◌, ◌++◌, length, Option, Some, refl, sym, ◌∙◌, ap, subst, append_assoc, arith}
use Rattle.std.specs.List.{AllByRecursion}
use Rattle.gx_words.specs.PageMap.{PageMap}
use Rattle.gx_pages.specs.declared.store.Pages.{Ghosts}
use Rattle.gx_pages.specs.Footprints.{KeepsPages}
use Rattle.gx_pages.specs.Frees.{IsApart, IsFreeList}
use Rattle.gx_pages.proofs.Footprints as feet
use Rattle.gx_slot.specs.Slots.{Slots, IsSlotPage}
use Rattle.gx_chain.specs.declared.chain.Chain.{Chain}
use Rattle.gx_chain.specs.declared.entry.Entry.{Entry}
use Rattle.gx_chain.specs.Chains.{Link, Holds, HoldsBeside, AreLinked, entries_at, entries_of, first_of, last_to, pages_of, slots}
use Rattle.gx_chain.proofs.Entries.{entries_append}
use Rattle.gx_chain.proofs.Links.{held_same, last_mid, linked_mid, linked_some, mid_sound, pages_mid}
use Rattle.gx_heap.specs.Heaps.{AreFilled, IsFilled}

-- The pages `kept` are filled, those from this one on are left, and only pages without items are gone.
pub record Sweeps {P : Type 0} (g : Ghosts P) (old now : P) (chain : Chain) (links : List Link) (free : List ℕ) (page before mark count : ℕ) : Type 0 where
  pub kept : List Link
  pub next : Link
  pub left : List Link
  pub rest : List ℕ
  pub held : HoldsBeside g now 2 chain (kept ++ next ∷ left) rest
  pub same : entries_of (kept ++ next ∷ left) ≡ entries_of links
  pub filled : AllByRecursion IsFilled kept
  pub at : page ≡ next.0
  pub behind : before ≡ last_to 0 kept
  pub keeps : KeepsPages g old now (pages_of links) free (pages_of (kept ++ next ∷ left)) rest
  pub marked : (mark ≡ 0) ⊎ (0 < feet.times mark (pages_of kept))
  pub len : count + (1 + length left) ≡ length links

pub all_filled : (kept : List Link) (last : Link) → AllByRecursion IsFilled kept → AreFilled (kept ++ last ∷ [])
all_filled [] last all = tt
all_filled (link ∷ []) last all = (all.0, tt)
all_filled (link ∷ next ∷ kept) last all = (all.0, all_filled (next ∷ kept) last all.1)

-- the last of some pages
pub record Last (links : List Link) (last : ℕ) : Type 0 where
  pub front : List Link
  pub items : List (Option (List ℕ))
  pub ends : links ≡ front ++ (last, items) ∷ []

last_behind : (link : Link) (links : List Link) → Last (link ∷ links) (last_to link.0 links)
last_behind link [] = record { front = []; items = link.1; ends = refl }
last_behind link (next ∷ links) =
    let rest = last_behind next links in
    record { front = link ∷ rest.front; items = rest.items; ends = ap (λ (l : List Link). link ∷ l) rest.ends }

-- the page before the one that a walk has come to
pub before_some : (links : List Link) (before : ℕ) → before ≡ last_to 0 links → before ≢ 0 → Last links before
before_some [] before at some = absurd (some at)
before_some (link ∷ links) before at some = subst (λ (n : ℕ). Last (link ∷ links) n) (sym at) (last_behind link links)

pub before_none : (links : List Link) (before : ℕ) → AllByRecursion (λ page. page ≢ 0) (pages_of links) → before ≡ last_to 0 links → before ≡ 0 → links ≡ []
before_none [] before some at none = refl
before_none (link ∷ links) before some at none = absurd (ends link links some (sym at ∙ none))
  where
    ends : (link : Link) (links : List Link) → AllByRecursion (λ page. page ≢ 0) (pages_of (link ∷ links)) → last_to link.0 links ≡ 0 → ⊥
    ends link [] some zero_page = some.0 zero_page
    ends link (next ∷ links) some zero_page = ends next links some.1 zero_page

module _ {P : Type 0} (g : Ghosts P) (old : P) where
  pub sweeps_none : (chain : Chain) (links : List Link) (free : List ℕ) → HoldsBeside g old 2 chain links free → Sweeps g old old chain links free chain.first 0 0 0
  sweeps_none chain [] free held = absurd (let some = held.held.some in omega (arith, some))
  sweeps_none chain (link ∷ links) free held = record {
    kept = [];
    next = link;
    left = links;
    rest = free;
    held = held;
    same = refl;
    filled = tt;
    at = held.held.first;
    behind = refl;
    keeps = feet.keeps_none g old (pages_of (link ∷ links)) free held.frees;
    marked = inl refl;
    len = omega arith;
  }

  -- pages were read
  pub sweeps_read : (now then : P) (chain : Chain) (links : List Link) (free : List ℕ) (page before mark count : ℕ) → g.map then ≡ g.map now → g.count then ≡ g.count now
      → Sweeps g old now chain links free page before mark count → Sweeps g old then chain links free page before mark count
  sweeps_read now then chain links free page before mark count map same_count sweeps =
      let pages : List ℕ = pages_of (sweeps.kept ++ sweeps.next ∷ sweeps.left) in
      let list = subst (λ (m : PageMap). IsFreeList m (g.count then) sweeps.rest) (sym map) (subst (λ (n : ℕ). IsFreeList (g.map now) n sweeps.rest) (sym same_count) sweeps.held.frees) in
      record {
        kept = sweeps.kept;
        next = sweeps.next;
        left = sweeps.left;
        rest = sweeps.rest;
        held = held_same g now then 2 chain (sweeps.kept ++ sweeps.next ∷ sweeps.left) sweeps.rest map same_count sweeps.held;
        same = sweeps.same;
        filled = sweeps.filled;
        at = sweeps.at;
        behind = sweeps.behind;
        keeps = feet.keeps_join g old now then (pages_of links) free pages sweeps.rest pages sweeps.rest sweeps.keeps
            (feet.keeps_from g now then then pages sweeps.rest pages sweeps.rest map same_count (feet.keeps_none g then pages sweeps.rest list));
        marked = sweeps.marked;
        len = sweeps.len;
      }

  module _ (now : P) (chain : Chain) (links : List Link) (free : List ℕ) (page before mark count : ℕ) (sweeps : Sweeps g old now chain links free page before mark count) where
    pub cut : HoldsBeside g now 2 chain (sweeps.kept ++ (page, sweeps.next.1) ∷ sweeps.left) sweeps.rest
    cut = subst (λ (n : ℕ). HoldsBeside g now 2 chain (sweeps.kept ++ (n, sweeps.next.1) ∷ sweeps.left) sweeps.rest) (sym sweeps.at) sweeps.held

    -- the page is read well
    pub sweeps_sound : (page ≢ 0 → page < g.count now → (bytes : List ℕ) → g.map now page ≡ Some bytes → ¬ IsSlotPage bytes 2) → ⊥
    sweeps_sound broken = mid_sound (g.map now) (g.count now) 2 chain sweeps.kept page sweeps.next.1 sweeps.left cut.held broken

    pub linked_here : AreLinked (g.map now) 2 (sweeps.kept ++ (page, sweeps.next.1) ∷ sweeps.left)
    linked_here = cut.held.linked

    pub kept_some : AllByRecursion (λ p. p ≢ 0) (pages_of sweeps.kept)
    kept_some = feet.all_left (λ (p : ℕ). p ≢ 0) (pages_of sweeps.kept) (page ∷ pages_of sweeps.left)
        (subst (λ (l : List ℕ). AllByRecursion (λ (p : ℕ). p ≢ 0) l) (pages_mid sweeps.kept (page, sweeps.next.1) sweeps.left)
        (linked_some (g.map now) 2 0 (sweeps.kept ++ (page, sweeps.next.1) ∷ sweeps.left) linked_here))

    -- the page before this one
    sweeps_last : (some_before : before ≢ 0) (more : List Link) → sweeps.kept ++ more
        ≡ (before_some sweeps.kept before sweeps.behind some_before).front ++ (before, (before_some sweeps.kept before sweeps.behind some_before).items) ∷ more
    sweeps_last some_before more =
        let last = before_some sweeps.kept before sweeps.behind some_before in
        ap (λ (l : List Link). l ++ more) last.ends ∙ append_assoc last.front ((before, last.items) ∷ []) more

    pub sweeps_before : before ≢ 0
        → ((front back : List Link) (others : List (Option (List ℕ))) → Holds (g.map now) (g.count now) 2 chain (front ++ (before, others) ∷ back) → ⊥) → ⊥
    sweeps_before some_before broken =
        let last = before_some sweeps.kept before sweeps.behind some_before in
        broken last.front ((page, sweeps.next.1) ∷ sweeps.left) last.items
        (subst (λ (l : List Link). Holds (g.map now) (g.count now) 2 chain l) (sweeps_last some_before ((page, sweeps.next.1) ∷ sweeps.left)) cut.held)

    -- it isn't the mark
    pub sweeps_round : page ≡ mark → ⊥
    sweeps_round same =
        let apart : IsApart (pages_of sweeps.kept ++ page ∷ pages_of sweeps.left) = subst (λ (l : List ℕ). IsApart l) (pages_mid sweeps.kept (page, sweeps.next.1) sweeps.left) cut.held.apart in
        let out = feet.outside_none page (pages_of sweeps.kept) (feet.apart_before (pages_of sweeps.kept) page (pages_of sweeps.left) apart) in
        ⊎_elim (λ none. (linked_mid (g.map now) 2 sweeps.kept (page, sweeps.next.1) sweeps.left linked_here).0.some (same ∙ none))
        (λ there.
        let here : 0 < feet.times page (pages_of sweeps.kept) = subst (λ (n : ℕ). 0 < feet.times n (pages_of sweeps.kept)) (sym same) there in
        omega (arith, here, out)) sweeps.marked

    -- and not so many were read
    pub sweeps_long : length links ≤ count → ⊥
    sweeps_long enough = let len = sweeps.len in omega (arith, len, enough)

    -- the last page
    module _ (next : ℕ) (found : Slots) (is : found ≡ slots 2 (first_of sweeps.left) sweeps.next.1) (goes : next ≡ found.next) where
      at_next : next ≡ first_of sweeps.left
      at_next = goes ∙ ap (λ (s : Slots). s.next) is

      none_left : (left : List Link) → sweeps.left ≡ left → next ≡ 0 → sweeps.left ≡ []
      none_left [] same ends = same
      none_left (link ∷ left) same ends =
          let linked = (linked_mid (g.map now) 2 sweeps.kept (page, sweeps.next.1) sweeps.left linked_here).1 in
          absurd ((subst (λ (l : List Link). AreLinked (g.map now) 2 l) same linked).0.some (ap (λ (l : List Link). first_of l) (sym same) ∙ sym at_next ∙ ends))

      pub sweeps_end : next ≡ 0 → (later : List Link) × (rest : List ℕ) × HoldsBeside g now 2 chain later rest × (entries_of later ≡ entries_of links) × AreFilled later
          × KeepsPages g old now (pages_of links) free (pages_of later) rest
      sweeps_end ends = (
        sweeps.kept ++ sweeps.next ∷ sweeps.left,
        sweeps.rest,
        sweeps.held,
        sweeps.same,
        subst (λ (l : List Link). AreFilled (sweeps.kept ++ sweeps.next ∷ l)) (sym (none_left sweeps.left refl ends)) (all_filled sweeps.kept sweeps.next sweeps.filled),
        sweeps.keeps,
      )

      -- what is left goes on with this page
      some_left : (left : List Link) → sweeps.left ≡ left → next ≢ 0 → (link : Link) × (more : List Link) × (sweeps.left ≡ link ∷ more)
      some_left [] same goes_on = absurd (goes_on (at_next ∙ ap (λ (l : List Link). first_of l) same))
      some_left (link ∷ more) same goes_on = (link, more, same)

      -- The page is filled: it stays.
      module _ (full : (p : ℕ) → entries_at p 0 found.items ≢ []) (goes_on : next ≢ 0) where
        abbrev more : (link : Link) × (more : List Link) × (sweeps.left ≡ link ∷ more)
        more = some_left sweeps.left refl goes_on

        regroup : sweeps.kept ++ sweeps.next ∷ sweeps.left ≡ (sweeps.kept ++ sweeps.next ∷ []) ++ more.0 ∷ more.1
        regroup = ap (λ (l : List Link). sweeps.kept ++ sweeps.next ∷ l) more.2 ∙ sym (append_assoc sweeps.kept (sweeps.next ∷ []) (more.0 ∷ more.1))

        full_here : IsFilled sweeps.next
        full_here none = full sweeps.next.0 (ap (λ (s : Slots). entries_at sweeps.next.0 0 s.items) is ∙ none)

        marked_now : (m : ℕ) → (m ≡ mark) ⊎ (m ≡ page) → (m ≡ 0) ⊎ (0 < feet.times m (pages_of (sweeps.kept ++ sweeps.next ∷ [])))
        marked_now m moves =
            let all : feet.times m (pages_of (sweeps.kept ++ sweeps.next ∷ [])) ≡ feet.times m (pages_of sweeps.kept) + feet.times m (sweeps.next.0 ∷ []) =
            ap (λ (l : List ℕ). feet.times m l) (pages_mid sweeps.kept sweeps.next []) ∙ feet.times-append m (pages_of sweeps.kept) (sweeps.next.0 ∷ []) in
            ⊎_elim
            (λ stays. ⊎_elim (λ none. inl (stays ∙ none))
            (λ there. inr (let here : 0 < feet.times m (pages_of sweeps.kept) = subst (λ (n : ℕ). 0 < feet.times n (pages_of sweeps.kept)) (sym stays) there in omega (arith, here, all))) sweeps.marked)
            (λ is_page. inr (
            let here : feet.times m (sweeps.next.0 ∷ []) ≡ 1 + feet.times m [] = ap (λ (n : ℕ). feet.times m (n ∷ [])) (sym sweeps.at ∙ sym is_page) ∙ feet.times_one m [] in
            omega (arith, here, all)))
            moves

        pub sweeps_stay : (m : ℕ) → (m ≡ mark) ⊎ (m ≡ page) → Sweeps g old now chain links free next page m (count + 1)
        sweeps_stay m moves = record {
          kept = sweeps.kept ++ sweeps.next ∷ [];
          next = more.0;
          left = more.1;
          rest = sweeps.rest;
          held = subst (λ (l : List Link). HoldsBeside g now 2 chain l sweeps.rest) regroup sweeps.held;
          same = ap (λ (l : List Link). entries_of l) (sym regroup) ∙ sweeps.same;
          filled = feet.all_join IsFilled sweeps.kept (sweeps.next ∷ []) sweeps.filled (full_here, tt);
          at = at_next ∙ ap (λ (l : List Link). first_of l) more.2;
          behind = sweeps.at ∙ sym (last_mid 0 sweeps.kept sweeps.next []);
          keeps = subst (λ (l : List Link). KeepsPages g old now (pages_of links) free (pages_of l) sweeps.rest) regroup sweeps.keeps;
          marked = marked_now m moves;
          len = (let len = sweeps.len in let long = ap (λ (l : List Link). length l) more.2 in omega (arith, len, long));
        }

      -- The page is empty: it is given back.
      module _ (then : P) (shorter : Chain) (none : (p : ℕ) → entries_at p 0 found.items ≡ []) (goes_on : next ≢ 0)
          (held_then : HoldsBeside g then 2 shorter (sweeps.kept ++ sweeps.left) (page ∷ sweeps.rest))
          (keeps_then : KeepsPages g now then (pages_of (sweeps.kept ++ (page, sweeps.next.1) ∷ sweeps.left)) sweeps.rest (pages_of (sweeps.kept ++ sweeps.left)) (page ∷ sweeps.rest)) where
        abbrev rest_of : (link : Link) × (more : List Link) × (sweeps.left ≡ link ∷ more)
        rest_of = some_left sweeps.left refl goes_on

        empty_here : entries_at sweeps.next.0 0 sweeps.next.1 ≡ []
        empty_here = ap (λ (s : Slots). entries_at sweeps.next.0 0 s.items) (sym is) ∙ none sweeps.next.0

        same_entries : entries_of (sweeps.kept ++ sweeps.left) ≡ entries_of links
        same_entries =
            entries_append sweeps.kept sweeps.left ∙ ap (λ (l : List Entry). entries_of sweeps.kept ++ (l ++ entries_of sweeps.left)) (sym empty_here)
            ∙ sym (entries_append sweeps.kept (sweeps.next ∷ sweeps.left)) ∙ sweeps.same

        pub sweeps_drop : Sweeps g old then shorter links free next before mark (count + 1)
        sweeps_drop = record {
          kept = sweeps.kept;
          next = rest_of.0;
          left = rest_of.1;
          rest = page ∷ sweeps.rest;
          held = subst (λ (l : List Link). HoldsBeside g then 2 shorter (sweeps.kept ++ l) (page ∷ sweeps.rest)) rest_of.2 held_then;
          same = ap (λ (l : List Link). entries_of (sweeps.kept ++ l)) (sym rest_of.2) ∙ same_entries;
          filled = sweeps.filled;
          at = at_next ∙ ap (λ (l : List Link). first_of l) rest_of.2;
          behind = sweeps.behind;
          keeps = subst (λ (l : List Link). KeepsPages g old then (pages_of links) free (pages_of (sweeps.kept ++ l)) (page ∷ sweeps.rest)) rest_of.2
              (feet.keeps_join g old now then (pages_of links) free (pages_of (sweeps.kept ++ sweeps.next ∷ sweeps.left)) sweeps.rest (pages_of (sweeps.kept ++ sweeps.left)) (page ∷ sweeps.rest) sweeps.keeps
              (subst (λ (n : ℕ). KeepsPages g now then (pages_of (sweeps.kept ++ (n, sweeps.next.1) ∷ sweeps.left)) sweeps.rest (pages_of (sweeps.kept ++ sweeps.left)) (page ∷ sweeps.rest)) sweeps.at keeps_then));
          marked = sweeps.marked;
          len = (let len = sweeps.len in let long = ap (λ (l : List Link). length l) rest_of.2 in omega (arith, len, long));
        }

      -- it is the first one
      pub sweeps_first : (then : P) (shorter : Chain) → ((p : ℕ) → entries_at p 0 found.items ≡ []) → next ≢ 0 → before ≡ 0
          → ((back : List Link) (items : List (Option (List ℕ))) (frees : List ℕ) → HoldsBeside g now 2 chain ((page, items) ∷ back) frees → next ≡ first_of back
          → HoldsBeside g then 2 shorter back (page ∷ frees) × KeepsPages g now then (page ∷ pages_of back) frees (pages_of back) (page ∷ frees))
          → Sweeps g old then shorter links free next before mark (count + 1)
      sweeps_first then shorter none goes_on zero_before unlinked =
          let empty = before_none sweeps.kept before kept_some sweeps.behind zero_before in
          let done = unlinked sweeps.left sweeps.next.1 sweeps.rest (subst (λ (l : List Link). HoldsBeside g now 2 chain (l ++ (page, sweeps.next.1) ∷ sweeps.left) sweeps.rest) empty cut) at_next in
          sweeps_drop then shorter none goes_on
          (subst (λ (l : List Link). HoldsBeside g then 2 shorter (l ++ sweeps.left) (page ∷ sweeps.rest)) (sym empty) done.0)
          (subst (λ (l : List Link). KeepsPages g now then (pages_of (l ++ (page, sweeps.next.1) ∷ sweeps.left)) sweeps.rest (pages_of (l ++ sweeps.left)) (page ∷ sweeps.rest)) (sym empty) done.1)

      -- it stands behind another one
      pub sweeps_behind : (then : P) → ((p : ℕ) → entries_at p 0 found.items ≡ []) → next ≢ 0 → before ≢ 0
          → ((front back : List Link) (others items : List (Option (List ℕ))) (frees : List ℕ) → HoldsBeside g now 2 chain (front ++ (before, others) ∷ (page, items) ∷ back) frees → next ≡ first_of back
          → HoldsBeside g then 2 chain (front ++ (before, others) ∷ back) (page ∷ frees)
          × KeepsPages g now then (pages_of (front ++ (before, others) ∷ (page, items) ∷ back)) frees (pages_of (front ++ (before, others) ∷ back)) (page ∷ frees))
          → Sweeps g old then chain links free next before mark (count + 1)
      sweeps_behind then none goes_on some_before unlinked =
          let last = before_some sweeps.kept before sweeps.behind some_before in
          let with_page = sweeps_last some_before ((page, sweeps.next.1) ∷ sweeps.left) in
          let with_none = sweeps_last some_before sweeps.left in
          let done = unlinked last.front sweeps.left last.items sweeps.next.1 sweeps.rest (subst (λ (l : List Link). HoldsBeside g now 2 chain l sweeps.rest) with_page cut) at_next in
          sweeps_drop then chain none goes_on
          (subst (λ (l : List Link). HoldsBeside g then 2 chain l (page ∷ sweeps.rest)) (sym with_none) done.0)
          (subst (λ (l : List Link). KeepsPages g now then (pages_of l) sweeps.rest (pages_of (sweeps.kept ++ sweeps.left)) (page ∷ sweeps.rest)) (sym with_page)
          (subst (λ (l : List Link). KeepsPages g now then (pages_of (last.front ++ (before, last.items) ∷ (page, sweeps.next.1) ∷ sweeps.left)) sweeps.rest (pages_of l) (page ∷ sweeps.rest)) (sym with_none) done.1))
