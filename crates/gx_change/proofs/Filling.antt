-- Rows that are added on the last page of a heap, and rows that are appended in parts.
use Rattle.std.proofs.Common.{◌≡◌, ℕ, ◌+◌, ◌^◌, ◌<◌, ◌≤◌, suc, List, [], ◌∷◌, ◌++◌, length, map, take, drop, Option, Some, refl, sym, ◌∙◌, ap, subst, append_assoc, length-append, arith}
use Rattle.std.specs.Prelude.{Result, Ok, Err, IfErr, OnOk}
use Rattle.std.specs.List.{AllByRecursion}
use Rattle.std.proofs.lemmas.List.{drop-take, drop_at, map-append, take-append-drop, take-take, take_at}
use Rattle.gx_bytes.specs.Fields.{le64, of64, length-le64, of64-le64}
use Rattle.gx_pages.specs.declared.store.Pages.{Ghosts}
use Rattle.gx_pages.specs.Footprints.{KeepsPages}
use Rattle.gx_pages.specs.Pages.{HasCause}
use Rattle.gx_pages.specs.declared.error.PageError.{PageError}
use Rattle.gx_pages.specs.Rows.{IsRising}
use Rattle.gx_pages.proofs.Footprints as feet
use Rattle.gx_slot.specs.Slots.{Slots, Fits, spelling}
use Rattle.gx_chain.specs.declared.chain.Chain.{Chain}
use Rattle.gx_chain.specs.declared.entry.Entry.{Entry}
use Rattle.gx_chain.specs.Chains.{HoldsBeside, IsLink, Link, entries_at, entries_of, first_of, pages_of, slots}
use Rattle.gx_chain.proofs.Entries.{entries_end, entries_more}
use Rattle.gx_chain.proofs.Links.{ends_of, linked_last, pages_end}
use Rattle.gx_heap.specs.declared.heap.Heap.{Heap}
use Rattle.gx_heap.specs.Heaps.{HoldsHeap, Row, chain_of, refs, row_of, rows_of}
use Rattle.gx_change.specs.Appended.{AreNumbered, items_from}

-- a greater bound of the number of pages
held_bound : {P : Type 0} (g : Ghosts P) (pages : P) (kind : ℕ) (chain other : Chain) (links : List Link) (free : List ℕ) → other.first ≡ chain.first → other.last ≡ chain.last → chain.pages ≤ other.pages
    → HoldsBeside g pages kind chain links free → HoldsBeside g pages kind other links free
held_bound g pages kind chain other links free first last more held = record {
  held = record {
    linked = held.held.linked;
    apart = held.held.apart;
    below = held.held.below;
    some = held.held.some;
    first = first ∙ held.held.first;
    last = last ∙ held.held.last;
    bound = (let bound = held.held.bound in omega (arith, bound, more));
  };
  frees = held.frees;
  apart = held.apart;
}

-- what an Ok says, where it says more
pub on_ok : {T E : Type 0} (r : Result T E) (A B : Type 0) → (A → B) → OnOk r A → OnOk r B
on_ok (Ok value) A B more says = more says
on_ok (Err error) A B more says = tt

-- a cause that was there before, too
pub cause_behind : {T : Type 0} (r : Result T PageError) (a b c : ℕ) (B B' : ℕ → ℕ → ℕ → Type 0) (S S' : ℕ → Type 0) → a ≤ b → ((p x y : ℕ) → B p x y → B' p x y) → ((n : ℕ) → S n → S' n)
    → IfErr r (HasCause b c B S (Unit {0})) → IfErr r (HasCause a c B' S' (Unit {0}))
cause_behind (Ok value) a b c B B' S S' le broken space has = tt
cause_behind (Err error) a b c B B' S S' le broken space has = feet.cause_weaker error a b c c B B' S S' (Unit {0}) (Unit {0}) le (omega arith) broken space (λ m. m) has

-- the first a and b of a list
pub take_split : {X : Type 0} (a b : ℕ) (xs : List X) → take (a + b) xs ≡ take a xs ++ take b (drop a xs)
take_split a b xs =
    sym (take-append-drop a (take (a + b) xs)) ∙ ap (λ l. l ++ drop a (take (a + b) xs)) (take-take a (a + b) xs (omega arith)) ∙ ap (λ l. take a xs ++ l) (drop-take a b xs)

pub items_more : (n : ℕ) (xs : List (List ℕ)) (x : List ℕ) → items_from n (xs ++ x ∷ []) ≡ items_from n xs ++ Some (le64 (n + length xs) ++ x) ∷ []
items_more n [] x = let same : n ≡ n + 0 = omega arith in ap (λ (k : ℕ). Some (le64 k ++ x) ∷ []) same
items_more n (y ∷ xs) x =
    let same : suc n + length xs ≡ n + length (y ∷ xs) = omega arith in
    ap (λ (l : List (Option (List ℕ))). Some (le64 n ++ y) ∷ l) (items_more (suc n) xs x ∙ ap (λ (k : ℕ). items_from (suc n) xs ++ Some (le64 k ++ x) ∷ []) same)

pub numbered_join : (n k : ℕ) (xs ys : List (List ℕ)) (first second : List Row) → k ≡ n + length xs → AreNumbered n xs first → AreNumbered k ys second → AreNumbered n (xs ++ ys) (first ++ second)
numbered_join n k [] ys first second at are more =
    let same : k ≡ n = omega (arith, at) in
    subst (λ (l : List Row). AreNumbered n ys (l ++ second)) (sym are) (subst (λ (m : ℕ). AreNumbered m ys second) same more)
numbered_join n k (x ∷ xs) ys [] second at are more = absurd are
numbered_join n k (x ∷ xs) ys (row ∷ first) second at are more = (are.0, are.1, numbered_join (suc n) k xs ys first second (omega (arith, at)) are.2 more)

-- the rows of these items, from a slot of a page on
abbrev pub placed : ℕ → ℕ → ℕ → List (List ℕ) → List Row
placed page slot n [] = []
placed page slot n (bytes ∷ more) = (record { number = n; page = page; slot = slot }, bytes) ∷ placed page (slot + 1) (suc n) more

are_numbered : (page slot n : ℕ) (rows : List (List ℕ)) → AreNumbered n rows (placed page slot n rows)
are_numbered page slot n [] = refl
are_numbered page slot n (bytes ∷ more) = (refl, refl, are_numbered page (slot + 1) (suc n) more)

row_back : (page slot number : ℕ) (row : List ℕ) → number < 2 ^ 64 → row_of (record { page = page; slot = slot; item = le64 number ++ row }) ≡ (record { number = number; page = page; slot = slot }, row)
row_back page slot number row fits =
    let first : of64 (take 8 (le64 number ++ row)) ≡ number = ap (λ (l : List ℕ). of64 l) (take_at (le64 number) row 8 (length-le64 number)) ∙ of64-le64 number fits in
    let rest : drop 8 (le64 number ++ row) ≡ row = drop_at (le64 number) row 8 (length-le64 number) in
    λ i. (record { number = first i; page = page; slot = slot }, rest i)

rows_back : (page slot n : ℕ) (rows : List (List ℕ)) → n + length rows ≤ 2 ^ 48 → map row_of (entries_at page slot (items_from n rows)) ≡ placed page slot n rows
rows_back page slot n [] fits = refl
rows_back page slot n (bytes ∷ more) fits =
    let first = row_back page slot n bytes (omega (arith, fits)) in
    let rest = rows_back page (slot + 1) (suc n) more (omega (arith, fits)) in
    λ i. first i ∷ rest i

are_whole : (page slot n : ℕ) (rows : List (List ℕ)) → AllByRecursion (λ entry. 8 ≤ length entry.item) (entries_at page slot (items_from n rows))
are_whole page slot n [] = tt
are_whole page slot n (bytes ∷ more) = (omega (arith, length-append (le64 n) bytes, length-le64 n), are_whole page (slot + 1) (suc n) more)

-- numbers from n on are above what is below n, and below the next one
placed_above : (m page slot n : ℕ) (rows : List (List ℕ)) → m < n → AllByRecursion (λ other. m < other.number) (refs (placed page slot n rows))
placed_above m page slot n [] below = tt
placed_above m page slot n (bytes ∷ more) below = (below, placed_above m page (slot + 1) (suc n) more (omega (arith, below)))

placed_rising : (page slot n : ℕ) (rows : List (List ℕ)) → IsRising (refs (placed page slot n rows))
placed_rising page slot n [] = tt
placed_rising page slot n (bytes ∷ more) = (placed_above n page (slot + 1) (suc n) more (omega arith), placed_rising page (slot + 1) (suc n) more)

placed_fit : (page slot n end : ℕ) (rows : List (List ℕ)) → 0 < n → n + length rows ≤ end → AllByRecursion (λ other. (0 < other.number) × (other.number < end)) (refs (placed page slot n rows))
placed_fit page slot n end [] some fits = tt
placed_fit page slot n end (bytes ∷ more) some fits = ((some, omega (arith, fits)), placed_fit page (slot + 1) (suc n) end more (omega arith) (omega (arith, fits)))

rising_join : (stored : List Row) (page slot n : ℕ) (rows : List (List ℕ)) → IsRising (refs stored) → AllByRecursion (λ row. (0 < row.number) × (row.number < n)) (refs stored)
    → IsRising (refs (stored ++ placed page slot n rows))
rising_join [] page slot n rows rising below = placed_rising page slot n rows
rising_join (row ∷ stored) page slot n rows rising below = (behind stored rising.0, rising_join stored page slot n rows rising.1 below.1)
  where
    behind : (stored : List Row) → AllByRecursion (λ other. row.0.number < other.number) (refs stored) → AllByRecursion (λ other. row.0.number < other.number) (refs (stored ++ placed page slot n rows))
    behind [] all = placed_above row.0.number page slot n rows below.0.1
    behind (next ∷ stored) all = (all.0, behind stored all.1)

numbers_join : (stored : List Row) (page slot n end : ℕ) (rows : List (List ℕ)) → 0 < n → n + length rows ≤ end → AllByRecursion (λ row. (0 < row.number) × (row.number < n)) (refs stored)
    → AllByRecursion (λ row. (0 < row.number) × (row.number < end)) (refs (stored ++ placed page slot n rows))
numbers_join [] page slot n end rows some fits all = placed_fit page slot n end rows some fits
numbers_join (row ∷ stored) page slot n end rows some fits all =
    ((all.0.0, let below = all.0.1 in omega (arith, below, fits)), numbers_join stored page slot n end rows some fits all.1)

-- Rows were added on the last page, whose slots were put back with their items.
module _ {P : Type 0} (g : Ghosts P) (old new : P) (heap longer : Heap) (rows : List (List ℕ)) (found filled : Slots) (stored : List Row) (feet_old free : List ℕ)
    (held : HoldsHeap g old heap stored feet_old free) (fits : heap.next + length rows ≤ 2 ^ 48)
    (one : (s : Slots) → g.map old heap.last ≡ Some (spelling s) → Fits s → found ≡ s)
    (is : filled ≡ record found { items = found.items ++ items_from heap.next rows })
    (puts : (front back : List Link) (items : List (Option (List ℕ))) → HoldsBeside g old filled.kind (chain_of heap) (front ++ (heap.last, items) ∷ back) free
    → filled ≡ slots filled.kind (first_of back) filled.items
    → HoldsBeside g new filled.kind (chain_of heap) (front ++ (heap.last, filled.items) ∷ back) free
    × KeepsPages g old new (pages_of (front ++ (heap.last, items) ∷ back)) free (pages_of (front ++ (heap.last, filled.items) ∷ back)) free)
    (longer_is : longer ≡ record { first = heap.first; last = heap.last; next = heap.next + length rows }) where
  -- what was added
  abbrev pub Filled : Type 0
  Filled = (more : List Row) × HoldsHeap g new longer (stored ++ more) feet_old free × KeepsPages g old new feet_old free feet_old free × AreNumbered heap.next rows more

  module _ (front : List Link) (items : List (Option (List ℕ))) (ends : held.links ≡ front ++ (heap.last, items) ∷ []) where
    abbrev more_items : List (Option (List ℕ))
    more_items = items_from heap.next rows

    abbrev later : List Link
    later = front ++ (heap.last, items ++ more_items) ∷ []

    abbrev added : List Row
    added = placed heap.last (length items) heap.next rows

    there : HoldsBeside g old 2 (chain_of heap) (front ++ (heap.last, items) ∷ []) free
    there = subst (λ (l : List Link). HoldsBeside g old 2 (chain_of heap) l free) ends held.held

    link : IsLink (g.map old) 2 0 (heap.last, items)
    link = linked_last (g.map old) 2 front (heap.last, items) there.held.linked

    is_slots : found ≡ slots 2 0 items
    is_slots = one (slots 2 0 items) link.is link.fits

    is_filled : filled ≡ slots 2 0 (items ++ more_items)
    is_filled = is ∙ ap (λ (s : Slots). record s { items = s.items ++ more_items }) is_slots

    kinds : filled.kind ≡ 2
    kinds = ap (λ (s : Slots). s.kind) is_filled

    all_items : filled.items ≡ items ++ more_items
    all_items = ap (λ (s : Slots). s.items) is_filled

    then : HoldsBeside g new 2 (chain_of heap) later free × KeepsPages g old new (pages_of (front ++ (heap.last, items) ∷ [])) free (pages_of later) free
    then =
        let put = puts front [] items (subst (λ (k : ℕ). HoldsBeside g old k (chain_of heap) (front ++ (heap.last, items) ∷ []) free) (sym kinds) there)
        (is_filled ∙ λ i. slots (sym kinds i) 0 (sym all_items i)) in (
          subst (λ (k : ℕ). HoldsBeside g new k (chain_of heap) later free) kinds
              (subst (λ (l : List (Option (List ℕ))). HoldsBeside g new filled.kind (chain_of heap) (front ++ (heap.last, l) ∷ []) free) all_items put.0),
          subst (λ (l : List (Option (List ℕ))). KeepsPages g old new (pages_of (front ++ (heap.last, items) ∷ [])) free (pages_of (front ++ (heap.last, l) ∷ [])) free) all_items put.1,
        )

    same_feet : pages_of later ≡ feet_old
    same_feet = pages_end front (heap.last, items ++ more_items) ∙ sym (pages_end front (heap.last, items)) ∙ ap (λ (l : List Link). pages_of l) (sym ends) ∙ sym held.stand

    entries_then : entries_of later ≡ entries_of held.links ++ entries_at heap.last (length items) more_items
    entries_then =
        entries_end front heap.last (items ++ more_items)
        ∙ ap (λ (l : List Entry). entries_of front ++ l) (entries_more heap.last 0 (length items) items more_items (omega arith))
        ∙ sym (append_assoc (entries_of front) (entries_at heap.last 0 items) (entries_at heap.last (length items) more_items))
        ∙ ap (λ (l : List Entry). l ++ entries_at heap.last (length items) more_items) (sym (entries_end front heap.last items) ∙ ap (λ (l : List Link). entries_of l) (sym ends))

    rows_then : stored ++ added ≡ rows_of later
    rows_then =
        ap (λ (l : List Row). l ++ added) held.spelled
        ∙ ap (λ (l : List Row). rows_of held.links ++ l) (sym (rows_back heap.last (length items) heap.next rows fits))
        ∙ sym (map-append row_of (entries_of held.links) (entries_at heap.last (length items) more_items)) ∙ ap (λ (l : List Entry). map row_of l) (sym entries_then)

    positive : 0 < heap.next
    positive = let some = held.held.held.some in let bound = held.held.held.bound in omega (arith, some, bound)

    next_is : longer.next ≡ heap.next + length rows
    next_is = ap (λ (h : Heap). h.next) longer_is

    here : Filled
    here = (
      added,
      record {
        links = later;
        held = held_bound g new 2 (chain_of heap) (chain_of longer) later free (ap (λ (h : Heap). h.first) longer_is) (ap (λ (h : Heap). h.last) longer_is) (omega (arith, next_is)) then.0;
        stand = sym same_feet;
        spelled = rows_then;
        whole = subst (λ (l : List Entry). AllByRecursion (λ (e : Entry). 8 ≤ length e.item) l) (sym entries_then)
            (feet.all_join (λ (e : Entry). 8 ≤ length e.item) (entries_of held.links) (entries_at heap.last (length items) more_items) held.whole (are_whole heap.last (length items) heap.next rows));
        rising = rising_join stored heap.last (length items) heap.next rows held.rising held.numbered;
        numbered = numbers_join stored heap.last (length items) heap.next longer.next rows positive (omega (arith, next_is)) held.numbered;
      },
      subst (λ (l : List ℕ). KeepsPages g old new l free feet_old free) (ap (λ (l : List Link). pages_of l) (sym ends) ∙ sym held.stand)
          (subst (λ (l : List ℕ). KeepsPages g old new (pages_of (front ++ (heap.last, items) ∷ [])) free l free) same_feet then.1),
      are_numbered heap.last (length items) heap.next rows,
    )

  pub filled_last : Filled
  filled_last = let ends = ends_of (g.map old) (g.count old) 2 (chain_of heap) held.links held.held.held in here ends.front ends.items ends.ends
