-- A change of one part of a map leaves the others.
use Rattle.std.proofs.Common.{◌≡◌, ◌≢◌, ℕ, ◌+◌, ◌-◌, ◌<◌, ◌≤◌, List, [], ◌∷◌, ◌++◌, map, sym, ◌∙◌, ap, subst, arith}
use Rattle.std.specs.List.{AllByRecursion, range_with_len}
use Rattle.std.specs.List.Sorted.{IsPermutation}
use Rattle.gx_words.specs.PageMap.{PageMap}
use Rattle.gx_pages.specs.declared.store.Pages.{Ghosts}
use Rattle.gx_pages.specs.Footprints.{IsOutside, KeepsPages, grown}
use Rattle.gx_pages.proofs.Footprints.{hit, times, times-append, times-permutation, none_outside, all_weaker}
use Rattle.gx_chain.specs.Chains.{pages_of}
use Rattle.gx_chain.proofs.Links.{linked_stays}
use Rattle.gx_catalog.specs.Catalogs.{Stores}
use Rattle.gx_catalog.specs.declared.info.TableInfo.{TableInfo}
use Rattle.gx_database.specs.Heaps.{Stored, StoresHeap}
use Rattle.gx_database.specs.Parts.{feet_of, HasParts}
use Rattle.gx_database.proofs.Times.{same_times, all_times, range_hits, range_once, range_join, times_feet, none_hit}

-- Parts that were unchanged are still stored.

pub catalog_stays : (old new : PageMap) (count later : ℕ) (tables : List TableInfo) (feet : List ℕ) → count ≤ later → AllByRecursion (λ page. new page ≡ old page) feet
    → Stores old count tables [] feet → Stores new later tables [] feet
catalog_stays old new count later tables feet more same s = record {
  links = s.links;
  linked = linked_stays old new 3 0 s.links (subst (λ (pages : List ℕ). AllByRecursion (λ page. new page ≡ old page) pages) s.stand same) s.linked;
  first = s.first;
  below = all_weaker (λ (page : ℕ). page < count) (λ (page : ℕ). page < later) feet (λ page here. omega arith) s.below;
  stand = s.stand;
  spelled = s.spelled;
  valid = s.valid;
}

pub heap_stays : (old new : PageMap) (count later : ℕ) (h : Stored) → count ≤ later → AllByRecursion (λ page. new page ≡ old page) h.feet → StoresHeap old count h → StoresHeap new later h
heap_stays old new count later h more same s =
    let held = s.held in
    record {
      links = s.links;
      held = record {
        linked = linked_stays old new 2 0 s.links (subst (λ (pages : List ℕ). AllByRecursion (λ page. new page ≡ old page) pages) s.stand same) held.linked;
        apart = held.apart;
        below = all_weaker (λ (page : ℕ). page < count) (λ (page : ℕ). page < later) (pages_of s.links) (λ page here. omega arith) held.below;
        some = held.some;
        first = held.first;
        last = held.last;
        bound = held.bound;
      };
      stand = s.stand;
      spelled = s.spelled;
      whole = s.whole;
      rising = s.rising;
      numbered = s.numbered;
    }

-- How often a page stands in all parts.

-- once at most, and only if it is below the count
pub stands_once : (all : List ℕ) (count : ℕ) → IsPermutation all (range_with_len 0 count) → (n : ℕ) → times n all ≤ 1
stands_once all count perm n = few (range_once 0 count n) (times-permutation n all (range_with_len 0 count) perm)
  where
    few : times n (range_with_len 0 count) ≤ 1 → times n (range_with_len 0 count) ≡ times n all → times n all ≤ 1
    few a e = omega arith

pub stands_below : (all : List ℕ) (count : ℕ) → IsPermutation all (range_with_len 0 count) → (n : ℕ) → 1 ≤ times n all → n < count
stands_below all count perm n h = let e = times-permutation n all (range_with_len 0 count) perm in let k = range_hits 0 count n (omega arith) in let m = k.1 in omega arith

-- The pages of a part beside the one that changes stay.
untouched : {P : Type 0} (g : Ghosts P) (old new : P) (before free after rest all foot : List ℕ) → KeepsPages g old new before free after rest
    → IsPermutation (0 ∷ all) (range_with_len 0 (g.count old)) → ((n : ℕ) → times n foot + times n (before ++ free) ≤ times n all)
    → AllByRecursion (λ page. g.map new page ≡ g.map old page) foot
untouched g old new before free after rest all foot keeps perm within =
    all_times (λ page. g.map new page ≡ g.map old page) foot (λ n here.
    keeps.others n (nonzero n here) (stands_below (0 ∷ all) (g.count old) perm n (let w = within n in omega arith)) (outside n here))
  where
    nonzero : (n : ℕ) → 1 ≤ times n foot → n ≢ 0
    nonzero n here = none_hit n 0 (let w = within n in let o = stands_once (0 ∷ all) (g.count old) perm n in omega arith)

    outside : (n : ℕ) → 1 ≤ times n foot → IsOutside n (before ++ free)
    outside n here = none_outside n (before ++ free) (let w = within n in let o = stands_once (0 ∷ all) (g.count old) perm n in omega arith)

-- the numbers below the later count
later_pages : (count later n : ℕ) → count ≤ later → times n (range_with_len 0 later) ≡ times n (range_with_len 0 count) + times n (grown count later)
later_pages count later n more =
    let e : count + (later - count) ≡ later = omega arith in
    let z : 0 + count ≡ count = omega arith in
    let j : range_with_len 0 count ++ range_with_len (0 + count) (later - count) ≡ range_with_len 0 (count + (later - count)) = range_join 0 count (later - count) in
    let k : range_with_len 0 count ++ grown count later ≡ range_with_len 0 later = (let P : ℕ → Type 0 = λ m. range_with_len 0 count ++ range_with_len m (later - count) ≡ range_with_len 0 later in
    subst P z (j ∙ ap (λ (m : ℕ). range_with_len 0 m) e)) in
    sym (ap (λ (xs : List ℕ). times n xs) k) ∙ times-append n (range_with_len 0 count) (grown count later)

-- the heaps beside those that change
heaps_stay : {P : Type 0} (g : Ghosts P) (old new : P) (before free after rest all : List ℕ) (heaps : List Stored) → KeepsPages g old new before free after rest
    → IsPermutation (0 ∷ all) (range_with_len 0 (g.count old)) → ((n : ℕ) → times n (feet_of heaps) + times n (before ++ free) ≤ times n all)
    → AllByRecursion (StoresHeap (g.map old) (g.count old)) heaps → AllByRecursion (StoresHeap (g.map new) (g.count new)) heaps
heaps_stay g old new before free after rest all [] keeps perm within h = tt
heaps_stay g old new before free after rest all (x ∷ heaps) keeps perm within h = (
  heap_stays (g.map old) (g.map new) (g.count old) (g.count new) x keeps.grows
      (untouched g old new before free after rest all x.feet keeps perm (λ n. let w = within n in let a = times-append n x.feet (feet_of heaps) in omega arith)) h.0,
  heaps_stay g old new before free after rest all heaps keeps perm (λ n. let w = within n in let a = times-append n x.feet (feet_of heaps) in omega arith) h.1,
)

-- how often a page stands in all parts
all_pages : (n : ℕ) (feet : List ℕ) (front mid back : List Stored) (free : List ℕ)
    → times n (0 ∷ feet ++ feet_of (front ++ mid ++ back) ++ free) ≡ hit n 0 + (times n feet + ((times n (feet_of front) + (times n (feet_of mid) + times n (feet_of back))) + times n free))
all_pages n feet front mid back free =
    let a = times-append n (feet ++ feet_of (front ++ mid ++ back)) free in
    let b = times-append n feet (feet_of (front ++ mid ++ back)) in
    let c = times_feet n (front ++ mid) back in
    let d = times_feet n front mid in omega arith

all_left : {A : Type 0} (Q : A → Type 0) (xs ys : List A) → AllByRecursion Q (xs ++ ys) → AllByRecursion Q xs
all_left Q [] ys h = tt
all_left Q (x ∷ xs) ys h = (h.0, all_left Q xs ys h.1)

all_right : {A : Type 0} (Q : A → Type 0) (xs ys : List A) → AllByRecursion Q (xs ++ ys) → AllByRecursion Q ys
all_right Q [] ys h = h
all_right Q (x ∷ xs) ys h = all_right Q xs ys h.1

all_join : {A : Type 0} (Q : A → Type 0) (xs ys : List A) → AllByRecursion Q xs → AllByRecursion Q ys → AllByRecursion Q (xs ++ ys)
all_join Q [] ys h k = k
all_join Q (x ∷ xs) ys h k = (h.0, all_join Q xs ys h.1 k)

-- Some heaps change, come or go: those beside them, and the catalog, stay.
pub heaps_changed : {P : Type 0} (g : Ghosts P) (old new : P) (tables : List TableInfo) (feet : List ℕ) (front before after back : List Stored) (free rest : List ℕ)
    → HasParts (g.map old) (g.count old) tables feet (front ++ before ++ back) free → KeepsPages g old new (feet_of before) free (feet_of after) rest
    → AllByRecursion (StoresHeap (g.map new) (g.count new)) after → HasParts (g.map new) (g.count new) tables feet (front ++ after ++ back) rest
heaps_changed g old new tables feet front before after back free rest parts keeps stored =
    let all : List ℕ = feet ++ feet_of (front ++ before ++ back) ++ free in
    let Q : Stored → Type 0 = StoresHeap (g.map old) (g.count old) in
    let Q' : Stored → Type 0 = StoresHeap (g.map new) (g.count new) in
    let in_front : AllByRecursion Q front = all_left Q front before (all_left Q (front ++ before) back parts.stored) in
    let in_back : AllByRecursion Q back = all_right Q (front ++ before) back parts.stored in
    record {
      catalog = catalog_stays (g.map old) (g.map new) (g.count old) (g.count new) tables feet keeps.grows
          (untouched g old new (feet_of before) free (feet_of after) rest all feet keeps parts.once (λ n.
          let a = all_pages n feet front before back free in let b = times-append n (feet_of before) free in omega arith)) parts.catalog;
      stored = all_join Q' (front ++ after) back
          (all_join Q' front after
          (heaps_stay g old new (feet_of before) free (feet_of after) rest all front keeps parts.once (λ n.
          let a = all_pages n feet front before back free in let b = times-append n (feet_of before) free in omega arith) in_front)
          stored)
          (heaps_stay g old new (feet_of before) free (feet_of after) rest all back keeps parts.once (λ n.
          let a = all_pages n feet front before back free in let b = times-append n (feet_of before) free in omega arith) in_back);
      frees = keeps.frees;
      once = same_times (0 ∷ feet ++ feet_of (front ++ after ++ back) ++ rest) (range_with_len 0 (g.count new)) (λ n.
          let a = all_pages n feet front before back free in
          let b = all_pages n feet front after back rest in
          let p = times-permutation n (0 ∷ all) (range_with_len 0 (g.count old)) parts.once in
          let k = times-permutation n (feet_of before ++ free ++ grown (g.count old) (g.count new)) (feet_of after ++ rest) keeps.kept in
          let c = times-append n (feet_of before ++ free) (grown (g.count old) (g.count new)) in
          let d = times-append n (feet_of before) free in
          let e = times-append n (feet_of after) rest in
          let l = later_pages (g.count old) (g.count new) n keeps.grows in omega arith);
    }

-- The catalog changes: the heaps stay.
pub catalog_changed : {P : Type 0} (g : Ghosts P) (old new : P) (tables others : List TableInfo) (feet later : List ℕ) (heaps : List Stored) (free rest : List ℕ)
    → HasParts (g.map old) (g.count old) tables feet heaps free → KeepsPages g old new feet free later rest → Stores (g.map new) (g.count new) others [] later
    → HasParts (g.map new) (g.count new) others later heaps rest
catalog_changed g old new tables others feet later heaps free rest parts keeps stores =
    let all : List ℕ = feet ++ feet_of heaps ++ free in
    record {
      catalog = stores;
      stored = heaps_stay g old new feet free later rest all heaps keeps parts.once (λ n.
          let a = times-append n (feet ++ feet_of heaps) free in let b = times-append n feet (feet_of heaps) in let c = times-append n feet free in omega arith) parts.stored;
      frees = keeps.frees;
      once = same_times (0 ∷ later ++ feet_of heaps ++ rest) (range_with_len 0 (g.count new)) (λ n.
          let a = times-append n (feet ++ feet_of heaps) free in
          let b = times-append n feet (feet_of heaps) in
          let c = times-append n (later ++ feet_of heaps) rest in
          let d = times-append n later (feet_of heaps) in
          let p = times-permutation n (0 ∷ all) (range_with_len 0 (g.count old)) parts.once in
          let k = times-permutation n (feet ++ free ++ grown (g.count old) (g.count new)) (later ++ rest) keeps.kept in
          let e = times-append n (feet ++ free) (grown (g.count old) (g.count new)) in
          let f = times-append n feet free in
          let h = times-append n later rest in
          let l = later_pages (g.count old) (g.count new) n keeps.grows in omega arith);
    }
