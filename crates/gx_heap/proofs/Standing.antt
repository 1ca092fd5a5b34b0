-- A heap stands where another structure was changed.
use Rattle.std.proofs.Common.{◌≡◌, ◌≢◌, ℕ, ◌<◌, List, [], ◌∷◌, ◌++◌, length, ◌∙◌, sym, ap, arith}
use Rattle.std.specs.List.{AllByRecursion}
use Rattle.gx_pages.specs.declared.store.Pages.{Ghosts}
use Rattle.gx_pages.specs.Frees.{IsApart}
use Rattle.gx_pages.specs.Footprints.{IsOutside, KeepsPages, grown}
use Rattle.gx_pages.proofs.Footprints as feet
use Rattle.gx_chain.specs.declared.chain.Chain.{Chain}
use Rattle.gx_chain.specs.Chains.{HoldsBeside, Link, first_of, pages_of}
use Rattle.gx_chain.proofs.Links.{each_left, ends_of, linked_some, linked_stays, pages_end}
use Rattle.gx_heap.specs.declared.heap.Heap.{Heap}
use Rattle.gx_heap.specs.Heaps.{Row, HoldsHeap, chain_of}

module _ {P : Type 0} (g : Ghosts P) (old new : P) (before free after rest : List ℕ) (kept : KeepsPages g old new before free after rest) where
  each_same : (pages : List ℕ) → AllByRecursion (λ page. page ≢ 0) pages → AllByRecursion (λ page. page < g.count old) pages → AllByRecursion (λ page. IsOutside page before) pages
      → AllByRecursion (λ page. IsOutside page free) pages → AllByRecursion (λ page. g.map new page ≡ g.map old page) pages
  each_same [] some below out unfree = tt
  each_same (page ∷ pages) some below out unfree = (
    kept.others page some.0 below.0 (feet.all_join (λ (other : ℕ). page ≢ other) before free out.0 unfree.0),
    each_same pages some.1 below.1 out.1 unfree.1,
  )

  still_apart : (pages : List ℕ) → IsApart (before ++ pages) → IsApart (pages ++ free) → AllByRecursion (λ page. page < g.count old) pages → IsApart (pages ++ rest)
  still_apart pages apart beside below =
      let more = grown (g.count old) (g.count new) in
      let grows = feet.apart_grown pages (g.count old) (g.count new) (feet.apart_left pages free beside) below in
      feet.once_apart (pages ++ rest) (λ n. omega (
        arith,
        feet.times-append n pages rest,
        feet.times-append n before pages,
        feet.times-append n pages free,
        feet.times-append n pages more,
        feet.times-append n (before ++ free) more,
        feet.times-append n before free,
        feet.times-append n after rest,
        feet.times-permutation n (before ++ free ++ more) (after ++ rest) kept.kept,
        feet.apart_once (before ++ pages) apart n,
        feet.apart_once (pages ++ free) beside n,
        feet.apart_once (pages ++ more) grows n,
        feet.apart_once rest kept.frees.apart n,
      ))

  chain_stays : (kind : ℕ) (chain : Chain) (links : List Link) → HoldsBeside g old kind chain links free → IsApart (before ++ pages_of links) → HoldsBeside g new kind chain links rest
  chain_stays kind chain links held apart = record {
    held = record {
      linked = linked_stays (g.map old) (g.map new) kind 0 links
          (each_same (pages_of links) (linked_some (g.map old) kind 0 links held.held.linked) held.held.below (feet.apart_each before (pages_of links) apart) (each_left (pages_of links) free held.apart))
          held.held.linked;
      apart = held.held.apart;
      below = feet.all_weaker (λ (page : ℕ). page < g.count old) (λ (page : ℕ). page < g.count new) (pages_of links) (λ page below. let grows = kept.grows in omega (arith, below, grows)) held.held.below;
      some = held.held.some;
      first = held.held.first;
      last = held.held.last;
      bound = held.held.bound;
    };
    frees = kept.frees;
    apart = still_apart (pages_of links) apart held.apart held.held.below;
  }

  pub heap_stays : (heap : Heap) (rows : List Row) (footprint : List ℕ) → HoldsHeap g old heap rows footprint free → IsApart (before ++ footprint) → HoldsHeap g new heap rows footprint rest
  heap_stays heap rows footprint held apart = record {
    links = held.links;
    held = chain_stays 2 (chain_of heap) held.links held.held (subst_feet (pages_of held.links) held.stand apart);
    stand = held.stand;
    spelled = held.spelled;
    whole = held.whole;
    rising = held.rising;
    numbered = held.numbered;
  }
    where
      subst_feet : (pages : List ℕ) → footprint ≡ pages → IsApart (before ++ footprint) → IsApart (before ++ pages)
      subst_feet pages same is = rw (← same) is

-- the first and the last page
first_link : (links : List Link) → 0 < length links → (back : List ℕ) × (pages_of links ≡ first_of links ∷ back)
first_link [] some = absurd (omega (arith, some))
first_link (link ∷ links) some = (pages_of links, λ i. link.0 ∷ pages_of links)

module _ {P : Type 0} (g : Ghosts P) (pages : P) (heap : Heap) (rows : List Row) (footprint free : List ℕ) (held : HoldsHeap g pages heap rows footprint free) where
  pub first_foot : (back : List ℕ) × (footprint ≡ heap.first ∷ back)
  first_foot =
      let first = first_link held.links held.held.held.some in
      (first.0, held.stand ∙ first.1 ∙ ap (λ (n : ℕ). n ∷ first.0) (sym held.held.held.first))

  pub last_foot : (front : List ℕ) × (footprint ≡ front ++ heap.last ∷ [])
  last_foot =
      let ends = ends_of (g.map pages) (g.count pages) 2 (chain_of heap) held.links held.held.held in
      (pages_of ends.front, held.stand ∙ ap (λ (l : List Link). pages_of l) ends.ends ∙ pages_end ends.front (heap.last, ends.items))
