-- The parts of a map as the structures that an object of pages holds.
use Rattle.std.proofs.Common.{◌≡◌, ◌≢◌, ℕ, ◌+◌, ◌^◌, ◌<◌, ◌≤◌, List, [], ◌∷◌, ◌++◌, Option, sym, ◌∙◌, subst, arith}
use Rattle.std.specs.Prelude.{IfSome}
use Rattle.std.specs.List.{AllByRecursion}
use Rattle.gx_bytes.specs.Fields.{le64-same}
use Rattle.gx_words.specs.PageMap.{PageMap}
use Rattle.gx_pages.specs.declared.store.Pages.{Ghosts}
use Rattle.gx_pages.specs.Frees.{IsApart, HasCount, KeepsHeader}
use Rattle.gx_pages.proofs.Footprints.{times-append, once_apart}
use Rattle.gx_heap.specs.declared.heap.Heap.{Heap}
use Rattle.gx_heap.specs.Heaps.{Row, HoldsHeap}
use Rattle.gx_catalog.specs.Catalogs.{Directory, HoldsCatalog, Stores, chain_on}
use Rattle.gx_catalog.specs.declared.info.IndexInfo.{IndexInfo}
use Rattle.gx_catalog.specs.declared.info.TableInfo.{TableInfo}
use Rattle.gx_database.specs.Heaps.{Stored, StoresHeap}
use Rattle.gx_database.specs.Parts.{feet_of, HasParts}
use Rattle.gx_database.specs.Standing.{HasHeader}
use Rattle.gx_database.proofs.Changes.{stands_once}
use Rattle.gx_database.proofs.Times.{times_feet}

pub catalog_held : {P : Type 0} (g : Ghosts P) (pages : P) (catalog : Directory) (tables : List TableInfo) (feet : List ℕ) (heaps : List Stored) (free : List ℕ)
    → HasParts (g.map pages) (g.count pages) tables feet heaps free → catalog.tables ≡ tables → catalog.indexes ≡ [] → catalog.chain ≡ chain_on feet → HoldsCatalog g pages catalog feet free
catalog_held g pages catalog tables feet heaps free parts t i c =
    let first : Stores (g.map pages) (g.count pages) catalog.tables [] feet = subst (λ (ts : List TableInfo). Stores (g.map pages) (g.count pages) ts [] feet) (sym t) parts.catalog in
    record {
      stored = subst (λ (is : List IndexInfo). Stores (g.map pages) (g.count pages) catalog.tables is feet) (sym i) first;
      chain = c;
      frees = parts.frees;
      apart = once_apart (feet ++ free) (λ n.
          let o = stands_once (0 ∷ feet ++ feet_of heaps ++ free) (g.count pages) parts.once n in
          let a = times-append n (feet ++ feet_of heaps) free in let b = times-append n feet (feet_of heaps) in let d = times-append n feet free in omega arith);
    }

pub heap_held : {P : Type 0} (g : Ghosts P) (pages : P) (tables : List TableInfo) (feet : List ℕ) (front : List Stored) (h : Stored) (back : List Stored) (free : List ℕ)
    → HasParts (g.map pages) (g.count pages) tables feet (front ++ h ∷ back) free → HoldsHeap g pages h.heap h.rows h.feet free
heap_held g pages tables feet front h back free parts =
    let s = at_place front h back parts.stored in
    let apart : IsApart (h.feet ++ free) = once_apart (h.feet ++ free) (λ n.
    let o = stands_once (0 ∷ feet ++ feet_of (front ++ h ∷ back) ++ free) (g.count pages) parts.once n in
    let a = times-append n (feet ++ feet_of (front ++ h ∷ back)) free in let b = times-append n feet (feet_of (front ++ h ∷ back)) in
    let c = times_feet n front (h ∷ back) in let d = times-append n h.feet (feet_of back) in let e = times-append n h.feet free in omega arith) in
    record {
      links = s.links;
      held = record { held = s.held; frees = parts.frees; apart = subst (λ (xs : List ℕ). IsApart (xs ++ free)) s.stand apart };
      stand = s.stand;
      spelled = s.spelled;
      whole = s.whole;
      rising = s.rising;
      numbered = s.numbered;
    }
  where
    at_place : (xs : List Stored) (y : Stored) (ys : List Stored) → AllByRecursion (StoresHeap (g.map pages) (g.count pages)) (xs ++ y ∷ ys) → StoresHeap (g.map pages) (g.count pages) y
    at_place [] y ys k = k.0
    at_place (x ∷ xs) y ys k = at_place xs y ys k.1

pub heap_stored : {P : Type 0} (g : Ghosts P) (pages : P) (heap : Heap) (rows : List Row) (feet free : List ℕ) → HoldsHeap g pages heap rows feet free
    → StoresHeap (g.map pages) (g.count pages) (record { heap = heap; rows = rows; feet = feet })
heap_stored g pages heap rows feet free h =
    record { links = h.links; held = h.held.held; stand = h.stand; spelled = h.spelled; whole = h.whole; rising = h.rising; numbered = h.numbered }

-- the count in a header is the count of the pages
same_header : (header : List ℕ) (a b : ℕ) → HasCount header a → HasCount header b → a ≤ 2 ^ 50 → b ≤ 2 ^ 50 → a ≡ b
same_header header a b h k m n = le64-same a b (omega arith) (omega arith) (sym h ∙ k)

pub one_count : (pages : PageMap) (count other : ℕ) → HasHeader pages count → IfSome (pages 0) (λ header. HasCount header other) → other ≤ 2 ^ 50 → count ≡ other
one_count pages count other h k m =
    let c : HasCount h.header other = (let P : Option (List ℕ) → Type 0 = λ o. IfSome o (λ header. HasCount header other) in subst P h.at_zero k) in
    same_header h.header count other h.counted c h.most m

-- the header of a map that keeps it
pub header_stays : (old new : PageMap) (count later : ℕ) → HasHeader old count → KeepsHeader old new → IfSome (new 0) (λ header. HasCount header later) → 2 ≤ later → later ≤ 2 ^ 50 → HasHeader new later
header_stays old new count later h keeps counted least most =
    let k = keeps h.header h.at_zero in
    record {
      header = k.0;
      at_zero = k.1;
      mark = k.3 ∙ h.mark;
      counted = (let P : Option (List ℕ) → Type 0 = λ o. IfSome o (λ header. HasCount header later) in subst P k.1 counted);
      rest = k.4 ∙ h.rest;
      least = least;
      most = most;
    }
