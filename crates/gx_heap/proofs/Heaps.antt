-- A heap on its pages: a row is added, rows are removed.
use Rattle.std.proofs.Common.{◌≡◌, ℕ, ◌+◌, ◌^◌, ◌<◌, ◌≤◌, zero, suc, List, [], ◌∷◌, ◌++◌, length, map, take, drop, refl, sym, ◌∙◌, ap, subst, length-append, arith}
use Rattle.std.specs.List.{AllByRecursion}
use Rattle.std.proofs.lemmas.List.{map-append}
use Rattle.gx_bytes.specs.Fields.{le64, of64, length-le64, of64-le64}
use Rattle.gx_pages.specs.declared.store.Pages.{Ghosts}
use Rattle.gx_pages.specs.declared.row.RowRef.{RowRef}
use Rattle.gx_pages.specs.Footprints.{KeepsPages}
use Rattle.gx_pages.specs.Rows.{IsRising}
use Rattle.gx_pages.proofs.Footprints as feet
use Rattle.gx_chain.specs.declared.chain.Chain.{Chain}
use Rattle.gx_chain.specs.declared.entry.Entry.{Entry}
use Rattle.gx_chain.specs.Chains.{Link, HoldsBeside, entries_of, pages_of}
use Rattle.gx_heap.specs.declared.heap.Heap.{Heap}
use Rattle.gx_heap.specs.Heaps.{Row, HoldsHeap, chain_of, refs, row_of, rows_of}

-- a greater bound of the number of pages
pub held_bound : {P : Type 0} (g : Ghosts P) (pages : P) (kind : ℕ) (chain other : Chain) (links : List Link) (free : List ℕ) → other.first ≡ chain.first → other.last ≡ chain.last → chain.pages ≤ other.pages
    → HoldsBeside g pages kind chain links free → HoldsBeside g pages kind other links free
held_bound g pages kind chain other links free first last more held = record {
  held = record {
    linked = held.held.linked;
    apart = held.held.apart;
    below = held.held.below;
    some = held.held.some;
    first = first ∙ held.held.first;
    last = last ∙ held.held.last;
    bound = (let bound = held.held.bound in omega (arith, bound, more));
  };
  frees = held.frees;
  apart = held.apart;
}

-- one more number above all others
rising_more : (rows : List Row) (at : Row) → IsRising (refs rows) → AllByRecursion (λ other. other.number < at.0.number) (refs rows) → IsRising (refs (rows ++ at ∷ []))
rising_more [] at rising below = (tt, tt)
rising_more (row ∷ rows) at rising below = (behind rows rising.0, rising_more rows at rising.1 below.1)
  where
    behind : (rows : List Row) → AllByRecursion (λ other. row.0.number < other.number) (refs rows) → AllByRecursion (λ other. row.0.number < other.number) (refs (rows ++ at ∷ []))
    behind [] all = (below.0, tt)
    behind (next ∷ rows) all = (all.0, behind rows all.1)

head_of : (n k : ℕ) (head row : List ℕ) → length head ≡ k → take k (head ++ row) ≡ head
head_of n k head row len = grow k head len
  where
    grow : (k : ℕ) (head : List ℕ) → length head ≡ k → take k (head ++ row) ≡ head
    grow k [] len = let none : k ≡ 0 = omega (arith, len) in rw none refl
    grow zero (x ∷ head) len = absurd (omega (arith, len))
    grow (suc k) (x ∷ head) len = ap (λ (l : List ℕ). x ∷ l) (grow k head (omega (arith, len)))

tail_of : (k : ℕ) (head row : List ℕ) → length head ≡ k → drop k (head ++ row) ≡ row
tail_of k [] row len = let none : k ≡ 0 = omega (arith, len) in rw none refl
tail_of zero (x ∷ head) row len = absurd (omega (arith, len))
tail_of (suc k) (x ∷ head) row len = tail_of k head row (omega (arith, len))

-- the row of a spelled item
row_back : (page slot number : ℕ) (item row : List ℕ) → number < 2 ^ 64 → item ≡ le64 number ++ row
    → row_of (record { page = page; slot = slot; item = item }) ≡ (record { number = number; page = page; slot = slot }, row)
row_back page slot number item row fits is =
    let first : of64 (take 8 item) ≡ number = ap (λ (l : List ℕ). of64 (take 8 l)) is ∙ ap (λ (l : List ℕ). of64 l) (head_of number 8 (le64 number) row (length-le64 number)) ∙ of64-le64 number fits in
    let rest : drop 8 item ≡ row = ap (λ (l : List ℕ). drop 8 l) is ∙ tail_of 8 (le64 number) row (length-le64 number) in
    λ i. (record { number = first i; page = page; slot = slot }, rest i)

numbers_more : (rows : List RowRef) (next later : ℕ) → next ≤ later → AllByRecursion (λ row. (0 < row.number) × (row.number < next)) rows → AllByRecursion (λ row. (0 < row.number) × (row.number < later)) rows
numbers_more rows next later more all = feet.all_weaker (λ (row : RowRef). (0 < row.number) × (row.number < next)) (λ (row : RowRef). (0 < row.number) × (row.number < later)) rows
    (λ row here. (here.0, let below = here.1 in omega (arith, below, more))) all

-- a row was added
module _ {P : Type 0} (g : Ghosts P) (old new : P) (heap longer : Heap) (page slot : ℕ) (item row : List ℕ) (rows : List Row) (feet_old free : List ℕ)
    (held : HoldsHeap g old heap rows feet_old free) (fits : heap.next < 2 ^ 64) (is : item ≡ le64 heap.next ++ row) (next : longer.next ≡ heap.next + 1) where
  pub grown_heap : (later : List Link) (rest : List ℕ) → HoldsBeside g new 2 (chain_of longer) later rest
      → entries_of later ≡ entries_of held.links ++ record { page = page; slot = slot; item = item } ∷ []
      → KeepsPages g old new (pages_of held.links) free (pages_of later) rest
      → HoldsHeap g new longer (rows ++ (record { number = heap.next; page = page; slot = slot }, row) ∷ []) (pages_of later) rest × KeepsPages g old new feet_old free (pages_of later) rest
  grown_heap later rest then more keeps =
      let at : Row = (record { number = heap.next; page = page; slot = slot }, row) in
      let spelled : rows ++ at ∷ [] ≡ rows_of later =
      ap (λ (l : List Row). l ++ at ∷ []) held.spelled
      ∙ ap (λ (r : Row). rows_of held.links ++ r ∷ []) (sym (row_back page slot heap.next item row fits is))
      ∙ sym (map-append row_of (entries_of held.links) (record { page = page; slot = slot; item = item } ∷ [])) ∙ ap (λ (l : List Entry). map row_of l) (sym more) in
      let refs_more : refs (rows ++ at ∷ []) ≡ refs rows ++ at.0 ∷ [] = map-append (λ (r : Row). r.0) rows (at ∷ []) in (
        record {
          links = later;
          held = then;
          stand = refl;
          spelled = spelled;
          whole = subst (λ (l : List Entry). AllByRecursion (λ (e : Entry). 8 ≤ length e.item) l) (sym more)
              (feet.all_join (λ (e : Entry). 8 ≤ length e.item) (entries_of held.links) (record { page = page; slot = slot; item = item } ∷ []) held.whole
              ((let long = ap (λ (l : List ℕ). length l) is in omega (arith, long, length-append (le64 heap.next) row, length-le64 heap.next)), tt));
          rising = rising_more rows at held.rising (feet.all_weaker (λ (r : RowRef). (0 < r.number) × (r.number < heap.next)) (λ (r : RowRef). r.number < heap.next) (refs rows) (λ r here. here.1) held.numbered);
          numbered = subst (λ (l : List RowRef). AllByRecursion (λ (r : RowRef). (0 < r.number) × (r.number < longer.next)) l) (sym refs_more)
              (feet.all_join (λ (r : RowRef). (0 < r.number) × (r.number < longer.next)) (refs rows) (at.0 ∷ []) (numbers_more (refs rows) heap.next longer.next (omega (arith, next)) held.numbered)
              ((positive, omega (arith, next)), tt));
        },
        subst (λ (l : List ℕ). KeepsPages g old new l free (pages_of later) rest) (sym held.stand) keeps,
      )
    where
      positive : 0 < heap.next
      positive = let some = held.held.held.some in let bound = held.held.held.bound in omega (arith, some, bound)
