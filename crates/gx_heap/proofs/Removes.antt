-- Rows of one page are removed.
use Rattle.std.proofs.Common.{◌≡◌, ◌≢◌, ℕ, ◌<◌, ◌≤◌, List, [], ◌∷◌, ◌++◌, length, Option, Some, refl, sym, ◌∙◌, ap, subst, length-append, arith}
use Rattle.std.specs.List.{AllByRecursion}
use Rattle.gx_pages.specs.declared.store.Pages.{Ghosts}
use Rattle.gx_pages.specs.declared.row.RowRef.{RowRef}
use Rattle.gx_pages.specs.Footprints.{KeepsPages}
use Rattle.gx_pages.specs.Frees.{IsApart}
use Rattle.gx_pages.specs.Rows.{IsRising}
use Rattle.gx_slot.specs.Slots.{IsSlotPage, item_at}
use Rattle.gx_chain.specs.declared.entry.Entry.{Entry}
use Rattle.gx_chain.specs.Chains.{Link, HoldsBeside, entries_of, pages_of}
use Rattle.gx_chain.proofs.Links.{mid_sound, pages_mid}
use Rattle.gx_heap.specs.declared.heap.Heap.{Heap}
use Rattle.gx_heap.specs.Heaps.{Row, HoldsHeap, AreRows, Empties, HasNoItem, IsIn, IsRef, chain_of, refs, rows_of, without}
use Rattle.gx_heap.proofs.Entries.{Place, place, one_place, Emptied, emptied, whole_at}
use Rattle.gx_heap.proofs.Rows.{all_without, still_rows}

same_pages : (front : List Link) (page : ℕ) (one other : List (Option (List ℕ))) (back : List Link) → pages_of (front ++ (page, one) ∷ back) ≡ pages_of (front ++ (page, other) ∷ back)
same_pages front page one other back = pages_mid front (page, one) back ∙ sym (pages_mid front (page, other) back)

module _ {P : Type 0} (g : Ghosts P) (old : P) (heap : Heap) (all : List Row) (footprint free : List ℕ) (held : HoldsHeap g old heap all footprint free) where
  -- the page of a row
  module _ (at : RowRef) (is : IsRef at all) where
    pub spot : Place held.links (at, is.0)
    spot = place held.links (at, is.0) (subst (λ (l : List Row). IsIn (at, is.0) l) held.spelled is.1)

    pub held_there : HoldsBeside g old 2 (chain_of heap) (spot.front ++ (at.page, spot.items) ∷ spot.back) free
    held_there = subst (λ (l : List Link). HoldsBeside g old 2 (chain_of heap) l free) spot.cut held.held

    pub page_sound : (at.page ≢ 0 → at.page < g.count old → (bytes : List ℕ) → g.map old at.page ≡ Some bytes → ¬ IsSlotPage bytes 2) → ⊥
    page_sound = mid_sound (g.map old) (g.count old) 2 (chain_of heap) spot.front at.page spot.items spot.back held_there.held

    pub stand_there : footprint ≡ pages_of (spot.front ++ (at.page, spot.items) ∷ spot.back)
    stand_there = held.stand ∙ ap (λ (l : List Link). pages_of l) spot.cut

    pub all_there : all ≡ rows_of (spot.front ++ (at.page, spot.items) ∷ spot.back)
    all_there = held.spelled ∙ ap (λ (l : List Link). rows_of l) spot.cut

    pub rising_there : IsRising (refs (rows_of (spot.front ++ (at.page, spot.items) ∷ spot.back)))
    rising_there = subst (λ (l : List Row). IsRising (refs l)) all_there held.rising

    pub whole_there : AllByRecursion (λ e. 8 ≤ length e.item) (entries_of (spot.front ++ (at.page, spot.items) ∷ spot.back))
    whole_there = subst (λ (l : List Link). AllByRecursion (λ (e : Entry). 8 ≤ length e.item) (entries_of l)) spot.cut held.whole

    then_emptied : (run : List RowRef) (after : List (Option (List ℕ))) → Empties at.page run spot.items after → Emptied spot.front at.page spot.back run spot.items after
    then_emptied run after empties = emptied spot.front at.page spot.back run spot.items after empties rising_there whole_there

    rows_then : (run : List RowRef) (after : List (Option (List ℕ))) → Empties at.page run spot.items after → without run all ≡ rows_of (spot.front ++ (at.page, after) ∷ spot.back)
    rows_then run after empties = ap (λ (l : List Row). without run l) all_there ∙ sym (then_emptied run after empties).rows

    pub removed : (run : List RowRef) (after : List (Option (List ℕ))) (new : P) → Empties at.page run spot.items after
        → HoldsBeside g new 2 (chain_of heap) (spot.front ++ (at.page, after) ∷ spot.back) free
        → KeepsPages g old new (pages_of (spot.front ++ (at.page, spot.items) ∷ spot.back)) free (pages_of (spot.front ++ (at.page, after) ∷ spot.back)) free
        → HoldsHeap g new heap (without run all) footprint free × KeepsPages g old new footprint free footprint free
    removed run after new empties then keeps =
        let stand : footprint ≡ pages_of (spot.front ++ (at.page, after) ∷ spot.back) = stand_there ∙ same_pages spot.front at.page spot.items after spot.back in
        let done = then_emptied run after empties in
        let spelled = rows_then run after empties in (
          record {
            links = spot.front ++ (at.page, after) ∷ spot.back;
            held = then;
            stand = stand;
            spelled = spelled;
            whole = done.whole;
            rising = subst (λ (l : List Row). IsRising (refs l)) (sym spelled) done.rising;
            numbered = all_without (λ (r : RowRef). (0 < r.number) × (r.number < heap.next)) run all held.numbered;
          },
          subst (λ (l : List ℕ). KeepsPages g old new l free footprint free) (sym stand_there)
              (subst (λ (l : List ℕ). KeepsPages g old new (pages_of (spot.front ++ (at.page, spot.items) ∷ spot.back)) free l free) (sym stand) keeps),
        )

    -- no row is missed
    pub none_missed : (run more : List RowRef) (next : RowRef) (items : List (Option (List ℕ))) → IsRising (run ++ next ∷ more) → AreRows (next ∷ more) all → next.page ≡ at.page
        → Empties at.page run spot.items items → HasNoItem items next → ⊥
    none_missed run more next items rising are same empties none =
        let still = (still_rows run (next ∷ more) all rising are).0 in
        let there = place (spot.front ++ (at.page, items) ∷ spot.back) (next, still.0) (subst (λ (l : List Row). IsIn (next, still.0) l) (rows_then run items empties) still.1) in
        let on = subst (λ (n : ℕ). spot.front ++ (at.page, items) ∷ spot.back ≡ there.front ++ (n, there.items) ∷ there.back) same there.cut in
        let apart : IsApart (pages_of (spot.front ++ (at.page, items) ∷ spot.back)) =
        subst (λ (l : List ℕ). IsApart l) (same_pages spot.front at.page spot.items items spot.back) held_there.held.apart in
        let slots_are : items ≡ there.items = one_place spot.front there.front at.page items there.items spot.back there.back apart on in
        let is : item_at items next.slot ≡ Some there.item = ap (λ (l : List (Option (List ℕ))). item_at l next.slot) slots_are ∙ there.there in
        none there.item is (whole_at spot.front at.page next.slot spot.back items there.item is (then_emptied run items empties).whole) there.number

-- fewer rows are left
pub fewer : (rows rest run : List RowRef) (first : RowRef) (more : List RowRef) → rows ≡ run ++ rest → rows ≡ first ∷ more
    → ((at : RowRef) (others : List RowRef) → rest ≡ at ∷ others → at.page ≢ first.page) → length rest < length rows
fewer rows rest [] first more cut begins stops = absurd (stops first more (sym cut ∙ begins) refl)
fewer rows rest (at ∷ run) first more cut begins stops = let long = ap (λ (l : List RowRef). length l) cut in omega (arith, long, length-append (at ∷ run) rest)
