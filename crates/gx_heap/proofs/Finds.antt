-- A row is read from its page.
use Rattle.std.proofs.Common.{◌≡◌, ◌≤◌, ℕ, List, length, take, drop, Some, ◌∙◌, ap, subst}
use Rattle.gx_bytes.specs.Fields.{of64}
use Rattle.gx_pages.specs.declared.store.Pages.{Ghosts}
use Rattle.gx_pages.specs.declared.row.RowRef.{RowRef}
use Rattle.gx_slot.specs.Slots.{Slots, Fits, item_at, spelling}
use Rattle.gx_chain.specs.Chains.{AreLinked, Link, first_of, slots}
use Rattle.gx_chain.proofs.Links.{held_same, linked_mid, one_spelled}
use Rattle.gx_heap.specs.declared.heap.Heap.{Heap}
use Rattle.gx_heap.specs.Heaps.{Row, HoldsHeap, IsIn, chain_of}
use Rattle.gx_heap.proofs.Entries.{whole_at}
use Rattle.gx_heap.proofs.Removes.{spot, whole_there}

-- the item of a row on its page
pub record Found (page : Slots) (at : RowRef) (bytes : List ℕ) : Type 0 where
  pub item : List ℕ
  pub there : item_at page.items at.slot ≡ Some item
  pub number : of64 (take 8 item) ≡ at.number
  pub bytes_are : drop 8 item ≡ bytes
  pub long : 8 ≤ length item

module _ {P : Type 0} (g : Ghosts P) (pages : P) (heap : Heap) (rows : List Row) (feet free : List ℕ) (held : HoldsHeap g pages heap rows feet free) where
  pub row_found : (at : RowRef) (bytes : List ℕ) → IsIn (at, bytes) rows → (page : Slots) → Fits page → g.map pages at.page ≡ Some (spelling page) → Found page at bytes
  row_found at bytes is page fits read =
      let there = spot g pages heap rows feet free held at (bytes, is) in
      let link = (linked_mid (g.map pages) 2 there.front (at.page, there.items) there.back (subst (λ (l : List Link). AreLinked (g.map pages) 2 l) there.cut held.held.held.linked)).0 in
      let same : page ≡ slots 2 (first_of there.back) there.items = one_spelled (g.map pages at.page) page (slots 2 (first_of there.back) there.items) read fits link.is link.fits in
      record {
        item = there.item;
        there = ap (λ (s : Slots). item_at s.items at.slot) same ∙ there.there;
        number = there.number;
        bytes_are = there.bytes;
        long = whole_at there.front at.page at.slot there.back there.items there.item there.there (whole_there g pages heap rows feet free held at (bytes, is));
      }

-- where nothing was changed, the heap is held as before
pub heap_same : {P : Type 0} (g : Ghosts P) (old new : P) (heap : Heap) (rows : List Row) (feet free : List ℕ) → g.map new ≡ g.map old → g.count new ≡ g.count old
    → HoldsHeap g old heap rows feet free → HoldsHeap g new heap rows feet free
heap_same g old new heap rows feet free map count held = record {
  links = held.links;
  held = held_same g old new 2 (chain_of heap) held.links free map count held.held;
  stand = held.stand;
  spelled = held.spelled;
  whole = held.whole;
  rising = held.rising;
  numbered = held.numbered;
}
