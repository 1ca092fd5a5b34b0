-- A heap: a list of rows by rising numbers, each in a slot of one of its pages.
use Rattle.std.specs.Prelude.{◌≡◌, ◌≢◌, ◌⊎◌, ℕ, ◌+◌, ◌<◌, ◌≤◌, ◌==◌, ◌||◌, Bool, false, if◌then◌else◌, not, slice_set, List, [], ◌∷◌, ◌++◌, length, map, take, drop, Option, Some, None}
use Rattle.std.specs.List.{AllByRecursion, filter, flat_map}
use Rattle.gx_bytes.specs.Fields.{of64}
use Rattle.gx_pages.specs.declared.store.Pages.{Ghosts}
use Rattle.gx_pages.specs.declared.row.RowRef.{RowRef}
use Rattle.gx_pages.specs.Rows.{IsRising}
use Rattle.gx_words.specs.PageMap.{PageMap}
use Rattle.gx_slot.specs.Slots.{Fits, item_at, spelling, taken}
use Rattle.gx_chain.specs.declared.chain.Chain.{Chain}
use Rattle.gx_chain.specs.declared.entry.Entry.{Entry}
use Rattle.gx_chain.specs.Chains.{Link, HoldsBeside, entries_at, entries_of, pages_of, slots}
use Rattle.gx_heap.specs.declared.heap.Heap.{Heap}

-- where a row stands, and its bytes
abbrev pub Row : Type 0
Row = RowRef × List ℕ

abbrev pub refs : List Row → List RowRef
refs rows = map (λ row. row.0) rows

-- An item of a heap is the row's number in eight bytes, and the row.
abbrev pub row_of : Entry → Row
row_of entry = (record { number = of64 (take 8 entry.item); page = entry.page; slot = entry.slot }, drop 8 entry.item)

abbrev pub rows_of : List Link → List Row
rows_of links = map row_of (entries_of links)

-- the heap's chain: it has no more pages than its next row number
abbrev pub chain_of : Heap → Chain
chain_of heap = record { first = heap.first; last = heap.last; pages = heap.next }

-- The pages hold the heap with these rows, by rising numbers from 1 to below the next one, on these pages in the order of
-- the chain, and beside it these free pages.
pub record HoldsHeap {P : Type 0} (g : Ghosts P) (pages : P) (heap : Heap) (rows : List Row) (feet free : List ℕ) : Type 0 where
  pub links : List Link
  pub held : HoldsBeside g pages 2 (chain_of heap) links free
  pub stand : feet ≡ pages_of links
  pub spelled : rows ≡ rows_of links
  pub whole : AllByRecursion (λ entry. 8 ≤ length entry.item) (entries_of links)
  pub rising : IsRising (refs rows)
  pub numbered : AllByRecursion (λ row. (0 < row.number) × (row.number < heap.next)) (refs rows)

-- The pages hold no such heap, or no free pages beside it.
abbrev pub HoldsNoHeap : {P : Type 0} → Ghosts P → P → Heap → Type 0
HoldsNoHeap g pages heap = (rows : List Row) (feet free : List ℕ) → HoldsHeap g pages heap rows feet free → ⊥

-- the row is one of these
abbrev pub IsIn : Row → List Row → Type 0
IsIn row [] = ⊥
IsIn row (other ∷ rows) = (other ≡ row) ⊎ IsIn row rows

-- a row of these stands there
abbrev pub IsRef : RowRef → List Row → Type 0
IsRef at rows = (bytes : List ℕ) × IsIn (at, bytes) rows

-- the first of these pages, or 0
abbrev pub first_page : List ℕ → ℕ
first_page [] = 0
first_page (page ∷ pages) = page

-- the rows on a page, and on some pages
abbrev pub rows_on : ℕ → List Row → List Row
rows_on page rows = filter (λ row. row.0.page == page) rows

abbrev pub rows_in : List ℕ → List Row → List Row
rows_in pages rows = flat_map (λ page. rows_on page rows) pages

-- the rows without those that have the number of one of these
abbrev pub without : List RowRef → List Row → List Row
without [] rows = rows
without (gone ∷ more) rows = without more (filter (λ row. not (row.0.number == gone.number)) rows)

-- each of these is a row of the heap
abbrev pub AreRows : List RowRef → List Row → Type 0
AreRows refs rows = AllByRecursion (λ at. IsRef at rows) refs

-- how often the page changes from row to row, where the page before them was this one
abbrev pub turns : ℕ → List RowRef → ℕ
turns page [] = 0
turns page (row ∷ rows) = if row.page == page then turns page rows else 1 + turns row.page rows

-- how many runs of rows on one page there are
abbrev pub runs : List RowRef → ℕ
runs [] = 0
runs (row ∷ rows) = 1 + turns row.page rows

-- a row of these stands on the page
abbrev pub is_on : ℕ → List RowRef → Bool
is_on page [] = false
is_on page (row ∷ rows) = (row.page == page) || is_on page rows

-- The heap's last page has room for one more row: 4 bytes in the table, 8 for its number, and its own.
abbrev pub HasRoomFor : PageMap → Heap → List ℕ → Type 0
HasRoomFor map heap row =
    (items : List (Option (List ℕ))) × (map heap.last ≡ Some (spelling (slots 2 0 items))) × Fits (slots 2 0 items) × (taken items + (12 + length row) ≤ 8176)

-- One more row stands on the last page where that has room for it, else on a new page behind the others.
abbrev pub StandsBehind : PageMap → Heap → List ℕ → ℕ → List ℕ → List ℕ → Type 0
StandsBehind map heap row page feet later =
    (HasRoomFor map heap row × (page ≡ heap.last) × (later ≡ feet)) ⊎ ((¬ HasRoomFor map heap row) × (later ≡ feet ++ page ∷ []))

-- a row stands on the page
abbrev pub HasRow : List Row → ℕ → Type 0
HasRow rows page = (at : RowRef) × IsRef at rows × (at.page ≡ page)

-- each page but the last has a row
abbrev pub AreUsed : List ℕ → List Row → Type 0
AreUsed feet rows = (front : List ℕ) (last : ℕ) → feet ≡ front ++ last ∷ [] → AllByRecursion (HasRow rows) front

-- No item of this number stands in the slot.
abbrev pub HasNoItem : List (Option (List ℕ)) → RowRef → Type 0
HasNoItem items at = (item : List ℕ) → item_at items at.slot ≡ Some item → 8 ≤ length item → of64 (take 8 item) ≢ at.number

-- The slots of these rows on a page, which hold items with their numbers, were emptied one after another.
abbrev pub Empties : ℕ → List RowRef → List (Option (List ℕ)) → List (Option (List ℕ)) → Type 0
Empties page [] old new = new ≡ old
Empties page (at ∷ more) old new =
    (at.page ≡ page) × ((item : List ℕ) × (item_at old at.slot ≡ Some item) × (of64 (take 8 item) ≡ at.number)) × Empties page more (slice_set old at.slot None) new

-- an item stands on the page
abbrev pub IsFilled : Link → Type 0
IsFilled link = entries_at link.0 0 link.1 ≢ []

-- each page but the last one is filled
abbrev pub AreFilled : List Link → Type 0
AreFilled [] = Unit {0}
AreFilled (link ∷ []) = Unit {0}
AreFilled (link ∷ next ∷ links) = IsFilled link × AreFilled (next ∷ links)
