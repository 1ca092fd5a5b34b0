-- A heap in a map of pages, whatever holds the map.
use Rattle.std.specs.Prelude.{◌≡◌, ℕ, ◌<◌, ◌≤◌, List, length}
use Rattle.std.specs.List.{AllByRecursion}
use Rattle.gx_words.specs.PageMap.{PageMap}
use Rattle.gx_pages.specs.Rows.{IsRising}
use Rattle.gx_chain.specs.Chains.{Link, Holds, entries_of, pages_of}
use Rattle.gx_heap.specs.declared.heap.Heap.{Heap}
use Rattle.gx_heap.specs.Heaps.{Row, chain_of, rows_of, refs}

-- a heap, its rows, and the pages that it stands on
pub record Stored : Type 0 where
  pub heap : Heap
  pub rows : List Row
  pub feet : List ℕ

-- The map stores the heap with these rows, by rising numbers from 1 to below the next one, on these pages in the order of its chain.
pub record StoresHeap (pages : PageMap) (count : ℕ) (stored : Stored) : Type 0 where
  pub links : List Link
  pub held : Holds pages count 2 (chain_of stored.heap) links
  pub stand : stored.feet ≡ pages_of links
  pub spelled : stored.rows ≡ rows_of links
  pub whole : AllByRecursion (λ entry. 8 ≤ length entry.item) (entries_of links)
  pub rising : IsRising (refs stored.rows)
  pub numbered : AllByRecursion (λ row. (0 < row.number) × (row.number < stored.heap.next)) (refs stored.rows)
