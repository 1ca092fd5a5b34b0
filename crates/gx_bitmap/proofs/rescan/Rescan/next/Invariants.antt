use Rattle.std.proofs.Common.{◌≡◌, ℕ, ◌+◌, ◌≤◌, List, ◌++◌, filter, length}
use Rattle.gx_pages.specs.declared.row.RowRef.{RowRef}
use Rattle.gx_pages.specs.Footprints.{StaysQuiet}
use Rattle.gx_heap.specs.Heaps.{Row, HoldsHeap, turns}
use Rattle.gx_bitmap.specs.Scans.{AreCandidates, IsKept, kept_page}
use Rattle.gx_bitmap.proofs.rescan.Rescan.next.Given as goal

abbrev pub invariant-loop-at : goal.invariant-loop-at
invariant-loop-at g l = record {
  test : l.self.test ≡ l.fn.self.test;
  kept : g.P.Pages.tells → IsKept (g.P.Pages.map l.fn.pages) l.fn.self.kept → IsKept (g.P.Pages.map l.pages) l.self.kept;
  skipped : g.P.Pages.tells → IsKept (g.P.Pages.map l.fn.pages) l.fn.self.kept → (rows : List Row) (feet free : List ℕ) → HoldsHeap g.P.Pages l.fn.pages l.fn.heap rows feet free
      → (candidates : List Row) → AreCandidates l.fn.self.left rows candidates
      → (behind : List Row) × AreCandidates l.self.left rows behind
      × (filter (λ row. g.K.RowTest.passes l.fn.self.test row.1) candidates ≡ filter (λ row. g.K.RowTest.passes l.fn.self.test row.1) behind);
  passed : (front : List RowRef) × (l.fn.self.left ≡ front ++ l.self.left);
  map : g.P.Pages.map l.pages ≡ g.P.Pages.map l.fn.pages;
  count : g.P.Pages.count l.pages ≡ g.P.Pages.count l.fn.pages;
  ticks : g.P.Pages.heap_fetches l.pages + l.fn.steps ≤ g.P.Pages.heap_fetches l.fn.pages + l.steps;
  most : l.steps + length l.self.left ≤ l.fn.steps + length l.fn.self.left;
  fetches : g.P.Pages.fetches l.pages + turns (kept_page l.self.kept) l.self.left ≤ g.P.Pages.fetches l.fn.pages + turns (kept_page l.fn.self.kept) l.fn.self.left;
  quiet : StaysQuiet g.P.Pages l.fn.pages l.pages;
}

abbrev pub decreases-loop-at : goal.decreases-loop-at
decreases-loop-at g l = length l.self.left
