use Rattle.std.proofs.Common.{◌≡◌, ◌+◌, ◌≤◌, ◌++◌, ℕ, List, length}
use Rattle.gx_pages.specs.declared.row.RowRef.{RowRef}
use Rattle.gx_pages.specs.Footprints.{KeepsPages, StaysQuiet}
use Rattle.gx_heap.specs.Heaps.{Row, HoldsHeap, AreRows, runs, without}
use Rattle.gx_heap.proofs.heap.Heap.remove.Given as goal

abbrev pub invariant-loop-rest : goal.invariant-loop-rest
invariant-loop-rest g l = record {
  removed : g.P.Pages.tells → (all : List Row) (feet free : List ℕ) → HoldsHeap g.P.Pages l.fn.pages l.fn.self all feet free → AreRows l.fn.rows all
      → (run : List RowRef) × (l.fn.rows ≡ run ++ l.rest) × HoldsHeap g.P.Pages l.pages l.fn.self (without run all) feet free
      × KeepsPages g.P.Pages l.fn.pages l.pages feet free feet free × AreRows l.rest (without run all);
  count : g.P.Pages.count l.pages ≡ g.P.Pages.count l.fn.pages;
  ticks : g.P.Pages.heap_fetches l.pages + l.fn.steps ≤ g.P.Pages.heap_fetches l.fn.pages + l.steps;
  most : l.steps + length l.rest ≤ l.fn.steps + length l.fn.rows;
  fetches : g.P.Pages.fetches l.pages + runs l.rest ≤ g.P.Pages.fetches l.fn.pages + runs l.fn.rows;
  quiet : StaysQuiet g.P.Pages l.fn.pages l.pages;
}

abbrev pub decreases-loop-rest : goal.decreases-loop-rest
decreases-loop-rest g l = length l.rest
