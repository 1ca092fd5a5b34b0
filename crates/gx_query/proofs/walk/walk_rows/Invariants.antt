use Rattle.std.proofs.Common.{◌≡◌, ◌+◌, ◌≤◌, ℕ, List}
use Rattle.gx_pages.specs.Footprints.{StaysQuiet}
use Rattle.gx_heap.specs.Heaps.{Row, HoldsHeap, rows_in}
use Rattle.gx_plan.specs.Bounds.{kinds_of}
use Rattle.gx_query.specs.Seen.{Seen, AreSeen}
use Rattle.gx_query.specs.Walks.{Shown, condition_of}
use Rattle.gx_query.proofs.Feet.{Passed}
use Rattle.gx_query.proofs.walk.walk_rows.Given as goal

abbrev pub invariant-loop-passed : goal.invariant-loop-passed
invariant-loop-passed g l = record {
  walked : g.P.Pages.tells → (rows : List Row) (feet free : List ℕ) → HoldsHeap g.P.Pages l.fn.pages l.heap rows feet free
      → (passed : Passed feet l.page l.trail.mark l.passed) × ((seen : List Seen) → AreSeen (kinds_of l.columns) (rows_in passed.front rows) seen
      → Shown (g.V.Visit.after l.columns) (condition_of l.filter) l.fn.visitor l.visitor (record { rows = 0; selected = 0 }) l.counts seen);
  still : g.V.Visit.fits l.visitor l.columns;
  map : g.P.Pages.map l.pages ≡ g.P.Pages.map l.fn.pages;
  count : g.P.Pages.count l.pages ≡ g.P.Pages.count l.fn.pages;
  ticks : g.P.Pages.heap_fetches l.pages + l.fn.steps ≤ g.P.Pages.heap_fetches l.fn.pages + l.steps;
  most : l.steps ≤ l.fn.steps + l.passed;
  quiet : StaysQuiet g.P.Pages l.fn.pages l.pages;
}
