use Rattle.std.proofs.Common.{◌≡◌, ℕ, ◌+◌, ◌-◌, ◌≤◌, List, ◌++◌, length, take}
use Rattle.gx_pages.specs.Footprints.{KeepsPages, StaysQuiet}
use Rattle.gx_heap.specs.Heaps.{HoldsHeap, Row}
use Rattle.gx_change.specs.Appended.{AreNumbered}
use Rattle.gx_change.proofs.appending.append_runs.Given as goal

abbrev pub invariant-loop-done : goal.invariant-loop-done
invariant-loop-done g l = record {
  within : l.done ≤ length l.rows;
  added : g.P.Pages.tells → (stored : List Row) (feet free : List ℕ) → HoldsHeap g.P.Pages l.fn.pages l.fn.heap stored feet free
      → (more : List Row) × (later : List ℕ) × (rest : List ℕ) × HoldsHeap g.P.Pages l.pages l.heap (stored ++ more) later rest × KeepsPages g.P.Pages l.fn.pages l.pages feet free later rest
      × AreNumbered l.fn.heap.next (take l.done l.rows) more;
  next : l.heap.next ≡ l.fn.heap.next + l.done;
  count : g.P.Pages.count l.pages ≤ g.P.Pages.count l.fn.pages + l.done;
  ticks : g.P.Pages.heap_fetches l.pages + l.fn.steps ≤ g.P.Pages.heap_fetches l.fn.pages + l.steps;
  most : l.steps ≤ l.fn.steps + l.done;
  quiet : StaysQuiet g.P.Pages l.fn.pages l.pages;
}

abbrev pub decreases-loop-done : goal.decreases-loop-done
decreases-loop-done g l = length l.rows - l.done
