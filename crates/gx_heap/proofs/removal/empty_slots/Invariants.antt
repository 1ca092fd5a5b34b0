use Rattle.std.proofs.Common.{◌≡◌, ◌++◌, List, length}
use Rattle.gx_pages.specs.declared.row.RowRef.{RowRef}
use Rattle.gx_heap.specs.Heaps.{Empties}
use Rattle.gx_heap.proofs.removal.empty_slots.Given as goal

abbrev pub invariant-loop-at : goal.invariant-loop-at
invariant-loop-at l = (run : List RowRef) × (l.fn.rows ≡ run ++ l.rest) × Empties l.page run l.fn.slots.items l.slots.items × (l.slots ≡ record l.fn.slots { items = l.slots.items })

abbrev pub decreases-loop-at : goal.decreases-loop-at
decreases-loop-at l = length l.rest
