use Rattle.std.proofs.Common.{◌≡◌, ◌++◌, take, map}
use Rattle.gx_chain.specs.Chains.{entries_at}
use Rattle.gx_heap.specs.Heaps.{row_of}
use Rattle.gx_heap.proofs.reading.push_rows.Given as goal

abbrev pub invariant-loop-slot : goal.invariant-loop-slot
invariant-loop-slot l = l.rows ≡ l.fn.rows ++ map row_of (entries_at l.page 0 (take l.slot l.slots.items))
