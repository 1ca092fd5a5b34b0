use Rattle.std.proofs.Common.{◌≡◌, ◌++◌, take, drop}
use Rattle.gx_catalog.specs.Catalogs.{with_heap}
use Rattle.gx_catalog.proofs.memory.set_heap_of.Given as goal

abbrev pub invariant-loop-table : goal.invariant-loop-table
invariant-loop-table l = l.table-items ≡ with_heap l.number l.heap (take l.table-index l.fn.tables.items) ++ drop l.table-index l.fn.tables.items
