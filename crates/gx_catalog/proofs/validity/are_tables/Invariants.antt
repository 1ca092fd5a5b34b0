use Rattle.std.proofs.Common.{◌↔◌, length}
use Rattle.gx_catalog.specs.Tails.{AllTails, IsNewTable}
use Rattle.gx_catalog.proofs.validity.are_tables.Given as goal

abbrev pub invariant-loop-table : goal.invariant-loop-table
invariant-loop-table l = AllTails (IsNewTable l.indexes) l.rest ↔ AllTails (IsNewTable l.indexes) l.fn.tables

abbrev pub decreases-loop-table : goal.decreases-loop-table
decreases-loop-table l = length l.rest
