use Rattle.std.proofs.Common.{◌↔◌, length}
use Rattle.gx_catalog.specs.Tails.{AllTails, IsNewColumn}
use Rattle.gx_catalog.proofs.validity.are_new_columns.Given as goal

abbrev pub invariant-loop-column : goal.invariant-loop-column
invariant-loop-column l = AllTails (IsNewColumn) l.rest ↔ AllTails (IsNewColumn) l.fn.columns

abbrev pub decreases-loop-column : goal.decreases-loop-column
decreases-loop-column l = length l.rest
