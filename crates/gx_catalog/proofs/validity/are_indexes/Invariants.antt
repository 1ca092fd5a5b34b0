use Rattle.std.proofs.Common.{◌↔◌, length}
use Rattle.gx_catalog.specs.Tails.{AllTails, IsNewIndex}
use Rattle.gx_catalog.proofs.validity.are_indexes.Given as goal

abbrev pub invariant-loop-index : goal.invariant-loop-index
invariant-loop-index l = AllTails (IsNewIndex l.tables) l.rest ↔ AllTails (IsNewIndex l.tables) l.fn.indexes

abbrev pub decreases-loop-index : goal.decreases-loop-index
decreases-loop-index l = length l.rest
