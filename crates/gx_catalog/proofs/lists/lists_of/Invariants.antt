use Rattle.std.proofs.Common.{take}
use Rattle.gx_catalog.specs.Items.{Spells}
use Rattle.gx_catalog.proofs.lists.lists_of.Given as goal

abbrev pub invariant-loop-entry : goal.invariant-loop-entry
invariant-loop-entry l = Spells (take l.entry-index l.entries) l.tables.items l.indexes.items
