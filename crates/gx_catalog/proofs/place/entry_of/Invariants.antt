use Rattle.std.proofs.Common.{◌≢◌, take}
use Rattle.std.specs.List.{AllByRecursion}
use Rattle.gx_chain.specs.declared.entry.Entry.{Entry}
use Rattle.gx_catalog.proofs.place.entry_of.Given as goal

abbrev pub invariant-loop-entry : goal.invariant-loop-entry
invariant-loop-entry l = AllByRecursion (λ (entry : Entry). entry.item ≢ l.item) (take l.entry-index l.entries)
