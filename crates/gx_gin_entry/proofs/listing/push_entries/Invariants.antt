use Rattle.std.proofs.Common.{◌≡◌, ◌++◌, List, take}
use Rattle.gx_gin_entry.specs.EntryTrees.{AreListed, Entry}
use Rattle.gx_gin_entry.specs.Listed.{entries_of}
use Rattle.gx_gin_entry.proofs.listing.push_entries.Given as goal

abbrev pub invariant-loop-slot : goal.invariant-loop-slot
invariant-loop-slot l = (list : List Entry) → AreListed l.slots.items list → entries_of l.to.items ≡ entries_of l.fn.to.items ++ take l.slot list
