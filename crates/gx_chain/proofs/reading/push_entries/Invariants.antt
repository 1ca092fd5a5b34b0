use Rattle.std.proofs.Common.{◌≡◌, ◌++◌, take}
use Rattle.gx_chain.specs.Chains.{entries_at}
use Rattle.gx_chain.proofs.reading.push_entries.Given as goal

abbrev pub invariant-loop-slot : goal.invariant-loop-slot
invariant-loop-slot l = l.entries.items ≡ l.fn.entries.items ++ entries_at l.page 0 (take l.slot l.slots.items)
