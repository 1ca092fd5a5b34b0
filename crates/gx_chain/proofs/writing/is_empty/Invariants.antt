use Rattle.std.proofs.Common.{◌≡◌, ℕ, [], take}
use Rattle.gx_chain.specs.Chains.{entries_at}
use Rattle.gx_chain.proofs.writing.is_empty.Given as goal

abbrev pub invariant-loop-slot : goal.invariant-loop-slot
invariant-loop-slot l = (page : ℕ) → entries_at page 0 (take l.slot l.slots.items) ≡ []
