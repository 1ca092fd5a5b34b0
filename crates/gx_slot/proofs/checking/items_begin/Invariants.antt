use Rattle.gx_slot.specs.Tables.{IsTable}
use Rattle.gx_slot.proofs.checking.items_begin.Given as goal

abbrev pub invariant-loop-slot : goal.invariant-loop-slot
invariant-loop-slot l = IsTable l.page l.slot l.end
