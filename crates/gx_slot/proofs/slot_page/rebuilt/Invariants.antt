use Rattle.std.proofs.Common.{◌≡◌, take, slice_set}
use Rattle.std.specs.Option.{option_copied}
use Rattle.gx_slot.specs.Slots.{read}
use Rattle.gx_slot.proofs.slot_page.rebuilt.Given as goal

abbrev pub invariant-loop-slot : goal.invariant-loop-slot
invariant-loop-slot l = l.slots ≡ record (read l.page) { items = take l.slot (slice_set (read l.page).items l.at (option_copied l.item)) }
