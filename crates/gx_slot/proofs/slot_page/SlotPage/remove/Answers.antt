use Rattle.std.proofs.Common.{ap}
use Rattle.gx_slot.specs.Slots.{Slots, read}
use Rattle.gx_slot.proofs.ReadFacts as facts
use Rattle.gx_slot.proofs.slot_page.SlotPage.remove.Goals as goal

pub unreachable-requires : goal.unreachable-requires
unreachable-requires c =
    let e = ap (λ (s : Slots). s.items) c.self.view_is in
    facts.emptied_at (read c.self.inside.page).items c.args.self.now.items c.args.slot e c.requires c.self.invariant.fits.room
    (rw c.bytes.ensures.value at c.in_default.ensures.none)
