use Rattle.std.proofs.Common.{ap}
use Rattle.gx_slot.specs.Slots.{Slots, read}
use Rattle.gx_slot.proofs.ReadFacts as facts
use Rattle.gx_slot.proofs.slot_page.SlotPage.replace.Goals as goal

pub returns-in_default-clause-refused : goal.returns-in_default-clause-refused
returns-in_default-clause-refused c =
    let e = ap (λ (s : Slots). s.items) c.self.view_is in (
      c.free.ensures,
      facts.refused_in (read c.self.inside.page).items c.args.self.now.items c.args.slot c.free.result c.args.item.now e c.requires
          (rw c.bytes.ensures.value at c.in_default.ensures.none) c.free.ensures,
    )
