use Rattle.std.proofs.Common.{◌∙◌, sym, arith}
use Rattle.gx_slot.specs.Slots.{read}
use Rattle.gx_slot.proofs.ReadFacts as facts
use Rattle.gx_slot.proofs.layout.item_of.Goals as goal

pub returns-then-slot-read_count : goal.returns-then-slot-read_count
returns-then-slot-read_count c = sym (facts.item_past (read c.args.page.now).items c.args.slot (omega arith))

pub returns : goal.returns
returns c = c.slot_at.ensures ∙ sym (facts.item_read c.args.page.now c.args.slot (omega arith))
