use Rattle.std.proofs.Common.{◌≡◌, ◌∙◌, sym, ap, ℕ, slice_set}
use Rattle.std.specs.Option.{option_copied}
use Rattle.gx_slot.specs.Slots.{read, item_at}
use Rattle.gx_slot.proofs.ReadFacts as facts
use Rattle.gx_slot.proofs.layout.part_at.Goals as goal

pub returns-then-slot-at : goal.returns-then-slot-at
returns-then-slot-at c =
    let e : c.args.slot ≡ c.args.at = c.if-slot-at.true in
    sym (ap (λ (k : ℕ). item_at (slice_set (read c.args.page.now).items k (option_copied c.args.item)) c.args.slot) (sym e)
    ∙ facts.item_set (read c.args.page.now).items c.args.slot (option_copied c.args.item) c.requires.within)

pub returns-else-slot-at : goal.returns-else-slot-at
returns-else-slot-at c =
    c.item_of.ensures ∙ sym (facts.item_kept (read c.args.page.now).items c.args.at c.args.slot (option_copied c.args.item) c.if-slot-at.false)
