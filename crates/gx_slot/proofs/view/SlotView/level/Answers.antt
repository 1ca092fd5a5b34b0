use Rattle.std.proofs.Common.{◌∙◌, sym, ap, ℕ, List, slice_index}
use Rattle.gx_slot.specs.Slots.{Slots}
use Rattle.gx_slot.proofs.ReadFacts as facts
use Rattle.gx_slot.proofs.view.SlotView.level.Goals as goal

pub returns : goal.returns
returns c =
    ap (λ (b : List ℕ). slice_index b 1) c.bytes.ensures.value ∙ sym (facts.level_read c.self.inside.page.now) ∙ ap (λ (s : Slots). s.level) c.self.view_is
