use Rattle.gx_slot.proofs.SlotFacts as facts
use Rattle.gx_slot.proofs.laws.one_page.Goals as goal

pub returns : goal.returns
returns c = facts.is_read
