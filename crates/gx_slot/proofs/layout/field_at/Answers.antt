use Rattle.std.proofs.Common.{arith}
use Rattle.gx_slot.proofs.SlotFacts as facts
use Rattle.gx_slot.proofs.layout.field_at.Goals as goal

pub returns-clause-field : goal.returns-clause-field
returns-clause-field c = facts.read16 _ c.in-Some.field c.in-Some.ensures.some.1 (omega arith)
