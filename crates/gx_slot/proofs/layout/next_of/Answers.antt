use Rattle.std.proofs.Common.{◌∙◌, arith}
use Rattle.gx_slot.proofs.SlotFacts as facts
use Rattle.gx_slot.proofs.layout.next_of.Goals as goal

pub returns-clause-next : goal.returns-clause-next
returns-clause-next c = facts.read64 _ c.in-Some.next c.in-Some.ensures.some.1 (omega arith) ∙ facts.next_is c.args.page.now
