use Rattle.std.proofs.Common.{◌∙◌, arith}
use Rattle.gx_slot.proofs.SlotFacts as facts
use Rattle.gx_slot.proofs.layout.count_of.Goals as goal

pub returns : goal.returns
returns c = facts.read16 _ c.in-Some.count c.in-Some.ensures.some.1 (omega arith) ∙ facts.count_is c.args.page.now c.requires.spelled
