use Rattle.gx_slot.proofs.ReadFacts as facts
use Rattle.gx_slot.proofs.layout.read_count.Goals as goal

pub returns-clause-count : goal.returns-clause-count
returns-clause-count c = facts.count_read c.args.page.now c.field_at.result c.field_at.ensures.field
