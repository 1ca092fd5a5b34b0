use Rattle.std.proofs.Common.{arith}
use Rattle.gx_slot.proofs.PutFacts as facts
use Rattle.gx_slot.proofs.layout.add_empty.Goals as goal

pub returns-clause-added : goal.returns-clause-added
returns-clause-added c = (facts.add_empty c.args.page.now c.put_u16.new.into c.count_of-count.result c.requires.spelled c.count_of-count.ensures (omega arith) c.put_u16.ensures).reads

pub returns-clause-spelled : goal.returns-clause-spelled
returns-clause-spelled c = (facts.add_empty c.args.page.now c.put_u16.new.into c.count_of-count.result c.requires.spelled c.count_of-count.ensures (omega arith) c.put_u16.ensures).spelled
