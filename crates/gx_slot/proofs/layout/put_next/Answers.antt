use Rattle.std.proofs.Common.{arith}
use Rattle.gx_slot.proofs.PutFacts as facts
use Rattle.gx_slot.proofs.layout.put_next.Goals as goal

pub returns-clause-next : goal.returns-clause-next
returns-clause-next c = (facts.put_next c.args.page.now c.put_u64.new.into c.args.next c.requires.spelled (omega arith) c.put_u64.ensures).reads

pub returns-clause-spelled : goal.returns-clause-spelled
returns-clause-spelled c = (facts.put_next c.args.page.now c.put_u64.new.into c.args.next c.requires.spelled (omega arith) c.put_u64.ensures).spelled
