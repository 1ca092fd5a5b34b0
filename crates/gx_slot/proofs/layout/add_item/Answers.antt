use Rattle.std.proofs.Common.{arith}
use Rattle.gx_slot.proofs.PutFacts as facts
use Rattle.gx_slot.proofs.layout.add_item.Goals as goal

pub returns-clause-added : goal.returns-clause-added
returns-clause-added c = (facts.add_item c.args.page.now c.args.item.now c.put_bytes.new.into c.put_u16.new.into c.put_u16-2.new.into c.put_u16-3.new.into c.put_u16-4.new.into
    c.count_of-count.result _ c.requires.spelled c.count_of-count.ensures (omega arith) (omega arith) c.put_bytes.ensures c.put_u16.ensures c.put_u16-2.ensures c.put_u16-3.ensures c.put_u16-4.ensures).reads

pub returns-clause-spelled : goal.returns-clause-spelled
returns-clause-spelled c = (facts.add_item c.args.page.now c.args.item.now c.put_bytes.new.into c.put_u16.new.into c.put_u16-2.new.into c.put_u16-3.new.into c.put_u16-4.new.into
    c.count_of-count.result _ c.requires.spelled c.count_of-count.ensures (omega arith) (omega arith) c.put_bytes.ensures c.put_u16.ensures c.put_u16-2.ensures c.put_u16-3.ensures c.put_u16-4.ensures).spelled
