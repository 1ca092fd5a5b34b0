use Rattle.std.proofs.Common.{arith}
use Rattle.gx_slot.proofs.ReadFacts as facts
use Rattle.gx_slot.proofs.layout.begin.Goals as goal

pub returns-clause-read : goal.returns-clause-read
returns-clause-read c = (facts.begun c.args.page.now c.put_bytes.new.into c.put_u16.new.into c.args.kind c.args.level c.requires (omega arith) (omega arith) c.put_bytes.ensures c.put_u16.ensures).reads

pub returns-clause-spelled : goal.returns-clause-spelled
returns-clause-spelled c = (facts.begun c.args.page.now c.put_bytes.new.into c.put_u16.new.into c.args.kind c.args.level c.requires (omega arith) (omega arith) c.put_bytes.ensures c.put_u16.ensures).spelled
