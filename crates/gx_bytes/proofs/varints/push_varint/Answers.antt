use Rattle.gx_bytes.proofs.Spellings.{appends_varint}
use Rattle.gx_bytes.proofs.varints.push_varint.Goals as goal

pub returns-clause-written : goal.returns-clause-written
returns-clause-written c = appends_varint c.args.to.now c.push_groups.new.to c.args.value c.in_default.ensures.ok
