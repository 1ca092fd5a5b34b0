use Rattle.gx_bytes.specs.Fields.{le64}
use Rattle.gx_log.proofs.write.field_of.Goals as goal

pub returns : goal.returns
unfolding le64
returns c = c.to_le_bytes.ensures
