use Rattle.std.proofs.Common.{rules, sym}
use Rattle.std.proofs.lemmas.Nat.{le_bytes_8}
use Rattle.gx_bytes.specs.Fields.{le64}
use Rattle.gx_log.proofs.scan.number_of.Goals as goal

pub returns : goal.returns
unfolding le64
returns c = sym (le_bytes_8 c.args.field.now _ (search rules) (search rules) c.from_le_bytes.ensures)
