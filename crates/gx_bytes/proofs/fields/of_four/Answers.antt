use Rattle.std.proofs.Common.{rules, sym}
use Rattle.std.proofs.lemmas.Nat.{le_bytes_4}
use Rattle.gx_bytes.specs.Fields.{le32}
use Rattle.gx_bytes.proofs.fields.of_four.Goals as goal

pub returns : goal.returns
unfolding le32
returns c = sym (le_bytes_4 c.args.field.now _ (search rules) (search rules) c.from_le_bytes.ensures)
