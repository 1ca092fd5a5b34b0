use Rattle.std.proofs.Common.{rules, sym}
use Rattle.std.proofs.lemmas.Nat.{le_bytes_2}
use Rattle.gx_bytes.specs.Fields.{le16}
use Rattle.gx_bytes.proofs.fields.of_two.Goals as goal

pub returns : goal.returns
unfolding le16
returns c = sym (le_bytes_2 c.args.field.now _ (search rules) (search rules) c.from_le_bytes.ensures)
