-- What a text spells is valid.
use Rattle.gx_lquery.specs.Text.{split}
use Rattle.gx_lquery.proofs.ValidLemmas.{items_valid}
use Rattle.gx_lquery.proofs.query.Lquery.read.Goals as goal

pub returns-in-Ok-Some-clause-valid : goal.returns-in-Ok-Some-clause-valid
returns-in-Ok-Some-clause-valid c = items_valid (split 46 c.as_bytes.result.now) c.in-Ok-Some.items (rw c.in-Ok-Some.field-0-is at c.in-Ok-Some.ensures)
