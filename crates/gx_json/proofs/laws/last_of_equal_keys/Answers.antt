use Rattle.serde_json.specs.Data.{no_members}
use Rattle.gx_json.proofs.KeyLemmas.{lacked, last_kept, last_here}
use Rattle.gx_json.proofs.laws.last_of_equal_keys.Goals as goal

pub returns : goal.returns
returns c = record {
  last = λ key j ms kept e h. last_kept key j ms no_members kept e h;
  lacks = λ key ms kept e h. lacked key ms no_members kept e h;
  example = last_here;
}
