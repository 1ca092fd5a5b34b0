use Rattle.gx_json.proofs.PartLemmas.{cut, made, one_made, outside_left}
use Rattle.gx_json.proofs.laws.one_reading.Goals as goal

pub returns : goal.returns
returns c = record { is = λ text. ((cut text).parts, (cut text).end, made text); only = one_made; outside = outside_left }
