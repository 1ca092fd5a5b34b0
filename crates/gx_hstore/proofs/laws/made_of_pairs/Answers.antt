use Rattle.gx_hstore.proofs.PartLemmas.{spelled_as_made}
use Rattle.gx_hstore.proofs.laws.made_of_pairs.Goals as goal

pub returns : goal.returns
returns c = spelled_as_made
