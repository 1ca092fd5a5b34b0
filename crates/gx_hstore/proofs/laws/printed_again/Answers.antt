-- The printed text spells the map.
use Rattle.gx_hstore.proofs.PrintLemmas.{spelled_again}
use Rattle.gx_hstore.proofs.laws.printed_again.Goals as goal

pub returns : goal.returns
returns c = spelled_again
