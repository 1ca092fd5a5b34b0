use Rattle.gx_gin_maps.proofs.LengthLemmas.{long_pair}
use Rattle.gx_gin_maps.proofs.lengths.is_long_pair.Goals as goal

pub returns-in-Some : goal.returns-in-Some
returns-in-Some c = long_pair c.args.pair.now _ _ _ _ c.in-Some.is c.len-in-Some.ensures c.len-in-Some-2.ensures c.is_long_value.ensures
