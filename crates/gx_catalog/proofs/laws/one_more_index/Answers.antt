use Rattle.gx_catalog.proofs.Growing.{index_more}
use Rattle.gx_catalog.proofs.laws.one_more_index.Goals as goal

pub returns : goal.returns
returns c = index_more
