use Rattle.gx_catalog.proofs.Growing.{table_more}
use Rattle.gx_catalog.proofs.laws.one_more_table.Goals as goal

pub returns : goal.returns
returns c = table_more
