use Rattle.gx_model.proofs.WholePlans.{whole_found, whole_where}
use Rattle.gx_model.proofs.laws.whole_tables.Goals as goal

pub returns-clause-found : goal.returns-clause-found
returns-clause-found c = whole_found

pub returns-clause-bare : goal.returns-clause-bare
returns-clause-bare c = whole_where
