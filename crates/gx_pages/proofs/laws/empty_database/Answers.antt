use Rattle.gx_pages.proofs.Emptiness.{none_free}
use Rattle.gx_pages.proofs.laws.empty_database.Goals as goal

pub returns-clause-none_free : goal.returns-clause-none_free
returns-clause-none_free c = none_free
