use Rattle.gx_step.proofs.Found as tables
use Rattle.gx_step.proofs.laws.tables_are_found.Goals as goal

pub returns-clause-some : goal.returns-clause-some
returns-clause-some c = λ db infos stored name info h e. let f = tables.found name info db.tables infos stored h e in (f.table, f.named, f.place, f.is_info)

pub returns-clause-none : goal.returns-clause-none
returns-clause-none c = λ db infos stored name h e. tables.none name db.tables infos stored h e
