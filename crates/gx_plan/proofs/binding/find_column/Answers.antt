use Rattle.gx_plan.proofs.FindingLemmas.{no_column, standing, is_found}
use Rattle.gx_plan.proofs.binding.find_column.Goals as goal

pub returns-in-Some-get : goal.returns-in-Some-get
returns-in-Some-get c =
    let columns = c.args.columns.now in
    let column = c.in-Some-get.column.now in
    is_found columns c.args.name.now c.in-Some.place column c.in-Some.ensures
    (standing columns c.in-Some.place column c.in-Some-get.ensures.lookup.3.0 c.in-Some-get.ensures.lookup.1)

pub returns-in-None : goal.returns-in-None
returns-in-None c = no_column c.args.columns.now c.args.name.now c.in-None.ensures
