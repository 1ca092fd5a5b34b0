use Rattle.gx_catalog.proofs.Fronts.{columns_none0, columns_none1, columns_read}
use Rattle.gx_catalog.proofs.reading.take_columns.Goals as goal

pub returns-in_default : goal.returns-in_default
returns-in_default c = columns_none0 c.args.bytes.now c.in_default.ensures.cases

pub returns-in-Some-2 : goal.returns-in-Some-2
returns-in-Some-2 c =
    let some = rw c.in-Some-2.is at c.in_ok-columns.ensures in
    columns_read c.args.bytes.now c.in-Some.rest.now c.in-Some-2.behind.now c.in-Some.count.now c.in-Some-2.columns c.in-Some.ensures.cases.0 some.0 some.1

pub returns-in-None : goal.returns-in-None
returns-in-None c =
    let none = rw c.in-None.is at c.in_ok-columns.ensures in
    columns_none1 c.args.bytes.now c.in-Some.rest.now c.in-Some.count.now c.in-Some.ensures.cases.0 none
