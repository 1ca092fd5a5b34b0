use Rattle.std.proofs.Common.{sym}
use Rattle.gx_catalog.proofs.Fronts.{column_none0, column_none1, column_none2, column_read}
use Rattle.gx_catalog.proofs.reading.take_column.Goals as goal

pub returns-in_default : goal.returns-in_default
returns-in_default c = column_none0 c.args.bytes.now c.in_default.ensures.cases

pub returns-in_default-numbered : goal.returns-in_default-numbered
returns-in_default-numbered c = column_none1 c.args.bytes.now c.in-Some.behind.now c.in-Some.number.now c.in-Some.ensures.cases.0 (sym c.in_default-numbered.ensures)

pub returns-in_default-take_field : goal.returns-in_default-take_field
returns-in_default-take_field c = column_none2 c.args.bytes.now c.in-Some.behind.now c.in-Some.number.now c.in-Some.ensures.cases.0 c.in_default-take_field.ensures

pub returns : goal.returns
returns c =
    rw c.in_ok-name.ensures
    (column_read c.args.bytes.now c.in-Some.behind.now c.in-Some-take_field.rest.now c.in-Some.number.now c.in-Some-numbered.kind c.in-Some-take_field.name.now c.in-Some.ensures.cases.0
    (sym c.in-Some-numbered.ensures) c.in-Some-take_field.ensures)
