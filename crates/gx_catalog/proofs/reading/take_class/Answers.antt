use Rattle.std.proofs.Common.{sym, ◌∙◌}
use Rattle.gx_catalog.proofs.Fronts.{class_none0, class_none1, class_none2, class_none3, class_read}
use Rattle.gx_catalog.proofs.reading.take_class.Goals as goal

pub returns-in_err-column : goal.returns-in_err-column
returns-in_err-column c = rw c.from_residual.ensures (class_none0 c.args.bytes.now c.in_err-column.ensures.cases)

pub returns-in_err-number : goal.returns-in_err-number
returns-in_err-number c =
    rw c.from_residual-in_err-number.ensures (class_none1 c.args.bytes.now c.in_ok-column.behind.now c.in_ok-column.column.now c.in_ok-column.ensures.cases.0 c.in_err-number.ensures.cases)

pub returns-in_err-class : goal.returns-in_err-class
returns-in_err-class c =
    rw c.from_residual-in_err-class.ensures
    (class_none2 c.args.bytes.now c.in_ok-column.behind.now c.in_ok-number.more.now c.in_ok-column.column.now c.in_ok-number.number.now c.in_ok-column.ensures.cases.0 c.in_ok-number.ensures.cases.0
    (sym c.in_err-class.ensures))

pub returns-in_err-parameter : goal.returns-in_err-parameter
returns-in_err-parameter c =
    rw c.from_residual-in_err-parameter.ensures
    (class_none3 c.args.bytes.now c.in_ok-column.behind.now c.in_ok-number.more.now c.in_ok-column.column.now c.in_ok-number.number.now c.in_ok-column.ensures.cases.0 c.in_ok-number.ensures.cases.0
    c.in_err-parameter.ensures)

pub returns : goal.returns
returns c = (
  c.in_ok-parameter.ensures.0,
  class_read c.args.bytes.now c.in_ok-column.behind.now c.in_ok-number.more.now c.in_ok-parameter.rest.now c.in_ok-column.column.now c.in_ok-number.number.now c.in_ok-parameter.parameter c.in_ok-class.class
      c.in_ok-column.ensures.cases.0 c.in_ok-number.ensures.cases.0 (sym c.in_ok-class.ensures) c.in_ok-parameter.ensures.1,
)
