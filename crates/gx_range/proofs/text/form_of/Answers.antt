use Rattle.std.proofs.lemmas.Result.{err_from_is_err_and}
use Rattle.gx_range.proofs.TextLemmas.{front_fault, upper_fault, no_closing}
use Rattle.gx_range.proofs.text.form_of.Goals as goal

pub returns-in_err-lower_closed : goal.returns-in_err-lower_closed
returns-in_err-lower_closed c =
    let p = err_from_is_err_and c.from_residual.result c.from_residual.ensures.1 in
    rw (p.1, p.2) (front_fault c.args.kind c.args.core.now c.in_err-lower_closed.field-0.0 c.in_err-lower_closed.ensures)

pub returns-in_err-upper : goal.returns-in_err-upper
returns-in_err-upper c =
    let p = err_from_is_err_and c.from_residual-in_err-upper.result c.from_residual-in_err-upper.ensures.1 in
    rw (p.1, p.2) (upper_fault c.args.kind c.args.core.now c.in_ok-lower_closed.lower_closed c.in_ok-lower_closed.lower c.in_ok-lower_closed.rest.now c.in_err-upper.field-0.0 c.in_ok-lower_closed.ensures c.in_err-upper.ensures)

pub returns-in-None : goal.returns-in-None
returns-in-None c =
    no_closing c.args.kind c.args.core.now c.in_ok-lower_closed.lower_closed c.in_ok-lower_closed.lower c.in_ok-upper.upper c.in_ok-lower_closed.rest.now c.in_ok-upper.behind.now c.in_ok-lower_closed.ensures c.in_ok-upper.ensures c.in-None.ensures
