use Rattle.std.proofs.lemmas.Result.{err_from_is_err_and}
use Rattle.gx_range.proofs.TextLemmas.{lower_fault, no_comma}
use Rattle.gx_range.proofs.text.begun.Goals as goal

pub returns-in_err-lower : goal.returns-in_err-lower
returns-in_err-lower c =
    let p = err_from_is_err_and c.from_residual.result c.from_residual.ensures.1 in
    rw (p.1, p.2) (lower_fault c.args.kind c.args.core.now c.in-Some.lower_closed c.in-Some.bytes.now c.in_err-lower.field-0.0 c.in-Some.ensures c.in_err-lower.ensures)

pub returns-in-None : goal.returns-in-None
returns-in-None c =
    no_comma c.args.kind c.args.core.now c.in-Some.lower_closed c.in-Some.bytes.now c.in_ok-lower.lower c.in_ok-lower.behind.now c.in-Some.ensures c.in_ok-lower.ensures c.in-None.ensures
