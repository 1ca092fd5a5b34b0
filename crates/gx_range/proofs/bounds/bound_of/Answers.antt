use Rattle.std.proofs.Common.{sym, ◌∙◌, true≢false}
use Rattle.gx_range.proofs.BoundLemmas.{element_fault}
use Rattle.gx_range.proofs.bounds.bound_of.Goals as goal

pub returns-in-Err : goal.returns-in-Err
returns-in-Err c =
    element_fault c.args.kind c.args.bytes.now c.in-Some.quoted c.in-Some.text.now c.in-Some.rest.now c.in-Err.fault c.in-Some.ensures (λ q e. true≢false (sym (c.is_nothing.ensures.1 (q, e)) ∙ c.if-is_nothing.false)) c.in-Err.ensures
