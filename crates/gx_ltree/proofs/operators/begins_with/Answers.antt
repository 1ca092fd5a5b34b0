-- A step over two labels that are the same, and the end.
use Rattle.std.proofs.Common.{◌∙◌, sym, refl}
use Rattle.gx_ltree.proofs.ListSteps.{prefix_step, prefix_all, same_bytes}
use Rattle.gx_ltree.proofs.operators.begins_with.Goals as goal

pub loop-a-preserved : goal.loop-a-preserved
loop-a-preserved c =
    let same = same_bytes c.as_slice.result.now c.as_slice-in-len1-up.result.now c.ne.result c.ne.ensures c.if-ne.false in
    let step = prefix_step c.loop-a.a.now c.loop-a.b.now c.x-item.result c.y-item.result c.in-len1-up.len_at_least c.in-len1-up-b.len_at_least c.x-item.is c.y-item.is (sym c.as_slice.ensures ∙ same ∙ c.as_slice-in-len1-up.ensures) in
    (λ p. c.loop-a.invariant.0 (step.0 p), λ p. step.1 (c.loop-a.invariant.1 p))

pub returns : goal.returns
returns c = (λ _. c.loop-a.invariant.0 (prefix_all c.loop-a.a.now c.loop-a.b.now c.in_default.len_below), λ _. refl)
