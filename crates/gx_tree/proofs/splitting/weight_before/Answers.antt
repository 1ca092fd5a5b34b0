use Rattle.std.proofs.Common.{◌≡◌, ◌≤◌, ◌<◌, ◌+◌, ◌^◌, ℕ, List, length, take, refl, sym, ◌∙◌, ap, arith}
use Rattle.gx_tree.specs.Paging.{weight}
use Rattle.gx_tree.proofs.Weights.{weight_more, weight_upto}
use Rattle.gx_tree.proofs.splitting.weight_before.Goals as goal

pub loop-at-init : goal.loop-at-init
loop-at-init c = λ within small. refl

pub returns-in_default : goal.returns-in_default
returns-in_default c = λ within small. absurd (let test = c.loop-at-test.true in let past = c.in_default.ensures.none in omega (arith, within, test, past))

pub loop-at-preserved : goal.loop-at-preserved
loop-at-preserved c = λ within small.
    let so_far = c.loop-at.invariant within small in
    let more = weight_more c.args.items.now c.loop-at.at c.in-Some.item.now c.in-Some.ensures.some in
    let test = c.loop-at-test.true in
    let upto = weight_upto c.args.items.now (c.loop-at.at + 1) c.args.end (omega (arith, test)) in
    let first = c.saturating_add-more.ensures in
    let second = c.saturating_add-sum.ensures in
    omega (arith, so_far, more, upto, small, first, second)

pub returns : goal.returns
returns c = λ within small.
    let past = c.loop-at-test.false in
    let most = c.loop-at.auto.at-end in
    let ends : c.loop-at.at ≡ c.args.end = omega (arith, past, most) in
    c.loop-at.invariant within small ∙ ap (λ (n : ℕ). weight (take n c.args.items.now)) ends
