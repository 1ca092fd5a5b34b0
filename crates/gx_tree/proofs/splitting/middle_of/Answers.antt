use Rattle.std.proofs.Common.{◌≡◌, ◌≤◌, ◌<◌, ◌+◌, ◌*◌, ◌^◌, ℕ, List, length, take, refl, sym, ◌∙◌, ap, subst, arith}
use Rattle.std.proofs.lemmas.List.{take_all}
use Rattle.gx_tree.specs.Paging.{IsMiddle, weight}
use Rattle.gx_tree.proofs.Weights.{middle_here, weight_more, weight_some, weight_take}
use Rattle.gx_tree.proofs.splitting.middle_of.Goals as goal

whole : (items : List (List ℕ)) (len total : ℕ) → len ≡ length items → (len ≤ length items → weight (take len items) < 2 ^ 32 → total ≡ weight (take len items)) → weight items < 2 ^ 32 → total ≡ weight items
whole items len total is sums small =
    let all : take len items ≡ items = take_all len items (omega (arith, is)) in
    let same = ap (λ (l : List (List ℕ)). weight l) all in
    sums (omega (arith, is)) (omega (arith, same, small)) ∙ same

pub loop-at-init : goal.loop-at-init
loop-at-init c = λ small some. (refl, let more = weight_some c.args.items.now some in omega (arith, more))

pub returns-in_default : goal.returns-in_default
returns-in_default c = λ small some. absurd (let test = c.loop-at-test.true in let past = c.in_default.ensures.none in let len = c.len-len.ensures in omega (arith, test, past, len))

pub returns-then-total-twice : goal.returns-then-total-twice
returns-then-total-twice c = λ small some.
    let so_far = c.loop-at.invariant small some in
    let more = weight_more c.args.items.now c.loop-at.at c.in-Some.item.now c.in-Some.ensures.some in
    let upto = weight_take (c.loop-at.at + 1) c.args.items.now in
    let first = c.saturating_add-more.ensures in
    let second = c.saturating_add-next.ensures in
    let third = c.saturating_add-twice.ensures in
    let test = c.if-total-twice.true in
    let total = whole c.args.items.now c.len-len.result c.weight_before-total.result c.len-len.ensures c.weight_before-total.ensures small in
    let next : c.saturating_add-next.result ≡ weight (take (c.loop-at.at + 1) c.args.items.now) = omega (arith, so_far.0, more, upto, small, first, second) in
    middle_here c.args.items.now c.loop-at.at c.saturating_add-next.result c.weight_before-total.result c.in-Some.item.now c.in-Some.ensures.some total next (omega (arith, test, third)) so_far.1

pub loop-at-preserved : goal.loop-at-preserved
loop-at-preserved c = λ small some.
    let so_far = c.loop-at.invariant small some in
    let more = weight_more c.args.items.now c.loop-at.at c.in-Some.item.now c.in-Some.ensures.some in
    let upto = weight_take (c.loop-at.at + 1) c.args.items.now in
    let first = c.saturating_add-more.ensures in
    let second = c.saturating_add-next.ensures in
    let third = c.saturating_add-twice.ensures in
    let test = c.if-total-twice.false in
    let total = whole c.args.items.now c.len-len.result c.weight_before-total.result c.len-len.ensures c.weight_before-total.ensures small in
    let next : c.saturating_add-next.result ≡ weight (take (c.loop-at.at + 1) c.args.items.now) = omega (arith, so_far.0, more, upto, small, first, second) in
    (next, omega (arith, next, third, test, total, upto, small))

pub returns : goal.returns
returns c = λ small some.
    let so_far = c.loop-at.invariant small some in
    let past = c.loop-at-test.false in
    let len = c.len-len.ensures in
    let all = ap (λ (l : List (List ℕ)). weight l) (take_all c.loop-at.at c.args.items.now (omega (arith, past, len))) in
    absurd (omega (arith, so_far.1, all))
