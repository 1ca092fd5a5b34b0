use Rattle.std.proofs.Common.{◌≡◌, ◌≤◌, ◌<◌, ◌+◌, ◌++◌, ◌∷◌, [], ℕ, List, Option, Some, None, length, map, take, drop, refl, sym, ◌∙◌, ap, arith}
use Rattle.std.proofs.lemmas.List.{map_push}
use Rattle.gx_slot.specs.Slots.{Slots, with_item}
use Rattle.gx_tree.specs.Trees.{slots}
use Rattle.gx_tree.proofs.Weights.{page_full, page_more, page_none}
use Rattle.gx_tree.proofs.splitting.page_with.Goals as goal

pub loop-at-init : goal.loop-at-init
loop-at-init c = c.new-made.ensures ∙ ap (λ (l : List (List ℕ)). slots c.args.kind c.args.level (map (λ (i : List ℕ). Some i) l)) (sym (page_none c.args.items.now c.args.from))

pub returns-in_default-clause-none : goal.returns-in_default-clause-none
returns-in_default-clause-none c = λ within. absurd (let test = c.loop-at-test.true in let past = c.in_default.ensures.none in omega (arith, within, test, past))

pub returns-in-Err-clause-none : goal.returns-in-Err-clause-none
returns-in-Err-clause-none c = λ within.
    page_full c.args.items.now c.args.from c.loop-at.at c.args.end c.in-Err.field-0.free c.in-Some.item.now c.loop-at.made.items (let low = c.loop-at.auto.at in omega (arith, low)) c.loop-at-test.true within c.in-Some.ensures.some
    (ap (λ (s : Slots). s.items) c.loop-at.invariant) c.in-Err.ensures.refused.0 c.in-Err.ensures.refused.1

pub loop-at-preserved : goal.loop-at-preserved
loop-at-preserved c =
    c.in-Ok.ensures.added ∙ ap (λ (s : Slots). with_item s (Some c.in-Some.item.now)) c.loop-at.invariant
    ∙ ap (λ (l : List (Option (List ℕ))). slots c.args.kind c.args.level l)
    (sym (map_push (λ (i : List ℕ). Some i) (drop c.args.from (take c.loop-at.at c.args.items.now)) c.in-Some.item.now)
    ∙ ap (λ (l : List (List ℕ)). map (λ (i : List ℕ). Some i) l) (sym (page_more c.args.items.now c.args.from c.loop-at.at c.in-Some.item.now (let low = c.loop-at.auto.at in omega (arith, low)) c.in-Some.ensures.some)))

pub returns-clause-some : goal.returns-clause-some
returns-clause-some c = λ order.
    let past = c.loop-at-test.false in
    let most = c.loop-at.auto.at-end order in
    let ends : c.loop-at.at ≡ c.args.end = omega (arith, past, most) in
    c.loop-at.invariant ∙ ap (λ (n : ℕ). slots c.args.kind c.args.level (map (λ (i : List ℕ). Some i) (drop c.args.from (take n c.args.items.now)))) ends
