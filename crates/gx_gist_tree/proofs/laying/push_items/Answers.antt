use Rattle.std.proofs.Common.{◌≡◌, ◌≤◌, ◌-◌, ◌++◌, ◌∷◌, [], ℕ, List, take, drop, sym, ◌∙◌, ap, arith}
use Rattle.gx_gist_tree.specs.Insertion.{items_in}
use Rattle.gx_gist_tree.proofs.ItemSteps.{items_some, items_none, items_start}
use Rattle.gx_gist_tree.proofs.laying.push_items.Goals as goal
use Rattle.gx_gist_tree.proofs.laying.push_items.Goals.{in-Some+in-Ok+in-Ok-push, in_default}

pub loop-slot-init : goal.loop-slot-init
loop-slot-init c = items_start c.args.items.now c.args.from (drop c.args.from c.args.slots.now.items)

pub loop-slot-preserved : goal.loop-slot-preserved
loop-slot-preserved c =
    let low : c.args.from ≤ c.loop-slot.slot = omega arith in
    elim c.match-item.branch [
      | in-Some+in-Ok+in-Ok-push w ↦ (w.items-is ∙ w.in-Ok-push.ensures.ok ∙ ap (λ (b : List ℕ). c.loop-slot.items ++ b ∷ []) w.in-Ok.ensures
          ∙ items_some c.args.items.now c.loop-slot.items c.args.from c.loop-slot.slot c.args.slots.now.items w.in-Some.item.now low (sym w.in-Some.ensures) c.loop-slot.invariant)
      | in_default w ↦ (w.items-is ∙ items_none c.args.items.now c.loop-slot.items c.args.from c.loop-slot.slot c.args.slots.now.items low (sym w.in_default.ensures) c.loop-slot.invariant)
    ]

pub returns-clause-ok : goal.returns-clause-ok
returns-clause-ok c =
    let e : c.loop-slot.slot ≡ c.args.to = (let test = c.loop-slot-test.false in omega arith) in
    c.loop-slot.invariant ∙ ap (λ (n : ℕ). c.args.items.now ++ items_in (take (n - c.args.from) (drop c.args.from c.args.slots.now.items))) e
