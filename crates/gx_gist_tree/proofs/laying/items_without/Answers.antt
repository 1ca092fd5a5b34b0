use Rattle.std.proofs.Common.{◌-◌, ◌++◌, ℕ, List, take, drop, ◌∙◌, ap, arith}
use Rattle.gx_slot.specs.Slots.{taken}
use Rattle.gx_gist_tree.specs.Insertion.{items_in}
use Rattle.gx_gist_tree.proofs.ItemSteps.{items_around}
use Rattle.gx_gist_tree.proofs.Picks.{somes}
use Rattle.gx_gist_tree.proofs.RoomFacts.{taken_but}
use Rattle.gx_gist_tree.proofs.laying.items_without.Goals as goal

pub returns-clause-ok : goal.returns-clause-ok
returns-clause-ok c =
    items_around c.args.slots.now.items c.args.slot c.count-count.result c.push_items.new.items c.push_items-2.new.items c.count-count.ensures
    (c.in_ok-push_items.ensures.ok ∙ ap (λ (l : List (List ℕ)). l ++ items_in (take (c.args.slot - 0) (drop 0 c.args.slots.now.items))) c.new-items.ensures) c.in_ok-push_items-2.ensures.ok

pub returns-clause-room : goal.returns-clause-room
returns-clause-room c =
    let is = items_around c.args.slots.now.items c.args.slot c.count-count.result c.push_items.new.items c.push_items-2.new.items c.count-count.ensures
    (c.in_ok-push_items.ensures.ok ∙ ap (λ (l : List (List ℕ)). l ++ items_in (take (c.args.slot - 0) (drop 0 c.args.slots.now.items))) c.new-items.ensures) c.in_ok-push_items-2.ensures.ok in
    let same = ap (λ (l : List (List ℕ)). taken (somes l)) is in
    let few = taken_but c.args.slots.now.items c.args.slot in
    let all = c.free-free.ensures in
    omega (arith, same, few, all)
