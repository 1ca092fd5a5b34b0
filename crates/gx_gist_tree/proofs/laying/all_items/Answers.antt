use Rattle.std.proofs.Common.{◌≡◌, ◌-◌, ◌++◌, ℕ, List, take, drop, ◌∙◌, ap, arith}
use Rattle.gx_slot.specs.Slots.{taken}
use Rattle.gx_gist_tree.specs.Insertion.{items_in}
use Rattle.gx_gist_tree.proofs.ItemSteps.{items_whole}
use Rattle.gx_gist_tree.proofs.Picks.{somes}
use Rattle.gx_gist_tree.proofs.RoomFacts.{taken_in}
use Rattle.gx_gist_tree.proofs.laying.all_items.Goals as goal

pub returns-clause-ok : goal.returns-clause-ok
returns-clause-ok c =
    c.in_ok-push_items.ensures.ok ∙ ap (λ (l : List (List ℕ)). l ++ items_in (take (c.count.result - 0) (drop 0 c.args.slots.now.items))) c.new-items.ensures
    ∙ items_whole c.args.slots.now.items c.count.result c.count.ensures

pub returns-clause-room : goal.returns-clause-room
returns-clause-room c =
    let is : c.push_items.new.items ≡ items_in c.args.slots.now.items =
    c.in_ok-push_items.ensures.ok ∙ ap (λ (l : List (List ℕ)). l ++ items_in (take (c.count.result - 0) (drop 0 c.args.slots.now.items))) c.new-items.ensures
    ∙ items_whole c.args.slots.now.items c.count.result c.count.ensures in
    let same = ap (λ (l : List (List ℕ)). taken (somes l)) is in
    let few = taken_in c.args.slots.now.items in
    let all = c.free-free.ensures in
    omega (arith, same, few, all)
