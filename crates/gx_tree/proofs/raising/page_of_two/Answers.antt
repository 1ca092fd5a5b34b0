use Rattle.std.proofs.Common.{◌≡◌, ◌≤◌, ◌<◌, ◌+◌, ◌++◌, ◌∷◌, [], ℕ, List, Option, Some, None, length, refl, sym, ◌∙◌, ap, subst, arith}
use Rattle.gx_slot.specs.Slots.{Slots, taken, with_item}
use Rattle.gx_tree.proofs.Causes.{broken_is}
use Rattle.gx_tree.proofs.raising.page_of_two.Goals as goal

pub returns-in-Err-clause-cause : goal.returns-in-Err-clause-cause
returns-in-Err-clause-cause c =
    broken_is c.broken.result c.args.page _ c.broken.ensures (λ few others.
    let empty : taken c.new-top.result.items ≡ 0 = ap (λ (s : Slots). taken s.items) c.new-top.ensures in
    let room = c.in-Err.ensures.refused.0 in
    let small = c.in-Err.ensures.refused.1 in
    omega (arith, few, empty, room, small))

pub returns-in-Err-add-clause-cause : goal.returns-in-Err-add-clause-cause
returns-in-Err-add-clause-cause c =
    broken_is c.broken-in-Err-add.result c.args.page _ c.broken-in-Err-add.ensures (λ few others.
    let one : taken c.add.new.self.items ≡ taken (Some c.args.one.now ∷ []) = ap (λ (s : Slots). taken s.items) (c.in-Ok.ensures.added ∙ ap (λ (s : Slots). with_item s (Some c.args.one.now)) c.new-top.ensures) in
    let room = c.in-Err-add.ensures.refused.0 in
    let small = c.in-Err-add.ensures.refused.1 in
    omega (arith, few, others, one, room, small))

pub returns-clause-made : goal.returns-clause-made
returns-clause-made c =
    c.in-Ok-add.ensures.added ∙ ap (λ (s : Slots). with_item s (Some c.args.other.now)) (c.in-Ok.ensures.added ∙ ap (λ (s : Slots). with_item s (Some c.args.one.now)) c.new-top.ensures)
