use Rattle.std.proofs.Common.{◌≡◌, ◌<◌, ◌+◌, ◌++◌, ◌∷◌, [], ℕ, List, length, map, take, get_or, Option, Some, None, sym, ◌∙◌, ap, arith}
use Rattle.std.proofs.lemmas.List.{length-map}
use Rattle.gx_tree.specs.Trees.{link}
use Rattle.gx_tree.proofs.Linked.{push_step}
use Rattle.gx_tree.proofs.children.push_children.Goals as goal

below_items : (its : List (Option (List ℕ))) (items : List (List ℕ × ℕ)) (count slot : ℕ) → its ≡ map link items → count ≡ length its → slot < count → slot < length items
below_items its items count slot are len below =
    let same = ap (λ (l : List (Option (List ℕ))). length l) are in
    omega (arith, len, below, same, length-map items link)

pub returns-in_default-clause-cause : goal.returns-in_default-clause-cause
returns-in_default-clause-cause c = (
  λ e. cc,
  λ items are fit.
      let none : None ≡ Some (get_or items c.loop-slot.slot ([], 0)).1 =
      sym c.in_default.is ∙ c.child_at.ensures items [] 0 are fit (below_items c.args.slots.now.items items c.count-slot-end.result c.loop-slot.slot are c.count-slot-end.ensures c.loop-slot-test.true) in
      cc,
)

pub loop-slot-preserved : goal.loop-slot-preserved
loop-slot-preserved c = λ items are fit.
    let below = below_items c.args.slots.now.items items c.count-slot-end.result c.loop-slot.slot are c.count-slot-end.ensures c.loop-slot-test.true in
    c.in-Ok.ensures.items
    ∙ push_step c.args.to.now.items c.loop-slot.to.items items c.loop-slot.slot c.in-Some.child below
    (λ front child. let e : Some c.in-Some.child ≡ Some (get_or items c.loop-slot.slot (front, child)).1 = sym c.in-Some.is ∙ c.child_at.ensures items front child are fit below in cc)
    (c.loop-slot.invariant items are fit)
