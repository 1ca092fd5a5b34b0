use Rattle.std.proofs.Common.{◌≡◌, ◌∷◌, ◌++◌, [], ℕ, List, Option, Some, None, map, refl, sym, ◌∙◌, ap, subst}
use Rattle.gx_slot.specs.Slots.{item_at}
use Rattle.gx_tree.proofs.Causes.{broken_is}
use Rattle.gx_tree.proofs.Leaves.{option_none, option_some}
use Rattle.gx_tree.proofs.raising.leaf_key.Goals as goal

pub returns-in_default-clause-cause : goal.returns-in_default-clause-cause
returns-in_default-clause-cause g c =
    broken_is c.broken.result c.args.page _ c.broken.ensures (λ least end item items are inside.
    let e : None ≡ Some item = c.in_default.ensures ∙ ap (λ (l : List (Option (List ℕ))). item_at l 0) are in cc)

first : (its : List (Option (List ℕ))) (item read : List ℕ) (items : List (List ℕ)) → its ≡ map (λ i. Some i) (item ∷ items) → Some read ≡ item_at its 0 → item ≡ read
first its item read items are is = let e : Some read ≡ Some item = is ∙ ap (λ (l : List (Option (List ℕ))). item_at l 0) are in cc

pub returns-in_default-found-clause-cause : goal.returns-in_default-found-clause-cause
returns-in_default-found-clause-cause g c =
    broken_is c.broken-in_default-found.result c.args.page _ c.broken-in_default-found.ensures (λ least end item items are inside.
    option_none c.in-Ok.found _ _ c.in_default-found.is c.in-Ok.ensures least end [] items
    (subst (λ (x : List ℕ). g.C.Seek.order.AreIn least end (x ∷ items)) (first c.args.slots.now.items item c.in-Some.item.now items are c.in-Some.ensures) inside))

pub returns-clause-leaf : goal.returns-clause-leaf
returns-clause-leaf g c = λ least end item items are inside.
    let same = first c.args.slots.now.items item c.in-Some.item.now items are c.in-Some.ensures in
    subst (λ (x : List ℕ). g.C.Seek.order.IsLeast x c.in-Some-found.key) (sym same)
    (option_some c.in-Ok.found _ _ c.in-Some-found.key c.in-Some-found.is c.in-Ok.ensures least end [] items (subst (λ (x : List ℕ). g.C.Seek.order.AreIn least end (x ∷ items)) same inside))
