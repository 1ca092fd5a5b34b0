use Rattle.std.proofs.Common.{◌≡◌, ◌+◌, ◌≤◌, ◌<◌, ℕ, List, Some, None, [], length, map, take, get_or, slice_get, refl, sym, ◌∙◌, ap, subst, arith}
use Rattle.std.proofs.lemmas.List.{length-map, length-take-le}
use Rattle.gx_tree.specs.Changing.{link_bytes}
use Rattle.gx_tree.proofs.Causes.{broken_is}
use Rattle.gx_tree.proofs.Chooses.{key_front, key_long}
use Rattle.gx_tree.proofs.Relinks.{get_link}
use Rattle.gx_tree.proofs.relinking.upper_sibling.Goals as goal

pub returns-in_default-clause-cause : goal.returns-in_default-clause-cause
returns-in_default-clause-cause c =
    broken_is c.broken.result c.args.page _ c.broken.ensures (λ links are below.
    let past = c.in_default.ensures.none in
    let same = ap (λ (l : List (List ℕ)). length l) are in
    omega (arith, past, same, below, length-map links link_bytes))

read : (items : List (List ℕ)) (links : List (List ℕ × ℕ)) (place : ℕ) (d : List ℕ × ℕ) (item : List ℕ) → items ≡ map link_bytes links → slice_get items place ≡ Some item → item ≡ link_bytes (get_or links place d)
read items links place d item are at = get_link links place d item (ap (λ (l : List (List ℕ)). slice_get l place) (sym are) ∙ at)

pub returns-in_default-checked_sub-clause-cause : goal.returns-in_default-checked_sub-clause-cause
returns-in_default-checked_sub-clause-cause c =
    broken_is c.broken-in_default-checked_sub.result c.args.page _ c.broken-in_default-checked_sub.ensures (λ links are below.
    let long = key_long c.in-Some.item.now _ _ (read c.args.items.now links c.args.right.place ([], 0) c.in-Some.item.now are c.in-Some.ensures.some) in
    c.in_default-checked_sub.ensures (omega (arith, long)))

pub slice_bounds-front-end : goal.slice_bounds-front-end
slice_bounds-front-end c = sym (length-take-le c.in-Some-checked_sub.end c.in-Some.item.now (let place = c.in-Some-checked_sub.ensures in omega (arith, place)))

pub returns-clause-key : goal.returns-clause-key
returns-clause-key c = λ links d are below.
    c.in-Ok.ensures ∙ key_front c.in-Some.item.now _ _ c.in-Some-checked_sub.end (read c.args.items.now links c.args.right.place d c.in-Some.item.now are c.in-Some.ensures.some) (let place = c.in-Some-checked_sub.ensures in omega (arith, place))
