use Rattle.std.proofs.Common.{◌≡◌, ◌+◌, ◌≤◌, ◌<◌, ◌++◌, ◌∷◌, [], ◌^◌, ℕ, List, Bool, true, false, Option, Some, None, length, map, get_or, refl, sym, ◌∙◌, ap, subst, arith}
use Rattle.std.proofs.lemmas.List.{length-map}
use Rattle.std.proofs.lemmas.Result.{err_from_is_err_and, IfOk-weaker, IfErr-weaker}
use Rattle.gx_tree.specs.Changing.{AreLinks, beside, kept_of, link_bytes}
use Rattle.gx_tree.specs.Trees.{link}
use Rattle.gx_tree.proofs.Causes.{broken_is, broken_weaker}
use Rattle.gx_tree.proofs.Relinks.{get_middle, in_middle, kept_is, linked_items, links_fit, none_kept}
use Rattle.gx_tree.proofs.Upper.{link_map}
use Rattle.gx_tree.proofs.relinking.linked.Goals as goal

pub returns-in_default-clause-cause : goal.returns-in_default-clause-cause
returns-in_default-clause-cause g c =
    broken_is c.broken.result c.args.page _ c.broken.ensures (λ front back item are place links.
    none_kept c.args.kept
    (λ yes. let e : None ≡ Some (get_or (front ++ item ∷ back) c.args.slot ([], 0)).0 = c.in_default.ensures.kept yes (front ++ item ∷ back) ([], 0) are (in_middle front item back c.args.slot place) in cc)
    (λ no. let e : None ≡ Some (g.C.Seek.sought c.args.change.now) = c.in_default.ensures.own no in cc))

pub returns-in_default-child_at-clause-cause : goal.returns-in_default-child_at-clause-cause
returns-in_default-child_at-clause-cause g c =
    broken_is c.broken-in_default-child_at.result c.args.page _ c.broken-in_default-child_at.ensures (λ front back item are place links.
    let e : None ≡ Some (get_or (front ++ item ∷ back) c.args.slot ([], 0)).1 =
    c.in_default-child_at.ensures (front ++ item ∷ back) [] 0 are (links_fit g.C.Seek.order (front ++ item ∷ back) links) (in_middle front item back c.args.slot place) in
    cc)

pub returns-then-slot-count-clause-cause : goal.returns-then-slot-count-clause-cause
returns-then-slot-count-clause-cause g c =
    broken_is c.broken-then-slot-count.result c.args.page _ c.broken-then-slot-count.ensures (λ front back item are place links.
    let past = c.if-slot-count.true in
    let size = c.count-count.ensures in
    let same = ap (λ (l : List (Option (List ℕ))). length l) are in
    omega (arith, past, size, same, length-map (front ++ item ∷ back) link, in_middle front item back c.args.slot place))

pub returns-in_err-one-clause-cause : goal.returns-in_err-one-clause-cause
returns-in_err-one-clause-cause g c =
    let p = err_from_is_err_and c.from_residual.result c.from_residual.ensures.1 in
    rw (p.1, p.2, c.in_err-one.ensures.err) tt

pub returns-in_err-other-clause-cause : goal.returns-in_err-other-clause-cause
returns-in_err-other-clause-cause g c =
    let p = err_from_is_err_and c.from_residual-in_err-other.result c.from_residual-in_err-other.ensures.1 in
    rw (p.1, p.2, c.in_err-other.ensures.err) tt

raw : (its : List (Option (List ℕ))) (links : List (List ℕ × ℕ)) → its ≡ map link links → its ≡ map (λ item. Some item) (map link_bytes links)
raw its links are = are ∙ link_map links

many : (links : List (List ℕ × ℕ)) (slot : ℕ) → slot < length links → slot + 1 ≤ length (map link_bytes links)
many links slot below = omega (arith, below, length-map links link_bytes)

pub returns-clause-items : goal.returns-clause-items
returns-clause-items g c =
    IfOk-weaker c.gather.result _ _ (λ made is front back item are place links.
    let all = front ++ item ∷ back in
    let below = in_middle front item back c.args.slot place in
    let child : c.in-Some-child_at.child ≡ item.1 =
    (let e : Some c.in-Some-child_at.child ≡ Some (get_or all c.args.slot ([], 0)).1 = c.in-Some-child_at.ensures all [] 0 are (links_fit g.C.Seek.order all links) below in
    let f : c.in-Some-child_at.child ≡ (get_or all c.args.slot ([], 0)).1 = cc in f ∙ ap (λ (x : List ℕ × ℕ). x.1) (get_middle front item back c.args.slot ([], 0) place)) in
    let key : c.in-Some.key.now ≡ kept_of c.args.kept item.0 (g.C.Seek.sought c.args.change.now) =
    kept_is c.args.kept c.in-Some.key.now item.0 (g.C.Seek.sought c.args.change.now)
    (λ yes. c.in-Some.ensures.kept yes all ([], 0) are below ∙ ap (λ (x : List ℕ × ℕ). Some x.0) (get_middle front item back c.args.slot ([], 0) place)) c.in-Some.ensures.own in
    is (map link_bytes all) (raw c.args.slots.now.items all are) (omega arith) (many all c.args.slot below)
    ∙ linked_items front item back c.args.slot (kept_of c.args.kept item.0 (g.C.Seek.sought c.args.change.now)) c.as_slice.result.now c.in-Some-child_at.child c.args.sibling.now _ place child
    (c.as_slice.ensures ∙ c.in_ok-one.ensures.item ∙ ap (λ (k : List ℕ). link_bytes (k, c.in-Some-child_at.child)) key)
    (c.slice_of.ensures ∙ c.in_ok-other.ensures.item))
    c.gather.ensures.items

pub returns-clause-cause : goal.returns-clause-cause
returns-clause-cause g c =
    IfErr-weaker c.gather.result _ _ (λ error has.
    broken_weaker error c.args.page _ _ (λ refused front back item are place links.
    refused (map link_bytes (front ++ item ∷ back)) (raw c.args.slots.now.items (front ++ item ∷ back) are) (omega arith) (many (front ++ item ∷ back) c.args.slot (in_middle front item back c.args.slot place))) has)
    c.gather.ensures.cause
