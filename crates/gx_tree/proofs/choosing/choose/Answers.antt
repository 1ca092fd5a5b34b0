use Rattle.std.proofs.Common.{◌≡◌, ◌<◌, ◌≤◌, ℕ, List, Option, length, map, inl, refl, sym, ◌∙◌, ap, arith}
use Rattle.std.proofs.lemmas.List.{length-map}
use Rattle.std.proofs.lemmas.Result.{IfOk-weaker, IfErr-weaker}
use Rattle.gx_tree.specs.Trees.{link}
use Rattle.gx_tree.proofs.Causes.{broken_is, broken_weaker}
use Rattle.gx_tree.proofs.choosing.choose.Goals as goal

many : (its : List (Option (List ℕ))) (items : List (List ℕ × ℕ)) (count : ℕ) → its ≡ map link items → count ≡ length its → count ≡ length items
many its items count are is = is ∙ ap (λ (l : List (Option (List ℕ))). length l) are ∙ length-map items link

pub returns-then-count-eq0-clause-cause : goal.returns-then-count-eq0-clause-cause
returns-then-count-eq0-clause-cause g c =
    broken_is c.broken.result c.args.page _ c.broken.ensures
    (λ items are links some. let none = c.if-count-eq0.true in let e = many c.args.slots.now.items items c.count-count.result are c.count-count.ensures in omega (arith, none, e, some))

pub returns-clause-chosen : goal.returns-clause-chosen
returns-clause-chosen g c =
    IfOk-weaker c.choose_between.result _ _ (λ found finds items are.
    let e = many c.args.slots.now.items items c.count-count.result are c.count-count.ensures in
    finds items are (record { low = inl refl; high = inl e; within = omega (arith, e) }))
    c.choose_between.ensures.chosen

pub returns-clause-cause : goal.returns-clause-cause
returns-clause-cause g c =
    IfErr-weaker c.choose_between.result _ _ (λ error has.
    broken_weaker error c.args.page _ _ (λ refused items are links some.
    refused items are links (let e = many c.args.slots.now.items items c.count-count.result are c.count-count.ensures in omega (arith, e))) has)
    c.choose_between.ensures.cause
