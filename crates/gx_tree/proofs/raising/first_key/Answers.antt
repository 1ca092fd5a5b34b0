use Rattle.std.proofs.Common.{◌≡◌, ◌≢◌, ◌<◌, ◌∷◌, [], ℕ, List, Option, Some, None, length, map, get_or, refl, sym, ◌∙◌, ap, subst, arith}
use Rattle.std.proofs.lemmas.Result.{IfOk-weaker, IfErr-weaker}
use Rattle.gx_tree.proofs.Causes.{broken_is, broken_weaker}
use Rattle.gx_tree.proofs.Chooses.{some_same}
use Rattle.gx_tree.proofs.raising.first_key.Goals as goal

pub returns-then-level-eq0-clause-leaf : goal.returns-then-level-eq0-clause-leaf
returns-then-level-eq0-clause-leaf g c = IfOk-weaker c.leaf_key.result _ _ (λ key has none least end item items are inside. has least end item items are inside) c.leaf_key.ensures.leaf

pub returns-then-level-eq0-clause-upper : goal.returns-then-level-eq0-clause-upper
returns-then-level-eq0-clause-upper g c =
    IfOk-weaker c.leaf_key.result _ _ (λ key has high. absurd (high (sym c.level-level.ensures ∙ c.if-level-eq0.true))) c.leaf_key.ensures.leaf

pub returns-then-level-eq0-clause-cause : goal.returns-then-level-eq0-clause-cause
returns-then-level-eq0-clause-cause g c =
    IfErr-weaker c.leaf_key.result _ _ (λ error has.
    broken_weaker error c.args.page _ _ (λ refused. ((λ none least end item items are inside. refused least end item items are inside), (λ high. absurd (high (sym c.level-level.ensures ∙ c.if-level-eq0.true))))) has)
    c.leaf_key.ensures.cause

pub returns-in_default-clause-cause : goal.returns-in_default-clause-cause
returns-in_default-clause-cause g c =
    broken_is c.broken.result c.args.page _ c.broken.ensures (
      (λ flat. absurd (c.if-level-eq0.false (c.level-level.ensures ∙ flat))),
      (λ high item items are. let e : None ≡ Some item.0 = c.in_default.ensures (item ∷ items) item are (omega arith) in cc),
    )

pub returns-clause-leaf : goal.returns-clause-leaf
returns-clause-leaf g c = λ flat. absurd (c.if-level-eq0.false (c.level-level.ensures ∙ flat))

pub returns-clause-upper : goal.returns-clause-upper
returns-clause-upper g c = λ high item items are.
    c.in-Ok.ensures ∙ some_same c.in-Some.key.now item.0 (c.in-Some.ensures (item ∷ items) item are (omega arith))
