use Rattle.std.proofs.Common.{◌≡◌, inr, List, ℕ, length, drop, sym, ◌∙◌, ap, arith}
use Rattle.gx_gist.specs.declared.test.Test.{Test}
use Rattle.gx_gist_tree.specs.Trees.{passes}
use Rattle.gx_gist_tree.specs.OnPages.{leaf_item}
use Rattle.gx_gist_tree.proofs.ItemFacts.{answered, leaf_long, leaf_key, one_row, then_some, then_none}
use Rattle.gx_gist_tree.proofs.search.row_at.Goals as goal

pub returns-in_default-leaf_parts-clause-cause : goal.returns-in_default-leaf_parts-clause-cause
returns-in_default-leaf_parts-clause-cause g c = inr (
  c.no_item.ensures,
  (
    (λ none. let at = c.in-Some.ensures in cc),
    λ e valid is.
        let bytes = g.C.GistClass.spelling c.args.class.now in
        let there : c.in-Some.item.now ≡ leaf_item bytes e = (let at = c.in-Some.ensures in cc) in
        let short = c.in_default-leaf_parts.ensures.none in
        omega (arith, short, leaf_long bytes e, ap (λ (l : List ℕ). length l) there),
  ),
)

pub returns-in_default-tested-clause-cause : goal.returns-in_default-tested-clause-cause
returns-in_default-tested-clause-cause g c = inr (
  c.no_item-in_default-tested.ensures,
  (
    (λ none. let at = c.in-Some.ensures in cc),
    λ e valid is.
        let class = c.args.class.now in
        let bytes = g.C.GistClass.spelling class in
        let there : c.in-Some.item.now ≡ leaf_item bytes e = (let at = c.in-Some.ensures in cc) in
        c.in_default-tested.not-Some (g.C.GistClass.leaf_test class e.1 c.args.query.now)
        (answered (g.C.GistClass.valid_key class) bytes (λ a b va vb. g.met.C.GistClass.one_spelling class a b c.requires.class va vb)
        (λ k. g.C.GistClass.leaf_test class k c.args.query.now) c.in-Some-leaf_parts.key.now c.in-Ok.tested c.in-Ok.ensures e.1 valid
        (c.in-Some-leaf_parts.ensures.key ∙ ap (λ (l : List ℕ). drop 18 l) there ∙ leaf_key bytes e)),
  ),
)

pub returns-then-goes_on-clause-some : goal.returns-then-goes_on-clause-some
returns-then-goes_on-clause-some g c = λ e valid small is.
    let class = c.args.class.now in
    let bytes = g.C.GistClass.spelling class in
    let there : c.in-Some.item.now ≡ leaf_item bytes e = (let at = c.in-Some.ensures in cc) in
    let tested =
    answered (g.C.GistClass.valid_key class) bytes (λ a b va vb. g.met.C.GistClass.one_spelling class a b c.requires.class va vb)
    (λ k. g.C.GistClass.leaf_test class k c.args.query.now) c.in-Some-leaf_parts.key.now c.in-Ok.tested c.in-Ok.ensures e.1 valid
    (c.in-Some-leaf_parts.ensures.key ∙ ap (λ (l : List ℕ). drop 18 l) there ∙ leaf_key bytes e) in
    let same : c.in-Some-tested.test ≡ g.C.GistClass.leaf_test class e.1 c.args.query.now = (let was = c.in-Some-tested.is in cc) in
    then_some (g.C.GistClass.leaf_test class e.1 c.args.query.now) c.in-Some-leaf_parts.row e.0
    (ap (λ (t : Test). passes t) (sym same) ∙ sym c.goes_on.ensures ∙ c.if-goes_on.true)
    (one_row bytes c.in-Some.item.now c.in-Some-leaf_parts.row e c.in-Some-leaf_parts.ensures.fits small there c.in-Some-leaf_parts.ensures.number c.in-Some-leaf_parts.ensures.page c.in-Some-leaf_parts.ensures.slot)

pub returns-else-goes_on-clause-some : goal.returns-else-goes_on-clause-some
returns-else-goes_on-clause-some g c = λ e valid small is.
    let class = c.args.class.now in
    let bytes = g.C.GistClass.spelling class in
    let there : c.in-Some.item.now ≡ leaf_item bytes e = (let at = c.in-Some.ensures in cc) in
    let tested =
    answered (g.C.GistClass.valid_key class) bytes (λ a b va vb. g.met.C.GistClass.one_spelling class a b c.requires.class va vb)
    (λ k. g.C.GistClass.leaf_test class k c.args.query.now) c.in-Some-leaf_parts.key.now c.in-Ok.tested c.in-Ok.ensures e.1 valid
    (c.in-Some-leaf_parts.ensures.key ∙ ap (λ (l : List ℕ). drop 18 l) there ∙ leaf_key bytes e) in
    let same : c.in-Some-tested.test ≡ g.C.GistClass.leaf_test class e.1 c.args.query.now = (let was = c.in-Some-tested.is in cc) in
    then_none (g.C.GistClass.leaf_test class e.1 c.args.query.now) e.0 (ap (λ (t : Test). passes t) (sym same) ∙ sym c.goes_on.ensures ∙ c.if-goes_on.false)
