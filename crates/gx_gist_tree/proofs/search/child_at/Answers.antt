use Rattle.std.proofs.Common.{◌≡◌, inr, List, ℕ, length, drop, sym, ◌∙◌, ap, arith}
use Rattle.gx_gist.specs.declared.test.Test.{Test}
use Rattle.gx_gist_tree.specs.Trees.{passes}
use Rattle.gx_gist_tree.specs.OnPages.{inner_item}
use Rattle.gx_gist_tree.proofs.ItemFacts.{answered, inner_long, inner_key, one_child, then_some, then_none}
use Rattle.gx_gist_tree.proofs.search.child_at.Goals as goal

pub returns-in_default-inner_parts-clause-cause : goal.returns-in_default-inner_parts-clause-cause
returns-in_default-inner_parts-clause-cause g c = inr (
  c.no_item-in_default-inner_parts.ensures,
  λ child key valid is.
      let bytes = g.C.GistClass.spelling c.args.class.now in
      let there : c.in-Some.item.now ≡ inner_item bytes child key = (let at = c.in-Some.ensures in cc) in
      let short = c.in_default-inner_parts.ensures.none in
      omega (arith, short, inner_long bytes child key, ap (λ (l : List ℕ). length l) there),
)

pub returns-in_default-tested-clause-cause : goal.returns-in_default-tested-clause-cause
returns-in_default-tested-clause-cause g c = inr (
  c.no_item-in_default-tested.ensures,
  λ child key valid is.
      let class = c.args.class.now in
      let bytes = g.C.GistClass.spelling class in
      let there : c.in-Some.item.now ≡ inner_item bytes child key = (let at = c.in-Some.ensures in cc) in
      c.in_default-tested.not-Some (g.C.GistClass.inner_test class key c.args.query.now)
      (answered (g.C.GistClass.valid_key class) bytes (λ a b va vb. g.met.C.GistClass.one_spelling class a b c.requires.class va vb)
      (λ k. g.C.GistClass.inner_test class k c.args.query.now) c.in-Some-inner_parts.key.now c.in-Ok.tested c.in-Ok.ensures key valid
      (c.in-Some-inner_parts.ensures.key ∙ ap (λ (l : List ℕ). drop 8 l) there ∙ inner_key bytes child key)),
)

pub returns-then-goes_on-clause-some : goal.returns-then-goes_on-clause-some
returns-then-goes_on-clause-some g c = λ child key valid small is.
    let class = c.args.class.now in
    let bytes = g.C.GistClass.spelling class in
    let there : c.in-Some.item.now ≡ inner_item bytes child key = (let at = c.in-Some.ensures in cc) in
    let tested =
    answered (g.C.GistClass.valid_key class) bytes (λ a b va vb. g.met.C.GistClass.one_spelling class a b c.requires.class va vb)
    (λ k. g.C.GistClass.inner_test class k c.args.query.now) c.in-Some-inner_parts.key.now c.in-Ok.tested c.in-Ok.ensures key valid
    (c.in-Some-inner_parts.ensures.key ∙ ap (λ (l : List ℕ). drop 8 l) there ∙ inner_key bytes child key) in
    let same : c.in-Some-tested.test ≡ g.C.GistClass.inner_test class key c.args.query.now = (let was = c.in-Some-tested.is in cc) in
    then_some (g.C.GistClass.inner_test class key c.args.query.now) c.in-Some-inner_parts.child child
    (ap (λ (t : Test). passes t) (sym same) ∙ sym c.goes_on.ensures ∙ c.if-goes_on.true)
    (one_child bytes c.in-Some.item.now c.in-Some-inner_parts.child child key c.in-Some-inner_parts.ensures.fits small there c.in-Some-inner_parts.ensures.page)

pub returns-else-goes_on-clause-some : goal.returns-else-goes_on-clause-some
returns-else-goes_on-clause-some g c = λ child key valid small is.
    let class = c.args.class.now in
    let bytes = g.C.GistClass.spelling class in
    let there : c.in-Some.item.now ≡ inner_item bytes child key = (let at = c.in-Some.ensures in cc) in
    let tested =
    answered (g.C.GistClass.valid_key class) bytes (λ a b va vb. g.met.C.GistClass.one_spelling class a b c.requires.class va vb)
    (λ k. g.C.GistClass.inner_test class k c.args.query.now) c.in-Some-inner_parts.key.now c.in-Ok.tested c.in-Ok.ensures key valid
    (c.in-Some-inner_parts.ensures.key ∙ ap (λ (l : List ℕ). drop 8 l) there ∙ inner_key bytes child key) in
    let same : c.in-Some-tested.test ≡ g.C.GistClass.inner_test class key c.args.query.now = (let was = c.in-Some-tested.is in cc) in
    then_none (g.C.GistClass.inner_test class key c.args.query.now) child (ap (λ (t : Test). passes t) (sym same) ∙ sym c.goes_on.ensures ∙ c.if-goes_on.false)
