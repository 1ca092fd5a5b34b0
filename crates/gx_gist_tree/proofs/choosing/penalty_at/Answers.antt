use Rattle.std.proofs.Common.{◌≡◌, inr, List, ℕ, length, drop, ◌∙◌, ap, arith, Some}
use Rattle.gx_gist_tree.specs.OnPages.{inner_item}
use Rattle.gx_gist_tree.proofs.ItemFacts.{answered, inner_long, inner_key}
use Rattle.gx_gist_tree.proofs.choosing.penalty_at.Goals as goal

pub returns-in_default-inner_parts-clause-cause : goal.returns-in_default-inner_parts-clause-cause
returns-in_default-inner_parts-clause-cause g c = inr (
  c.no_item-in_default-inner_parts.ensures,
  λ child key valid is.
      let bytes = g.C.GistClass.spelling c.args.class.now in
      let there : c.in-Some.item.now ≡ inner_item bytes child key = (let at = c.in-Some.ensures in cc) in
      let short = c.in_default-inner_parts.ensures.none in
      omega (arith, short, inner_long bytes child key, ap (λ (l : List ℕ). length l) there),
)

pub returns-in_default-found-clause-cause : goal.returns-in_default-found-clause-cause
returns-in_default-found-clause-cause g c = inr (
  c.no_item-in_default-found.ensures,
  λ child key valid is.
      let class = c.args.class.now in
      let bytes = g.C.GistClass.spelling class in
      let there : c.in-Some.item.now ≡ inner_item bytes child key = (let at = c.in-Some.ensures in cc) in
      c.in_default-found.not-Some (g.C.GistClass.growth class key c.args.key.now)
      (answered (g.C.GistClass.valid_key class) bytes (λ a b va vb. g.met.C.GistClass.one_spelling class a b c.requires.class va vb)
      (λ k. g.C.GistClass.growth class k c.args.key.now) c.in-Some-inner_parts.bytes.now c.in-Ok.found c.in-Ok.ensures key valid
      (c.in-Some-inner_parts.ensures.key ∙ ap (λ (l : List ℕ). drop 8 l) there ∙ inner_key bytes child key)),
)

pub returns-clause-some : goal.returns-clause-some
returns-clause-some g c = λ child key valid is.
    let class = c.args.class.now in
    let bytes = g.C.GistClass.spelling class in
    let there : c.in-Some.item.now ≡ inner_item bytes child key = (let at = c.in-Some.ensures in cc) in
    let tested : c.in-Ok.found ≡ Some (g.C.GistClass.growth class key c.args.key.now) =
    answered (g.C.GistClass.valid_key class) bytes (λ a b va vb. g.met.C.GistClass.one_spelling class a b c.requires.class va vb)
    (λ k. g.C.GistClass.growth class k c.args.key.now) c.in-Some-inner_parts.bytes.now c.in-Ok.found c.in-Ok.ensures key valid
    (c.in-Some-inner_parts.ensures.key ∙ ap (λ (l : List ℕ). drop 8 l) there ∙ inner_key bytes child key) in
    let was = c.in-Some-found.is in cc
