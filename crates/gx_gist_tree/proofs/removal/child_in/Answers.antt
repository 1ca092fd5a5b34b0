use Rattle.std.proofs.Common.{◌≡◌, List, ℕ, length, arith}
use Rattle.std.proofs.Common.{ap}
use Rattle.gx_gist_tree.specs.OnPages.{inner_item}
use Rattle.gx_gist_tree.proofs.ItemFacts.{inner_long, one_child}
use Rattle.gx_gist_tree.proofs.removal.child_in.Goals as goal

pub returns-in_default-inner_parts-clause-cause : goal.returns-in_default-inner_parts-clause-cause
returns-in_default-inner_parts-clause-cause c = (
  c.no_item-in_default-inner_parts.ensures,
  λ child key is.
      let there : c.in-Some.item.now ≡ inner_item (λ (b : List ℕ). b) child key = (let at = c.in-Some.ensures in cc) in
      let short = c.in_default-inner_parts.ensures.none in
      omega (arith, short, inner_long (λ (b : List ℕ). b) child key, ap (λ (l : List ℕ). length l) there),
)

pub returns-clause-some : goal.returns-clause-some
returns-clause-some c = λ child key small is.
    let there : c.in-Some.item.now ≡ inner_item (λ (b : List ℕ). b) child key = (let at = c.in-Some.ensures in cc) in
    one_child (λ (b : List ℕ). b) c.in-Some.item.now c.in-Some-inner_parts.child child key c.in-Some-inner_parts.ensures.fits small there c.in-Some-inner_parts.ensures.page
