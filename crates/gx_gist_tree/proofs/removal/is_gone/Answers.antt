use Rattle.std.proofs.Common.{◌≡◌, List, ℕ, length, ◌∙◌, ap, arith}
use Rattle.gx_pages.specs.declared.row.RowRef.{RowRef}
use Rattle.gx_gist_tree.specs.OnPages.{is_in, leaf_item}
use Rattle.gx_gist_tree.proofs.ItemFacts.{leaf_long, one_row}
use Rattle.gx_gist_tree.proofs.StripFacts.{has_is}
use Rattle.gx_gist_tree.proofs.removal.is_gone.Goals as goal

pub returns-in_default-leaf_parts-clause-cause : goal.returns-in_default-leaf_parts-clause-cause
returns-in_default-leaf_parts-clause-cause c = (
  c.no_item.ensures,
  (
    (λ none. let at = c.in-Some.ensures in cc),
    λ row key is.
        let there : c.in-Some.item.now ≡ leaf_item (λ (b : List ℕ). b) (row, key) = (let at = c.in-Some.ensures in cc) in
        let short = c.in_default-leaf_parts.ensures.none in
        omega (arith, short, leaf_long (λ (b : List ℕ). b) (row, key), ap (λ (l : List ℕ). length l) there),
  ),
)

pub returns-clause-some : goal.returns-clause-some
returns-clause-some c = λ row key fits is.
    let there : c.in-Some.item.now ≡ leaf_item (λ (b : List ℕ). b) (row, key) = (let at = c.in-Some.ensures in cc) in
    let same = one_row (λ (b : List ℕ). b) c.in-Some.item.now c.in-Some-leaf_parts.row (row, key) c.in-Some-leaf_parts.ensures.fits fits there
    c.in-Some-leaf_parts.ensures.number c.in-Some-leaf_parts.ensures.page c.in-Some-leaf_parts.ensures.slot in
    has_is c.args.rows.now c.in-Some-leaf_parts.row.number c.has.result c.has.ensures ∙ ap (λ (r : RowRef). is_in c.args.rows.now r.number) same
