-- The front of the label decides.
use Rattle.std.proofs.Common.{◌≡◌, ◌↔◌, ℕ, List, length, take, IsTrue, subst, ◌≤◌, ◌⊎◌, true, false}
use Rattle.gx_lquery.specs.Matching.{folded}
use Rattle.gx_lquery.proofs.VariantLemmas.{by_front, whole_by}
use Rattle.gx_lquery.proofs.variant.variant_matches.Goals as goal

pub returns : goal.returns
returns c =
    let P : List ℕ → Type 0 = λ w. IsTrue c.same_letters.result ↔ (folded c.args.variant.now.caseless (take (length w) c.args.label.now) ≡ folded c.args.variant.now.caseless w) in
    let Q : List ℕ → Type 0 = λ w. length w ≤ length c.args.label.now in
    let R : List ℕ → Type 0 = λ w. ((c.args.variant.now.prefix ≡ false) × (length c.args.label.now ≡ length w)) ⊎ (c.args.variant.now.prefix ≡ true) in
    by_front c.args.variant.now c.args.label.now c.same_letters.result (subst Q c.as_slice-wanted.ensures c.if-label-wanted.false) (whole_by c.args.variant.now.prefix _ _ (subst R c.as_slice-wanted.ensures c.if-label-wanted-2.either)) (subst P c.as_slice-wanted.ensures c.same_letters.ensures)
