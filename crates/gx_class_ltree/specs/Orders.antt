-- What is known of a path of which only the first labels are.
use Rattle.std.specs.Prelude.{◌≡◌, ℕ, ◌<◌, ◌≤◌, Bool, true, false, ◌&&◌, List, [], ◌∷◌, ◌++◌, length, Option, None, Some, bytes_eq, refl}
use Rattle.std.specs.Ordering.{nat_cmp, is_eq, is_le, is_gt, is_ge, ordering_then}
use Rattle.std.specs.Cmp.{IsTotalOrder}
use Rattle.std.specs.Cmp.Lexicographic.{slice_cmp}
use Rattle.std.specs.declared.cmp.Ordering.{Ordering}
use Rattle.std.specs.declared.cmp.Ordering.TheVariants as ordering
use Rattle.std.proofs.Common.{sym, ap, ◌∙◌, arith, true≢false}
use Rattle.std.proofs.lemmas.Cmp.{upto, lists_total, nat_list_cmp_total}
use Rattle.std.proofs.lemmas.Slice.Eq.{bytes_eq-Decides}
use Rattle.std.proofs.lemmas.Map.Text.{is_eq-slice_cmp}
use Rattle.gx_ltree.specs.Operators.{order, begins_with}
use Rattle.gx_class_ltree.specs.Tests.{cut_order, after}

pub order_total : IsTotalOrder order
order_total = lists_total nat_list_cmp_total

le_not_gt : (r : Ordering) → is_le r ≡ true → is_gt r ≡ false
le_not_gt ordering.Less e = refl
le_not_gt ordering.Equal e = refl
le_not_gt ordering.Greater e = sym e

not_gt_le : (r : Ordering) → is_gt r ≡ false → is_le r ≡ true
not_gt_le ordering.Less e = refl
not_gt_le ordering.Equal e = refl
not_gt_le ordering.Greater e = sym e

pub le_trans : {K : Type 0} (R : K → K → Ordering) → IsTotalOrder R → (x y z : K) → is_le (R x y) ≡ true → is_le (R y z) ≡ true → is_le (R x z) ≡ true
le_trans R o x y z p q = not_gt_le (R x z) (upto o x y z (le_not_gt (R x y) p) (le_not_gt (R y z) q))

equal_labels : (l m : List ℕ) → slice_cmp nat_cmp l m ≡ ordering.Equal → bytes_eq m l ≡ true
equal_labels l m e =
    let same : l ≡ m = (bytes_eq-Decides l m).0 (sym (is_eq-slice_cmp l m) ∙ ap is_eq e) in
    (bytes_eq-Decides m l).1 (sym same)

-- Either p and q differ at a label, or q is a prefix of p, or p is a proper prefix of q.
abbrev pub Tells : Option Ordering → Ordering → Bool → Type 0
Tells None o inside = (o ≡ ordering.Less) × (inside ≡ true)
Tells (Some ordering.Less) o inside = o ≡ ordering.Less
Tells (Some ordering.Equal) o inside = ⊥
Tells (Some ordering.Greater) o inside = is_ge o ≡ true

tells_after : (o : Ordering) (rest : Option Ordering) (below : Ordering) (same inside : Bool) → (o ≡ ordering.Equal → same ≡ true) → Tells rest below inside → Tells (after o rest) (ordering_then o below) (same && inside)
tells_after ordering.Less rest below same inside f t = refl
tells_after ordering.Greater rest below same inside f t = refl
tells_after ordering.Equal rest below same inside f t = rw (f refl) t

pub cut_tells : (p q : List (List ℕ)) → Tells (cut_order p q) (order p q) (begins_with q p)
cut_tells [] [] = refl
cut_tells (l ∷ p) [] = refl
cut_tells [] (m ∷ q) = (refl, refl)
cut_tells (l ∷ p) (m ∷ q) =
    tells_after (slice_cmp nat_cmp l m) (cut_order p q) (order p q) (bytes_eq m l) (begins_with q p) (equal_labels l m) (cut_tells p q)

-- A path that goes on behind p compares so with q.
abbrev pub Decided : Option Ordering → Ordering → Type 0
Decided None o = Unit {0}
Decided (Some d) o = o ≡ d

decided_after : (o : Ordering) (rest : Option Ordering) (below : Ordering) → Decided rest below → Decided (after o rest) (ordering_then o below)
decided_after ordering.Less rest below d = refl
decided_after ordering.Greater rest below d = refl
decided_after ordering.Equal rest below d = d

pub cut_decided : (p more q : List (List ℕ)) → 0 < length more → Decided (cut_order p q) (order (p ++ more) q)
cut_decided [] [] [] some = absurd (omega (arith, some))
cut_decided [] (x ∷ more) [] some = refl
cut_decided [] more (m ∷ q) some = tt
cut_decided (l ∷ p) more [] some = refl
cut_decided (l ∷ p) more (m ∷ q) some = decided_after (slice_cmp nat_cmp l m) (cut_order p q) (order (p ++ more) q) (cut_decided p more q some)

-- Prefixes of a path that goes on.
both_mono : (a b c : Bool) → (b ≡ true → c ≡ true) → (a && b) ≡ true → (a && c) ≡ true
both_mono true b c f e = f e
both_mono false b c f e = e

pub begins_append : (p more q : List (List ℕ)) → length q ≤ length p → begins_with (p ++ more) q ≡ begins_with p q
begins_append [] [] [] h = refl
begins_append [] (x ∷ more) [] h = refl
begins_append (l ∷ p) more [] h = refl
begins_append [] more (m ∷ q) h = absurd (omega (arith, h))
begins_append (l ∷ p) more (m ∷ q) h = ap (λ (b : Bool). bytes_eq l m && b) (begins_append p more q (omega (arith, h)))

pub begins_trans : (p more q : List (List ℕ)) → begins_with q (p ++ more) ≡ true → begins_with q p ≡ true
begins_trans [] more q e = refl
begins_trans (l ∷ p) more [] e = absurd (true≢false (sym e))
begins_trans (l ∷ p) more (m ∷ q) e = both_mono (bytes_eq m l) (begins_with q (p ++ more)) (begins_with q p) (begins_trans p more q) e
