-- The order of places is total, and how numbers from 0 go on.
use Rattle.std.proofs.Common.{◌≡◌, ℕ, zero, suc, ◌+◌, List, ◌∷◌, [], ◌++◌, length, sym, ap, subst, arith, add-zero, refl}
use Rattle.std.specs.Prelude.{IsPermutation, IsSortedBy}
use Rattle.std.specs.List.{range_with_len, slice_get}
use Rattle.std.specs.Ordering.{is_lt}
use Rattle.std.specs.Cmp.{IsTotalOrder}
use Rattle.std.specs.Cmp.Lexicographic.{options_total}
use Rattle.std.specs.declared.cmp.Ordering.{Ordering}
use Rattle.std.proofs.lemmas.Cmp.{nat_cmp_total, then_total, on_total}
use Rattle.gx_gist.specs.Orders.{place_cmp, AreRanked}

pub place_total : {K : Type 0} (R : K → K → Ordering) → IsTotalOrder R → (keys : List K) → IsTotalOrder (place_cmp R keys)
place_total R o keys = then_total (on_total (slice_get keys) (options_total o)) nat_cmp_total

pub range_more : (a n : ℕ) → range_with_len a (suc n) ≡ range_with_len a n ++ (a + n) ∷ []
range_more a zero = rw add-zero refl
range_more a (suc n) = let next : a + 1 + n ≡ a + suc n = omega arith in rw (← next) (ap (λ (xs : List ℕ). a ∷ xs) (range_more (a + 1) n))

pub ranked_from : {K : Type 0} (R : K → K → Ordering) (keys : List K) (old items made : List ℕ) → old ≡ range_with_len 0 (length keys) → IsPermutation old items
    → IsSortedBy (λ a b. is_lt (place_cmp R keys a b)) items → made ≡ items → AreRanked R keys made
ranked_from R keys old items made range perm up same =
    let P : List ℕ → Type 0 = λ t. IsPermutation t items in
    let Q : List ℕ → Type 0 = λ t. AreRanked R keys t in
    subst Q (sym same) record { all = subst P range perm; rising = up }
