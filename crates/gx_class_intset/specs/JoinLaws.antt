-- Which neighbours are joined: those with the least gaps.
use Rattle.std.specs.Prelude.{◌≡◌, ℕ, zero, suc, ◌-◌, ◌<◌, ◌≤◌, nat_lt, Bool, true, false, List, [], ◌∷◌, ◌++◌, length, slice_get, slice_index_or, Some, IsPermutation, if◌then◌else◌, refl}
use Rattle.std.specs.List.{AllByRecursion}
use Rattle.std.proofs.Common.{sym, ap, subst, arith}
use Rattle.std.proofs.lemmas.Bool.Decides.{nat_tests}
use Rattle.std.proofs.lemmas.Option.{get_or_from_slice_get, slice_get-get_or}
use Rattle.std.proofs.lemmas.List.Sorted.{IsPermutation-refl, IsPermutation-cons, IsPermutation-trans, IsPermutation-append_left}
use Rattle.gx_class_intset.specs.declared.interval.Interval.{Interval}
use Rattle.gx_class_intset.specs.Intervals.{gap, gaps, first_least, join_at, join_closest, joins, reduced}
use Rattle.gx_class_intset.specs.IntervalLaws.{least_in, length-gaps, length-joins}

-- Each gap was joined or is there still, and none that was joined is greater than one that is there.
pub record JoinsLeast (before after : List Interval) : Type 0 where
  pub joined : List ℕ
  pub all : IsPermutation (gaps after ++ joined) (gaps before)
  pub least : AllByRecursion (λ g. AllByRecursion (λ h. g ≤ h) (gaps after)) joined

-- the numbers but that at a place
abbrev without : ℕ → List ℕ → List ℕ
without k [] = []
without zero (x ∷ xs) = xs
without (suc k) (x ∷ xs) = x ∷ without k xs

-- A join takes one gap away.
gaps_joined : (k : ℕ) (is : List Interval) → gaps (join_at k is) ≡ without k (gaps is)
gaps_joined k [] = refl
gaps_joined k (i ∷ []) = refl
gaps_joined zero (i ∷ j ∷ []) = refl
gaps_joined zero (i ∷ j ∷ l ∷ ls) = refl
gaps_joined (suc k) (i ∷ j ∷ []) = refl
gaps_joined (suc zero) (i ∷ j ∷ l ∷ ls) = ap (λ (gs : List ℕ). gap i j ∷ gs) (gaps_joined zero (j ∷ l ∷ ls))
gaps_joined (suc (suc k)) (i ∷ j ∷ l ∷ ls) = ap (λ (gs : List ℕ). gap i j ∷ gs) (gaps_joined (suc k) (j ∷ l ∷ ls))

exchanged : (g x : ℕ) (w : List ℕ) → IsPermutation (g ∷ x ∷ w) (x ∷ g ∷ w)
exchanged g x w = record { moves = (0, 1) ∷ []; below = (omega arith, omega arith, tt); is = refl }

picked : (k : ℕ) (gs : List ℕ) (g : ℕ) → slice_get gs k ≡ Some g → IsPermutation (g ∷ without k gs) gs
picked k [] g e = cc e
picked zero (x ∷ xs) g e = let same : x ≡ g = cc e in subst (λ (n : ℕ). IsPermutation (n ∷ xs) (x ∷ xs)) same (IsPermutation-refl (x ∷ xs))
picked (suc k) (x ∷ xs) g e =
    IsPermutation-trans (g ∷ x ∷ without k xs) (x ∷ g ∷ without k xs) (x ∷ xs) (exchanged g x (without k xs)) (IsPermutation-cons x (g ∷ without k xs) xs (picked k xs g e))

moved : (g : ℕ) (w joined : List ℕ) → IsPermutation (w ++ g ∷ joined) (g ∷ w ++ joined)
moved g [] joined = IsPermutation-refl (g ∷ joined)
moved g (x ∷ w) joined =
    IsPermutation-trans (x ∷ w ++ g ∷ joined) (x ∷ g ∷ w ++ joined) (g ∷ x ∷ w ++ joined) (IsPermutation-cons x (w ++ g ∷ joined) (g ∷ w ++ joined) (moved g w joined)) (exchanged x g (w ++ joined))

-- The least number is at most each other one.
below_all : (g h : ℕ) (gs : List ℕ) → g ≤ h → AllByRecursion (λ n. h ≤ n) gs → AllByRecursion (λ n. g ≤ n) gs
below_all g h [] le all = tt
below_all g h (x ∷ xs) le all = (let first = all.0 in omega (arith, le, first), below_all g h xs le all.1)

less : (m n : ℕ) → nat_lt m n ≡ true → m < n
less m n e = grind (arith, nat_tests, e)

not_less : (m n : ℕ) → nat_lt m n ≡ false → n ≤ m
not_less m n e = grind (arith, nat_tests, e)

least_of : (x : ℕ) (xs : List ℕ) (b : Bool) (g : ℕ) → nat_lt (slice_index_or xs (first_least xs) x) x ≡ b → slice_get (x ∷ xs) (if b then suc (first_least xs) else zero) ≡ Some g
    → ((h : ℕ) → slice_get xs (first_least xs) ≡ Some h → AllByRecursion (λ n. h ≤ n) xs) → (g ≤ x) × AllByRecursion (λ n. g ≤ n) xs
least_of x xs true g e f more =
    let found : slice_index_or xs (first_least xs) x ≡ g = get_or_from_slice_get xs (first_least xs) g x f in
    let lower = less (slice_index_or xs (first_least xs) x) x e in (omega (arith, found, lower), more g f)
least_of x [] false g e f more = let same : x ≡ g = cc f in (omega (arith, same), tt)
least_of x (y ∷ ys) false g e f more =
    let same : x ≡ g = cc f in
    let h : ℕ = slice_index_or (y ∷ ys) (first_least (y ∷ ys)) x in
    let lower : x ≤ h = not_less h x e in
    let there = slice_get-get_or (y ∷ ys) (first_least (y ∷ ys)) x (least_in (y ∷ ys) (omega arith)) in
    (omega (arith, same), below_all g h (y ∷ ys) (omega (arith, same, lower)) (more h there))

least_is : (gs : List ℕ) (g : ℕ) → slice_get gs (first_least gs) ≡ Some g → AllByRecursion (λ n. g ≤ n) gs
least_is [] g e = tt
least_is (x ∷ xs) g e = least_of x xs (nat_lt (slice_index_or xs (first_least xs) x) x) g refl e (least_is xs)

fewer : (g k : ℕ) (gs : List ℕ) → AllByRecursion (λ n. g ≤ n) gs → AllByRecursion (λ n. g ≤ n) (without k gs)
fewer g k [] all = tt
fewer g zero (x ∷ xs) all = all.1
fewer g (suc k) (x ∷ xs) all = (all.0, fewer g k xs all.1)

all_fewer : (k : ℕ) (gs joined : List ℕ) → AllByRecursion (λ g. AllByRecursion (λ h. g ≤ h) gs) joined → AllByRecursion (λ g. AllByRecursion (λ h. g ≤ h) (without k gs)) joined
all_fewer k gs [] all = tt
all_fewer k gs (g ∷ joined) all = (fewer g k gs all.0, all_fewer k gs joined all.1)

-- One join more.
joined_once : (is js : List Interval) → 2 ≤ length js → JoinsLeast is js → JoinsLeast is (join_closest js)
joined_once is js long j =
    let many = length-gaps js (omega (arith, long)) in
    let k : ℕ = first_least (gaps js) in
    let g : ℕ = slice_index_or (gaps js) k 0 in
    let there : slice_get (gaps js) k ≡ Some g = slice_get-get_or (gaps js) k 0 (least_in (gaps js) (omega (arith, many, long))) in
    let w : List ℕ = without k (gaps js) in
    let same : gaps (join_closest js) ≡ w = gaps_joined k js in
    let all : IsPermutation (w ++ g ∷ j.joined) (gaps is) =
    IsPermutation-trans (w ++ g ∷ j.joined) (g ∷ w ++ j.joined) (gaps is) (moved g w j.joined)
    (IsPermutation-trans (g ∷ w ++ j.joined) (gaps js ++ j.joined) (gaps is) (IsPermutation-append_left j.joined (g ∷ w) (gaps js) (picked k (gaps js) g there)) j.all) in
    record {
      joined = g ∷ j.joined;
      all = subst (λ (gs : List ℕ). IsPermutation (gs ++ g ∷ j.joined) (gaps is)) (sym same) all;
      least = subst (λ (gs : List ℕ). AllByRecursion (λ g. AllByRecursion (λ h. g ≤ h) gs) (g ∷ j.joined)) (sym same) (fewer g k (gaps js) (least_is (gaps js) g there), all_fewer k (gaps js) j.joined j.least);
    }

append-none : (gs : List ℕ) → IsPermutation (gs ++ []) gs
append-none [] = IsPermutation-refl []
append-none (g ∷ gs) = IsPermutation-cons g (gs ++ []) gs (append-none gs)

least_joined : (n : ℕ) (is : List Interval) → n < length is → JoinsLeast is (joins n is)
least_joined zero is h = record { joined = []; all = append-none (gaps is); least = tt }
least_joined (suc n) is h =
    let before = length-joins n is (omega (arith, h)) in
    joined_once is (joins n is) (omega (arith, before, h)) (least_joined n is (omega (arith, h)))

no_join : (r : ℕ) (n : ℕ) (is : List Interval) → length is - r ≡ n → 1 ≤ r → JoinsLeast is (joins n is)
no_join r zero is e some = record { joined = []; all = append-none (gaps is); least = tt }
no_join r (suc n) is e some = least_joined (suc n) is (omega (arith, e, some))

pub reduced_joins_least : (r : ℕ) (is : List Interval) → 1 ≤ r → JoinsLeast is (reduced r is)
reduced_joins_least r is some = no_join r (length is - r) is refl some
