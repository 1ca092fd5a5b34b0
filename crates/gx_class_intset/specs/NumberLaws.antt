-- The distinct numbers of a list: they are its numbers, and there is one such list.
use Rattle.std.specs.Prelude.{◌≡◌, Bool, true, false, ℤ, pos, int_lt, ◌≤ℤ◌, ◌+ℤ◌, ◌⊎◌, List, [], ◌∷◌, map, Contains, if◌then◌else◌, refl}
use Rattle.std.specs.List.{AllByRecursion}
use Rattle.std.specs.List.Sorted.{IsStrictlySortedBy}
use Rattle.std.specs.Ordering.{int_cmp, is_eq}
use Rattle.std.specs.declared.cmp.Ordering.TheVariants.{Less}
use Rattle.std.proofs.Common.{sym, ap₂, arith, true≢false, inl, inr, subst}
use Rattle.std.proofs.lemmas.Int.{ints}
use Rattle.std.proofs.lemmas.Map.Keys.{sorted_head, sorted_tail}
use Rattle.gx_intarr.specs.Arrays.{least, greatest, IsInt4, IsArray, IsDistinctCopy}
use Rattle.gx_intarr.specs.Formula as arrays
use Rattle.gx_intarr.proofs.ArrayLemmas.{contains_passes, passes_contains, equal_is, is_equal, passes_equal}
use Rattle.gx_class_intset.specs.Intervals.{single, within, has, AreAbove, with_number, distinct}
use Rattle.gx_class_intset.specs.IntervalLaws.{lt_of, ge_of, of_within, within_of, or_left, or_right, or_cases}

-- numbers that rise from a floor on, within int4
abbrev pub Rise : ℤ → List ℤ → Type 0
Rise f [] = Unit {0}
Rise f (x ∷ xs) = (f ≤ℤ x) × (x ≤ℤ greatest) × Rise (x +ℤ pos 1) xs

-- a number is one of them
abbrev mem : List ℤ → ℤ → Bool
mem xs n = arrays.has xs n

same_number : (m n : ℤ) → is_eq (int_cmp m n) ≡ true → m ≡ n
same_number m n e = equal_is m n (passes_equal (int_cmp m n) e)

number_is : (n : ℤ) → is_eq (int_cmp n n) ≡ true
number_is n = is_equal n n refl

least_first : (xs : List ℤ) (f n : ℤ) → Rise f xs → mem xs n ≡ true → f ≤ℤ n
least_first [] f n r e = absurd (true≢false (sym e))
least_first (x ∷ xs) f n r e =
    or_cases (is_eq (int_cmp x n)) (mem xs n) (f ≤ℤ n) (λ here. subst (λ (m : ℤ). f ≤ℤ m) (same_number x n here) r.0)
    (λ there. let above = least_first xs (x +ℤ pos 1) n r.2 there in let low = r.0 in omega (arith, ints)) e

-- One number more.
with_at : (f n m : ℤ) (ms : List ℤ) (b c : Bool) → int_lt n m ≡ b → int_lt m n ≡ c → (Rise (m +ℤ pos 1) ms → (m +ℤ pos 1) ≤ℤ n → Rise (m +ℤ pos 1) (with_number n ms))
    → Rise f (m ∷ ms) → f ≤ℤ n → n ≤ℤ greatest → Rise f (if b then n ∷ m ∷ ms else (if c then m ∷ with_number n ms else m ∷ ms))
with_at f n m ms true c p q more r low high = (low, high, (let h = lt_of n m p in omega (arith, ints), r.1, r.2))
with_at f n m ms false true p q more r low high = (r.0, r.1, more r.2 (let h = lt_of m n q in omega (arith, ints)))
with_at f n m ms false false p q more r low high = r

with_rises : (ms : List ℤ) (f n : ℤ) → Rise f ms → f ≤ℤ n → n ≤ℤ greatest → Rise f (with_number n ms)
with_rises [] f n r low high = (low, high, tt)
with_rises (m ∷ ms) f n r low high =
    with_at f n m ms (int_lt n m) (int_lt m n) refl refl (λ s l. with_rises ms (m +ℤ pos 1) n s l high) r low high

with_new_at : (n m : ℤ) (ms : List ℤ) (b c : Bool) → int_lt n m ≡ b → int_lt m n ≡ c → mem (with_number n ms) n ≡ true
    → mem (if b then n ∷ m ∷ ms else (if c then m ∷ with_number n ms else m ∷ ms)) n ≡ true
with_new_at n m ms true c p q more = or_left (is_eq (int_cmp n n)) (mem (m ∷ ms) n) (number_is n)
with_new_at n m ms false true p q more = or_right (is_eq (int_cmp m n)) (mem (with_number n ms) n) more
with_new_at n m ms false false p q more =
    let above = ge_of n m p in
    let below = ge_of m n q in
    let same : m ≡ n = omega (arith, ints) in
    or_left (is_eq (int_cmp m n)) (mem ms n) (is_equal m n same)

with_new : (ms : List ℤ) (n : ℤ) → mem (with_number n ms) n ≡ true
with_new [] n = or_left (is_eq (int_cmp n n)) false (number_is n)
with_new (m ∷ ms) n = with_new_at n m ms (int_lt n m) (int_lt m n) refl refl (with_new ms n)

with_old_at : (n m k : ℤ) (ms : List ℤ) (b c : Bool) → (mem ms k ≡ true → mem (with_number n ms) k ≡ true) → mem (m ∷ ms) k ≡ true
    → mem (if b then n ∷ m ∷ ms else (if c then m ∷ with_number n ms else m ∷ ms)) k ≡ true
with_old_at n m k ms true c more e = or_right (is_eq (int_cmp n k)) (mem (m ∷ ms) k) e
with_old_at n m k ms false true more e =
    or_cases (is_eq (int_cmp m k)) (mem ms k) (mem (m ∷ with_number n ms) k ≡ true) (λ here. or_left (is_eq (int_cmp m k)) (mem (with_number n ms) k) here)
    (λ there. or_right (is_eq (int_cmp m k)) (mem (with_number n ms) k) (more there)) e
with_old_at n m k ms false false more e = e

with_old : (ms : List ℤ) (n k : ℤ) → mem ms k ≡ true → mem (with_number n ms) k ≡ true
with_old [] n k e = absurd (true≢false (sym e))
with_old (m ∷ ms) n k e = with_old_at n m k ms (int_lt n m) (int_lt m n) (with_old ms n k) e

with_only_at : (n m k : ℤ) (ms : List ℤ) (b c : Bool) → (mem (with_number n ms) k ≡ true → (n ≡ k) ⊎ (mem ms k ≡ true))
    → mem (if b then n ∷ m ∷ ms else (if c then m ∷ with_number n ms else m ∷ ms)) k ≡ true → (n ≡ k) ⊎ (mem (m ∷ ms) k ≡ true)
with_only_at n m k ms true c more e =
    or_cases (is_eq (int_cmp n k)) (mem (m ∷ ms) k) ((n ≡ k) ⊎ (mem (m ∷ ms) k ≡ true)) (λ here. inl (same_number n k here)) (λ there. inr there) e
with_only_at n m k ms false true more e =
    or_cases (is_eq (int_cmp m k)) (mem (with_number n ms) k) ((n ≡ k) ⊎ (mem (m ∷ ms) k ≡ true)) (λ here. inr (or_left (is_eq (int_cmp m k)) (mem ms k) here))
    (λ there. elim (more there) [ inl new ↦ inl new | inr old ↦ inr (or_right (is_eq (int_cmp m k)) (mem ms k) old) ]) e
with_only_at n m k ms false false more e = inr e

with_only : (ms : List ℤ) (n k : ℤ) → mem (with_number n ms) k ≡ true → (n ≡ k) ⊎ (mem ms k ≡ true)
with_only [] n k e = or_cases (is_eq (int_cmp n k)) false ((n ≡ k) ⊎ (mem [] k ≡ true)) (λ here. inl (same_number n k here)) (λ there. inr there) e
with_only (m ∷ ms) n k e = with_only_at n m k ms (int_lt n m) (int_lt m n) (with_only ms n k) e

-- The distinct numbers rise, and are the numbers of the list.
pub distinct_rise : (v : List ℤ) → IsArray v → Rise least (distinct v)
distinct_rise [] p = tt
distinct_rise (n ∷ v) p = with_rises (distinct v) least n (distinct_rise v p.1) p.0.0 p.0.1

distinct_all : (v : List ℤ) (n : ℤ) → mem v n ≡ true → mem (distinct v) n ≡ true
distinct_all [] n e = e
distinct_all (m ∷ v) n e =
    or_cases (is_eq (int_cmp m n)) (mem v n) (mem (distinct (m ∷ v)) n ≡ true)
    (λ here. subst (λ (k : ℤ). mem (distinct (m ∷ v)) k ≡ true) (same_number m n here) (with_new (distinct v) m))
    (λ there. with_old (distinct v) m n (distinct_all v n there)) e

distinct_only : (v : List ℤ) (n : ℤ) → mem (distinct v) n ≡ true → mem v n ≡ true
distinct_only [] n e = e
distinct_only (m ∷ v) n e = elim (with_only (distinct v) m n e) [
  | inl new ↦ or_left (is_eq (int_cmp m n)) (mem v n) (is_equal m n new)
  | inr old ↦ or_right (is_eq (int_cmp m n)) (mem v n) (distinct_only v n old)
]

-- Rising lists with the same numbers are the same.
head_low : (x y : ℤ) (ys : List ℤ) → Rise (y +ℤ pos 1) ys → mem (y ∷ ys) x ≡ true → y ≤ℤ x
head_low x y ys r e =
    or_cases (is_eq (int_cmp y x)) (mem ys x) (y ≤ℤ x) (λ here. let same = same_number y x here in omega (arith, ints))
    (λ there. let above = least_first ys (y +ℤ pos 1) x r there in omega (arith, ints)) e

in_tail : (x y n : ℤ) (ys : List ℤ) → x ≡ y → (x +ℤ pos 1) ≤ℤ n → mem (y ∷ ys) n ≡ true → mem ys n ≡ true
in_tail x y n ys same above e =
    or_cases (is_eq (int_cmp y n)) (mem ys n) (mem ys n ≡ true) (λ here. let at = same_number y n here in absurd (omega (arith, ints))) (λ there. there) e

pub one_rising : (xs ys : List ℤ) (f g : ℤ) → Rise f xs → Rise g ys → ((n : ℤ) → mem xs n ≡ true → mem ys n ≡ true) → ((n : ℤ) → mem ys n ≡ true → mem xs n ≡ true) → xs ≡ ys
one_rising [] [] f g r s to from = refl
one_rising [] (y ∷ ys) f g r s to from = absurd (true≢false (sym (from y (or_left (is_eq (int_cmp y y)) (mem ys y) (number_is y)))))
one_rising (x ∷ xs) [] f g r s to from = absurd (true≢false (sym (to x (or_left (is_eq (int_cmp x x)) (mem xs x) (number_is x)))))
one_rising (x ∷ xs) (y ∷ ys) f g r s to from =
    let low = head_low x y ys s.2 (to x (or_left (is_eq (int_cmp x x)) (mem xs x) (number_is x))) in
    let high = head_low y x xs r.2 (from y (or_left (is_eq (int_cmp y y)) (mem ys y) (number_is y))) in
    let same : x ≡ y = omega (arith, ints) in
    let rest = one_rising xs ys (x +ℤ pos 1) (y +ℤ pos 1) r.2 s.2
    (λ n e. in_tail x y n ys same (least_first xs (x +ℤ pos 1) n r.2 e) (to n (or_right (is_eq (int_cmp x n)) (mem xs n) e)))
    (λ n e. in_tail y x n xs (sym same) (least_first ys (y +ℤ pos 1) n s.2 e) (from n (or_right (is_eq (int_cmp y n)) (mem ys n) e))) in
    ap₂ (λ (m : ℤ) (ms : List ℤ). m ∷ ms) same rest

-- A strictly sorted list of numbers of int4 rises.
less_is : (m n : ℤ) → int_cmp m n ≡ Less → (m +ℤ pos 1) ≤ℤ n
less_is m n e = grind (arith, ints)

above_head : (xs : List ℤ) (x n : ℤ) → AllByRecursion (λ y. int_cmp x y ≡ Less) xs → mem xs n ≡ true → (x +ℤ pos 1) ≤ℤ n
above_head [] x n a e = absurd (true≢false (sym e))
above_head (y ∷ xs) x n a e =
    or_cases (is_eq (int_cmp y n)) (mem xs n) ((x +ℤ pos 1) ≤ℤ n) (λ here. subst (λ (m : ℤ). (x +ℤ pos 1) ≤ℤ m) (same_number y n here) (less_is x y a.0)) (λ there. above_head xs x n a.1 there) e

sorted_rise : (xs : List ℤ) (f : ℤ) → IsStrictlySortedBy int_cmp xs → ((n : ℤ) → mem xs n ≡ true → IsInt4 n) → ((n : ℤ) → mem xs n ≡ true → f ≤ℤ n) → Rise f xs
sorted_rise [] f s within low = tt
sorted_rise (x ∷ []) f s within low =
    let here = or_left (is_eq (int_cmp x x)) false (number_is x) in
    (low x here, (within x here).1, tt)
sorted_rise (x ∷ y ∷ xs) f s within low =
    let here = or_left (is_eq (int_cmp x x)) (mem (y ∷ xs) x) (number_is x) in (
      low x here,
      (within x here).1,
      sorted_rise (y ∷ xs) (x +ℤ pos 1) (sorted_tail int_cmp x (y ∷ xs) s) (λ n e. within n (or_right (is_eq (int_cmp x n)) (mem (y ∷ xs) n) e))
          (λ n e. above_head (y ∷ xs) x n (sorted_head int_cmp x (y ∷ xs) s) e),
    )

int4_of : (v : List ℤ) (n : ℤ) → IsArray v → mem v n ≡ true → IsInt4 n
int4_of [] n p e = absurd (true≢false (sym e))
int4_of (m ∷ v) n p e =
    or_cases (is_eq (int_cmp m n)) (mem v n) (IsInt4 n) (λ here. subst IsInt4 (same_number m n here) p.0) (λ there. int4_of v n p.1 there) e

-- the elements of an array, each once, in rising order
pub distinct_is : (v d : List ℤ) → IsArray v → IsDistinctCopy v d → d ≡ distinct v
distinct_is v d p c =
    let to : (n : ℤ) → mem d n ≡ true → mem v n ≡ true = λ n e. contains_passes v n ((c.0 n).1 (passes_contains d n e)) in
    let from : (n : ℤ) → mem v n ≡ true → mem d n ≡ true = λ n e. contains_passes d n ((c.0 n).0 (passes_contains v n e)) in
    one_rising d (distinct v) least least (sorted_rise d least c.1 (λ n e. int4_of v n p (to n e)) (λ n e. (int4_of v n p (to n e)).0)) (distinct_rise v p)
    (λ n e. distinct_all v n (to n e)) (λ n e. from n (distinct_only v n e))

-- The intervals of single numbers.
pub singles_above : (xs : List ℤ) (f : ℤ) → Rise f xs → AreAbove f (map single xs)
singles_above [] f r = tt
singles_above (x ∷ xs) f r = (r.0, omega (arith, ints), r.1, singles_above xs (x +ℤ pos 1) r.2)

single_within : (m n : ℤ) → m ≡ n → within n (single m) ≡ true
single_within m n e = of_within n (single m) (omega (arith, ints)) (omega (arith, ints))

within_single : (m n : ℤ) → within n (single m) ≡ true → m ≡ n
within_single m n e =
    let w = within_of n (single m) e in
    let low : m ≤ℤ n = w.0 in
    let high : n ≤ℤ m = w.1 in
    omega (arith, ints)

singles_have : (xs : List ℤ) (n : ℤ) → mem xs n ≡ true → has (map single xs) n ≡ true
singles_have [] n e = e
singles_have (x ∷ xs) n e =
    or_cases (is_eq (int_cmp x n)) (mem xs n) (has (map single (x ∷ xs)) n ≡ true) (λ here. or_left (within n (single x)) (has (map single xs) n) (single_within x n (same_number x n here)))
    (λ there. or_right (within n (single x)) (has (map single xs) n) (singles_have xs n there)) e

singles_only : (xs : List ℤ) (n : ℤ) → has (map single xs) n ≡ true → mem xs n ≡ true
singles_only [] n e = e
singles_only (x ∷ xs) n e =
    or_cases (within n (single x)) (has (map single xs) n) (mem (x ∷ xs) n ≡ true) (λ here. or_left (is_eq (int_cmp x n)) (mem xs n) (is_equal x n (within_single x n here)))
    (λ there. or_right (is_eq (int_cmp x n)) (mem xs n) (singles_only xs n there)) e

-- They have the elements of the array, and no other numbers.
pub points_have : (v : List ℤ) (n : ℤ) → Contains v n → has (map single (distinct v)) n ≡ true
points_have v n c = singles_have (distinct v) n (distinct_all v n (contains_passes v n c))

pub points_only : (v : List ℤ) (n : ℤ) → has (map single (distinct v)) n ≡ true → Contains v n
points_only v n e = passes_contains v n (distinct_only v n (singles_only (distinct v) n e))
