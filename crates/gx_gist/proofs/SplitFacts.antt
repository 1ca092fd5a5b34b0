-- Sizes of places, and what a cut at half gives.
use Rattle.std.proofs.Common.{refl, ◌≡◌, sym, ◌∙◌, ap, inl, inr, ◌⊎◌, ℕ, zero, suc, ◌+◌, ◌-◌, ◌*◌, ◌<◌, ◌≤◌, List, [], ◌∷◌, length, take, drop, length-drop, nat_lt, Bool, true, false, get_or, sum, All, arith}
use Rattle.std.specs.List.{range_with_len}
use Rattle.std.proofs.lemmas.List.FromFn.{length-range_with_len, get_or-range_with_len, fill_by_all}
use Rattle.std.proofs.lemmas.List.Sorted.{sum_by-IsPermutation, All-permutation, length_permutation}
use Rattle.std.proofs.lemmas.List.{get_or_past, length-take-le, take-take}
use Rattle.std.proofs.lemmas.List.Sums.{sum-map, sum_by-cons, sum_by_more, sum_by-take-drop}
use Rattle.std.proofs.lemmas.Bool.Decides.{nat_tests}
use Rattle.gx_gist.specs.Places.{IsRearrangement}
use Rattle.gx_gist.specs.Split.{size_of, AreSizes, IsCutAtHalf, AreSides}

pub as_many : (places : List ℕ) (n : ℕ) → IsRearrangement places n → length places ≡ n
as_many places n h = length_permutation (range_with_len 0 n) places h ∙ length-range_with_len 0 n

all_range : (n : ℕ) → All (λ p. p < n) (range_with_len 0 n)
all_range n = λ k d h. let small : k < n = omega (arith, length-range_with_len 0 n) in rw (get_or-range_with_len 0 n k d small) (omega arith)

-- each place is one of the list
pub each_below : (places : List ℕ) (n k : ℕ) → IsRearrangement places n → k < n → get_or places k 0 < n
each_below places n k h below =
    All-permutation (λ p. p < n) (range_with_len 0 n) places h (all_range n) k 0 (omega (arith, as_many places n h))

-- all places together take what the sizes sum to
pub size_of_all : (sizes places : List ℕ) → IsRearrangement places (length sizes) → size_of sizes places ≡ sum sizes
size_of_all sizes places h =
    sum_by-IsPermutation (λ p. get_or sizes p 0) (range_with_len 0 (length sizes)) places h
    ∙ sym (sum-map (λ p. get_or sizes p 0) (range_with_len 0 (length sizes)))
    ∙ sym (ap sum (fill_by_all (λ p. get_or sizes p 0) sizes (length sizes) 0 refl (λ k below. refl)))

below_test : (a b : ℕ) (t : Bool) → nat_lt a b ≡ t → (a < b) ⊎ (b ≤ a)
below_test a b true h = inl (grind (arith, nat_tests, h))
below_test a b false h = inr (grind (arith, nat_tests, h))

-- no item is larger
size_small : (sizes : List ℕ) (p : ℕ) → All (λ size. size ≤ 1922) sizes → get_or sizes p 0 ≤ 1922
size_small sizes p small = elim (below_test p (length sizes) (nat_lt p (length sizes)) refl) [
  | inl h ↦ small p 0 h
  | inr h ↦ (rw (get_or_past sizes p 0 h) (omega arith))
]

size_of_few : (sizes places : List ℕ) → All (λ size. size ≤ 1922) sizes → size_of sizes places ≤ 1922 * length places
size_of_few sizes [] small = omega arith
size_of_few sizes (p ∷ ps) small = let first = size_small sizes p small in let others = size_of_few sizes ps small in let more : size_of sizes (p ∷ ps) ≡ get_or sizes p 0 + size_of sizes ps = sum_by-cons (λ place. get_or sizes place 0) p ps in omega (arith, first, others, more)

-- one place more
pub size_more : (sizes places : List ℕ) (k : ℕ) → k < length places → size_of sizes (take (k + 1) places) ≡ size_of sizes (take k places) + get_or sizes (get_or places k 0) 0
size_more sizes places k h = sum_by_more (λ place. get_or sizes place 0) places k 0 h

-- none of the first m fronts reaches half
abbrev pub AllEarly : List ℕ → List ℕ → ℕ → Type 0
AllEarly sizes places m = (j : ℕ) → 0 < j → j ≤ m → 2 * size_of sizes (take j places) < sum sizes

pub early_more : (sizes places : List ℕ) (m : ℕ) → AllEarly sizes places m → 2 * size_of sizes (take (m + 1) places) < sum sizes → AllEarly sizes places (m + 1)
early_more sizes places m before now j some within = elim (below_test j (m + 1) (nat_lt j (m + 1)) refl) [
  | inl h ↦ before j some (omega arith)
  | inr h ↦ (let same : j ≡ m + 1 = omega arith in rw same now)
]

early_half : (sizes places : List ℕ) (m : ℕ) → AllEarly sizes places m → 2 * size_of sizes (take m places) ≤ sum sizes
early_half sizes places zero early = omega arith
early_half sizes places (suc m) early = let h = early (suc m) (omega arith) (omega arith) in omega (arith, h)

-- A cut behind the first n places, where no shorter front reaches half, and this one does or leaves one place.
module _ (sizes places : List ℕ) (m n : ℕ) (is : n ≡ m + 1) (all : IsRearrangement places (length sizes)) (fits : AreSizes (length sizes) sizes)
    (within : n < length places) (early : AllEarly sizes places m)
    (reached : (sum sizes ≤ 2 * size_of sizes (take n places)) ⊎ (n + 1 ≡ length places)) where
  left_long : length (take n places) ≡ n
  left_long = length-take-le n places (omega arith)

  right_long : length (drop n places) ≡ length places - n
  right_long = length-drop n places

  pub cut_here : IsCutAtHalf sizes (take n places) (drop n places)
  cut_here = record {
    some_left = omega (arith, left_long);
    some_right = omega (arith, right_long);
    not_before = λ k some less. let inside : k ≤ m = omega (arith, left_long) in rw (take-take k n places (omega arith)) (early k some inside);
    reached = elim reached [ inl h ↦ inl h | inr h ↦ inr (omega (arith, right_long)) ];
  }

  -- the sizes of both sides
  whole : size_of sizes (take n places) + size_of sizes (drop n places) ≡ sum sizes
  whole = sum_by-take-drop (λ place. get_or sizes place 0) places n ∙ size_of_all sizes places all

  few_left : size_of sizes (take n places) ≤ 1922 * n
  few_left = let h = size_of_few sizes (take n places) fits.small in rw left_long at h

  few_right : size_of sizes (drop n places) ≤ 1922 * (length places - n)
  few_right = let h = size_of_few sizes (drop n places) fits.small in rw right_long at h

  half : 2 * size_of sizes (take n places) ≤ sum sizes + 2 * 1922
  half =
      let more = size_more sizes places m (omega arith) in
      let last = size_small sizes (get_or places m 0) fits.small in
      let before = early_half sizes places m early in
      rw is (omega (arith, more, last, before))

  one_right : n + 1 ≡ length places → size_of sizes (drop n places) ≤ 1922
  one_right h = let one : length places - n ≡ 1 = omega arith in let few = few_right in omega (arith, few, one)

  small_right : (size_of sizes (drop n places) ≤ size_of sizes (take n places)) ⊎ (size_of sizes (drop n places) ≤ 1922)
  small_right = elim reached [
    | inl h ↦ inl (omega (arith, whole, h))
    | inr h ↦ inr (one_right h)
  ]

  pub sides_here : AreSides sizes (take n places) (drop n places)
  sides_here = record {
    left_fits = omega (arith, half, fits.together);
    right_fits = elim small_right [ inl h ↦ (omega (arith, whole, h, fits.together)) | inr h ↦ (omega (arith, h)) ];
    two_left = λ large. rw left_long (elim reached [
      | inl h ↦ (omega (arith, few_left, h))
      | inr h ↦ (omega (arith, whole, few_left, one_right h))
    ]);
    two_right = λ large. rw right_long (omega (arith, whole, half, few_right));
  }
