-- Look-ups in the sorted copy of an array.
use Rattle.std.proofs.Common.{◌≡◌, ℕ, ◌<◌, ◌≤◌, Bool, true, false, List, [], length, get_or, refl, sym, ap, ◌∙◌, subst, arith, true≢false, ℤ, Contains, All, Result, Ok, Err, is_ok, ◌↔◌, inl, inr, pos, take, ◌+◌}
use Rattle.std.specs.Bool.{Decides}
use Rattle.std.specs.List.{list_any, AllWithin, dedup}
use Rattle.std.specs.List.Retain.{DiffersFromLast, IsFiltered}
use Rattle.std.proofs.lemmas.List.Filters.{dedup_is}
use Rattle.std.proofs.lemmas.List.Kept.{IsStrictlySortedBy-dedup, Contains-dedup, Contains-from_dedup}
use Rattle.std.proofs.lemmas.Bool.Decides.{Decides-int_eq, same_from_decides}
use Rattle.std.specs.Ordering.{int_cmp, int_eq, is_eq}
use Rattle.std.specs.declared.cmp.Ordering.{Ordering}
use Rattle.std.specs.declared.cmp.Ordering.TheVariants.{Less, Equal, Greater}
use Rattle.std.specs.List.Sorted.{IsPermutation, IsSorted, IsBinarySearchResult, IsSearchInRange}
use Rattle.std.proofs.lemmas.Bool.{cases_lt}
use Rattle.std.proofs.lemmas.Cmp.{int_ranked, int_cmp_total, int_eq_equiv, tied_itself}
use Rattle.std.proofs.lemmas.List.Sorted.{list_any-IsPermutation, searchable_from_sorted}
use Rattle.std.proofs.lemmas.List.Folds.{list_any_at, list_any_none, Any-from_list_any}
use Rattle.std.proofs.lemmas.List.{take_all}
use Rattle.std.proofs.lemmas.List.Elements.{All-more}
use Rattle.gx_intarr.specs.Arrays.{IsSortedCopy, IsDistinctCopy}
use Rattle.gx_intarr.specs.Operators.{ContainsEach}

pub sorted_copy : (items copy sorted : List ℤ) → copy ≡ items → IsPermutation copy sorted → IsSorted int_cmp sorted → IsSortedCopy items sorted
sorted_copy items copy sorted e p s = (λ q. ap (list_any q) (sym e) ∙ list_any-IsPermutation q copy sorted p, s)

-- the test for a number
abbrev pub is_number : ℤ → ℤ → Bool
is_number n y = is_eq (int_cmp y n)

pub equal_is : (y n : ℤ) → int_cmp y n ≡ Equal → y ≡ n
equal_is y n e = int_ranked y n Equal (sym e)

pub is_equal : (y n : ℤ) → y ≡ n → is_number n y ≡ true
is_equal y n e = ap (λ z. is_eq (int_cmp z n)) e ∙ ap is_eq (tied_itself int_cmp_total n)

pub passes_equal : (o : Ordering) → is_eq o ≡ true → o ≡ Equal
passes_equal Less e = absurd (true≢false (sym e))
passes_equal Equal e = refl
passes_equal Greater e = absurd (true≢false (sym e))

pub contains_passes : (xs : List ℤ) (n : ℤ) → Contains xs n → list_any (is_number n) xs ≡ true
contains_passes xs n c = list_any_at (is_number n) xs c.0 n c.1 (is_equal (get_or xs c.0 n) n c.2)

pub passes_contains : (xs : List ℤ) (n : ℤ) → list_any (is_number n) xs ≡ true → Contains xs n
passes_contains xs n e =
    let a = Any-from_list_any (is_number n) xs e in
    let same : a.1 ≡ n = equal_is a.1 n (passes_equal (int_cmp a.1 n) a.4) in
    let P : ℤ → Type 0 = λ d. get_or xs a.0 d ≡ d in
    (a.0, a.2, subst P same a.3)

-- all elements below the place are less, and those from it on greater
none_passes : (xs : List ℤ) (n : ℤ) (i : ℕ) → AllWithin (λ y. int_cmp y n ≡ Less) xs 0 i → AllWithin (λ y. int_cmp y n ≡ Greater) xs i (length xs) → All (λ y. is_number n y ≡ false) xs
none_passes xs n i below above k d inside =
    elim (cases_lt k i) [
      | inl small ↦ ap is_eq (below k d (omega arith) small)
      | inr large ↦ ap is_eq (above k d large inside)
    ]

pub found_or_not : (items sorted : List ℤ) (n : ℤ) (r : Result ℕ ℕ) → IsSortedCopy items sorted → IsSearchInRange r (length sorted) → IsBinarySearchResult (λ y. int_cmp y n) sorted r → (is_ok r ≡ true) ↔ Contains items n
found_or_not items sorted n (Ok i) copy inside h = (
  λ _. passes_contains items n (copy.0 (is_number n) ∙ list_any_at (is_number n) sorted i n inside (ap is_eq (h n))),
  λ _. refl,
)
found_or_not items sorted n (Err i) copy inside h =
    let parts = h (searchable_from_sorted int_cmp_total (λ y. y) sorted n copy.1) in (
      λ wrong. absurd (true≢false (sym wrong)),
      λ c. absurd (true≢false (sym (contains_passes items n c) ∙ copy.0 (is_number n) ∙ list_any_none (is_number n) sorted (none_passes sorted n i parts.0 parts.1))),
    )

pub has_number : (now items slice sorted : List ℤ) (n : ℤ) (r : Result ℕ ℕ) (b : Bool) → items ≡ now → slice ≡ sorted → IsSortedCopy items sorted → IsSearchInRange r (length slice) → IsBinarySearchResult (λ y. int_cmp y n) slice r → b ≡ is_ok r → (b ≡ true) ↔ Contains now n
has_number now items slice sorted n r b e f copy inside h is =
    let P : List ℤ → Type 0 = λ x. (b ≡ true) ↔ Contains x n in
    let Q : Bool → Type 0 = λ x. (x ≡ true) ↔ Contains items n in
    let there = subst (λ (x : List ℤ). IsSearchInRange r (length x)) f inside in
    let told = subst (λ (x : List ℤ). IsBinarySearchResult (λ y. int_cmp y n) x r) f h in
    subst P e (subst Q (sym is) (found_or_not items sorted n r copy there told))

-- an element of the other array that isn't found
pub not_each : (a b items : List ℤ) (x : ℤ) (i : ℕ) (found : Bool) → items ≡ b → i < length items → x ≡ get_or items i (pos 0) → (found ≡ true) ↔ Contains a x → found ≡ false → ContainsEach a b → ⊥
not_each a b items x i found same inside is told none each =
    let P : List ℤ → Type 0 = λ t. All (λ n. Contains a n) t in
    let there : Contains a (get_or items i (pos 0)) = (subst P (sym same) each) i (pos 0) inside in
    true≢false (sym (told.1 (subst (λ (n : ℤ). Contains a n) (sym is) there)) ∙ none)

pub one_found : (a items : List ℤ) (x : ℤ) (i : ℕ) (found : Bool) → All (λ n. Contains a n) (take i items) → i < length items → x ≡ get_or items i (pos 0) → (found ≡ true) ↔ Contains a x → found ≡ true → All (λ n. Contains a n) (take (i + 1) items)
one_found a items x i found before inside is told hit = All-more (λ n. Contains a n) items i (pos 0) inside before (subst (λ (n : ℤ). Contains a n) is (told.0 hit))

pub all_found : (a b items : List ℤ) (i : ℕ) → All (λ n. Contains a n) (take i items) → length items ≤ i → items ≡ b → ContainsEach a b
all_found a b items i before end same =
    let P : List ℤ → Type 0 = λ t. All (λ n. Contains a n) t in
    subst P (take_all i items end ∙ same) before

pub same_number : (y n : ℤ) → Decides (is_number n y) (y ≡ n)
same_number y n = (λ e. equal_is y n (passes_equal (int_cmp y n) e), is_equal y n)

sorted_has : (items sorted : List ℤ) (n : ℤ) → IsSortedCopy items sorted → Contains items n ↔ Contains sorted n
sorted_has items sorted n copy = (
  λ c. passes_contains sorted n (sym (copy.0 (is_number n)) ∙ contains_passes items n c),
  λ c. passes_contains items n (copy.0 (is_number n) ∙ contains_passes sorted n c),
)

-- the elements of the sorted copy, each once
pub distinct_copy : (now items sorted copy distinct : List ℤ) → items ≡ now → copy ≡ sorted → IsSortedCopy items sorted → IsFiltered (DiffersFromLast int_eq) [] copy distinct → IsDistinctCopy now distinct
distinct_copy now items sorted copy distinct e f h d =
    let is : distinct ≡ dedup int_eq sorted = dedup_is int_eq copy distinct d ∙ ap (dedup int_eq) f in
    let strict = IsStrictlySortedBy-dedup int_cmp_total (λ x y. same_from_decides (int_eq x y) (is_eq (int_cmp x y)) (Decides-int_eq x y) (same_number x y)) sorted h.1 in
    let each : (n : ℤ) → Contains items n ↔ Contains (dedup int_eq sorted) n = λ n. (
      λ c. Contains-dedup int_eq_equiv (λ x y t. (Decides-int_eq x y).0 t) sorted n ((sorted_has items sorted n h).0 c),
      λ c. (sorted_has items sorted n h).1 (Contains-from_dedup int_eq sorted n c),
    ) in
    subst (λ (x : List ℤ). IsDistinctCopy x distinct) e (subst (IsDistinctCopy items) (sym is) (each, strict))
