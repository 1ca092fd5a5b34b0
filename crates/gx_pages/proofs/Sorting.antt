-- Rows in order: a search among rising numbers, and rows whose numbers don't fall.
use Rattle.std.proofs.Common.{◌≡◌, ℕ, zero, suc, ◌+◌, ◌<◌, inl, inr, List, [], ◌∷◌, length, get_or, Err, nat_cmp, Less, Equal, Greater, IsPermutation, sym, ap, ◌∙◌, subst, arith}
use Rattle.std.specs.declared.cmp.Ordering.{Ordering}
use Rattle.std.specs.List.{AllByRecursion, HoldsAt}
use Rattle.std.specs.List.Sorted.{IsNonDecreasingBy, IsSortedBy, IsBinarySearchResult}
use Rattle.std.specs.Ordering.{is_lt}
use Rattle.std.proofs.lemmas.Bool.{cases_lt}
use Rattle.std.proofs.lemmas.Bool.Decides.{nat_tests}
use Rattle.std.proofs.lemmas.Cmp.{ranked, nat_cmp_total, tied_itself}
use Rattle.std.proofs.lemmas.List.Sorted.{searchable_from_sorted, IsNonDecreasingBy-from_all_adjacent, IsPermutation-refl, IsPermutation-cons, IsPermutation-sym, IsPermutation-trans, IsPermutation-middle}
use Rattle.gx_pages.specs.declared.row.RowRef.{RowRef}
use Rattle.gx_pages.specs.Rows.{IsRising, HasNumber, HasTwice}

-- the numbers rise from each row to the next
abbrev pub Climbs : List RowRef → ℕ → Type 0
Climbs rows high = (k : ℕ) (d : RowRef) → k + 1 < high → (get_or rows k d).number < (get_or rows (k + 1) d).number

above_all : (number : ℕ) (row : RowRef) (rows : List RowRef) → number < row.number → AllByRecursion (λ (other : RowRef). row.number < other.number) rows
    → AllByRecursion (λ (other : RowRef). number < other.number) rows
above_all number row [] low all = tt
above_all number row (r ∷ rows) low all = (omega (arith, low, all.0), above_all number row rows low all.1)

pub rising_climbs : (rows : List RowRef) → Climbs rows (length rows) → IsRising rows
rising_climbs [] climbs = tt
rising_climbs (row ∷ []) climbs = (tt, tt)
rising_climbs (row ∷ other ∷ rows) climbs =
    let low : row.number < other.number = climbs 0 row (omega arith) in
    let behind : Climbs (other ∷ rows) (length (other ∷ rows)) = λ k d within.
    let place : suc (k + 1) ≡ suc k + 1 = omega arith in
    subst (λ (j : ℕ). (get_or (other ∷ rows) k d).number < (get_or (row ∷ other ∷ rows) j d).number) (sym place) (climbs (suc k) d (omega (arith, within))) in
    let rest = rising_climbs (other ∷ rows) behind in
    ((low, above_all row.number other rows low rest.0), rest)

pub twice_at : (rows : List RowRef) (k : ℕ) (d : RowRef) → k + 1 < length rows → (get_or rows k d).number ≡ (get_or rows (k + 1) d).number → HasTwice rows
twice_at [] k d within same = absurd (omega (arith, within))
twice_at (a ∷ []) k d within same = absurd (omega (arith, within))
twice_at (a ∷ b ∷ rows) zero d within same = record { one = a; other = b; rest = rows; among = IsPermutation-refl (a ∷ b ∷ rows); same = same }
twice_at (a ∷ b ∷ rows) (suc k) d within same =
    let place : suc (k + 1) ≡ suc k + 1 = omega arith in
    let found = twice_at (b ∷ rows) k d (omega (arith, within)) (subst (λ (j : ℕ). (get_or (b ∷ rows) k d).number ≡ (get_or (a ∷ b ∷ rows) j d).number) (sym place) same) in
    let moved = IsPermutation-sym (found.one ∷ found.other ∷ a ∷ found.rest) (a ∷ found.one ∷ found.other ∷ found.rest) (IsPermutation-middle (found.one ∷ found.other ∷ []) a found.rest) in
    record {
      one = found.one;
      other = found.other;
      rest = a ∷ found.rest;
      among = IsPermutation-trans (a ∷ b ∷ rows) (a ∷ found.one ∷ found.other ∷ found.rest) (found.one ∷ found.other ∷ a ∷ found.rest) (IsPermutation-cons a (b ∷ rows) (found.one ∷ found.other ∷ found.rest) found.among) moved;
      same = found.same;
    }

pub twice_moved : (rows others : List RowRef) → IsPermutation rows others → HasTwice others → HasTwice rows
twice_moved rows others moved twice = record {
  one = twice.one;
  other = twice.other;
  rest = twice.rest;
  among = IsPermutation-trans rows others (twice.one ∷ twice.other ∷ twice.rest) moved twice.among;
  same = twice.same;
}

-- how the number of a row compares to a number
abbrev pub ranked_at : ℕ → RowRef → Ordering
ranked_at number row = nat_cmp row.number number

there : (rows : List RowRef) (number at : ℕ) (d : RowRef) → at < length rows → (get_or rows at d).number ≡ number → HasNumber rows number
there [] number at d within is = absurd (omega (arith, within))
there (row ∷ rows) number zero d within is = inl is
there (row ∷ rows) number (suc at) d within is = inr (there rows number at d (omega (arith, within)) is)

pub hit : (rows : List RowRef) (number at : ℕ) → at < length rows → HoldsAt (λ row. ranked_at number row ≡ Equal) rows at → HasNumber rows number
hit [] number at within holds = absurd (omega (arith, within))
hit (row ∷ rows) number at within holds =
    there (row ∷ rows) number at row within (ranked (get_or (row ∷ rows) at row).number number Equal (sym (holds row)))

place : (rows : List RowRef) (number : ℕ) → HasNumber rows number → (at : ℕ) × (at < length rows) × ((d : RowRef) → (get_or rows at d).number ≡ number)
place [] number has = absurd has
place (row ∷ rows) number (inl here) = (0, omega arith, λ d. here)
place (row ∷ rows) number (inr more) = let behind = place rows number more in let within = behind.1 in (suc behind.0, omega arith, behind.2)

pub climbs_rising : (rows : List RowRef) → IsRising rows → Climbs rows (length rows)
climbs_rising [] rising k d within = absurd (omega (arith, within))
climbs_rising (row ∷ []) rising k d within = absurd (omega (arith, within))
climbs_rising (row ∷ other ∷ rows) rising zero d within = rising.0.0
climbs_rising (row ∷ other ∷ rows) rising (suc k) d within =
    let place : suc (k + 1) ≡ suc k + 1 = omega arith in
    subst (λ (j : ℕ). (get_or (other ∷ rows) k d).number < (get_or (row ∷ other ∷ rows) j d).number) place (climbs_rising (other ∷ rows) rising.1 k d (omega (arith, within)))

-- rising numbers don't fall
pub rising_sorted : (rows : List RowRef) → IsRising rows → IsNonDecreasingBy (λ (row : RowRef). row.number) rows
rising_sorted rows rising =
    IsNonDecreasingBy-from_all_adjacent (λ (row : RowRef). row.number) rows (λ k d within. let low = climbs_rising rows rising k d within in omega (arith, low))

sorted : (rows : List RowRef) → IsRising rows → IsSortedBy (λ (a b : RowRef). is_lt (nat_cmp a.number b.number)) rows
sorted rows rising k d low high = let up = climbs_rising rows rising k d high in grind (arith, nat_tests, up)

pub miss : (rows : List RowRef) (number at : ℕ) → IsRising rows → IsBinarySearchResult (ranked_at number) rows (Err at) → HasNumber rows number → ⊥
miss [] number at rising result has = has
miss (row ∷ rows) number at rising result has =
    let point = result (searchable_from_sorted nat_cmp_total (λ (r : RowRef). r.number) (row ∷ rows) number (sorted (row ∷ rows) rising)) in
    let found = place (row ∷ rows) number has in
    let tied : ranked_at number (get_or (row ∷ rows) found.0 row) ≡ Equal = ap (λ (k : ℕ). nat_cmp k number) (found.2 row) ∙ tied_itself nat_cmp_total number in
    elim (cases_lt found.0 at) [
      | inl low ↦ let apart : Equal ≡ Less = sym tied ∙ point.0 found.0 row (omega arith) low in cc
      | inr high ↦ let apart : Equal ≡ Greater = sym tied ∙ point.1 found.0 row high found.1 in cc
    ]
