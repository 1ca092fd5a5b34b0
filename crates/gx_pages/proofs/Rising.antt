-- Rows by rising numbers.
use Rattle.std.proofs.Common.{◌≡◌, ℕ, zero, suc, ◌-◌, ◌<◌, List, [], ◌∷◌, ◌++◌, length, take, slice_index_or, sym, subst, arith}
use Rattle.std.specs.Prelude.{◌↔◌}
use Rattle.std.specs.List.{AllByRecursion}
use Rattle.gx_pages.specs.declared.row.RowRef.{RowRef}
use Rattle.gx_pages.specs.Rows.{AreBelow, IsRising}

all_push : (number : ℕ) (rows : List RowRef) (row : RowRef) → AllByRecursion (λ (other : RowRef). number < other.number) rows → number < row.number
    → AllByRecursion (λ (other : RowRef). number < other.number) (rows ++ row ∷ [])
all_push number [] row all here = (here, tt)
all_push number (r ∷ rows) row all here = (all.0, all_push number rows row all.1 here)

pub rising_push : (rows : List RowRef) (row : RowRef) → IsRising rows → AreBelow rows row.number → IsRising (rows ++ row ∷ [])
rising_push [] row rising below = (tt, tt)
rising_push (r ∷ rows) row rising below = (all_push r.number rows row rising.0 below.0, rising_push rows row rising.1 below.1)

all_take : (number n : ℕ) (rows : List RowRef) → AllByRecursion (λ (other : RowRef). number < other.number) rows → AllByRecursion (λ (other : RowRef). number < other.number) (take n rows)
all_take number zero rows all = tt
all_take number (suc n) [] all = tt
all_take number (suc n) (row ∷ rows) all = (all.0, all_take number n rows all.1)

-- the first of rising rows rise
pub rising_take : (n : ℕ) (rows : List RowRef) → IsRising rows → IsRising (take n rows)
rising_take zero rows rising = tt
rising_take (suc n) [] rising = tt
rising_take (suc n) (row ∷ rows) rising = (all_take row.number n rows rising.0, rising_take n rows rising.1)

-- All rows are below a number where the last one is.
pub last_below : (row : RowRef) (rows : List RowRef) (none : RowRef) (number : ℕ) → IsRising (row ∷ rows)
    → (slice_index_or (row ∷ rows) (length rows) none).number < number → AreBelow (row ∷ rows) number
last_below row [] none number rising below = (below, tt)
last_below row (other ∷ rows) none number rising below =
    let rest = last_below other rows none number rising.1 below in
    (omega (arith, rising.0.0, rest.0), rest)

pub below_last : (row : RowRef) (rows : List RowRef) (none : RowRef) (number : ℕ)
    → AreBelow (row ∷ rows) number → (slice_index_or (row ∷ rows) (length rows) none).number < number
below_last row [] none number below = below.0
below_last row (other ∷ rows) none number below = below_last other rows none number below.1

pub last_tells : (rows : List RowRef) (none : RowRef) (number : ℕ) → 0 < length rows → IsRising rows
    → ((slice_index_or rows (length rows - 1) none).number < number) ↔ AreBelow rows number
last_tells [] none number some rising = absurd (omega (arith, some))
last_tells (row ∷ rows) none number some rising =
    let place : length (row ∷ rows) - 1 ≡ length rows = omega arith in
    let P : ℕ → Type 0 = λ k. ((slice_index_or (row ∷ rows) k none).number < number) ↔ AreBelow (row ∷ rows) number in
    subst P (sym place) (last_below row rows none number rising, below_last row rows none number)
