-- Rows by rising numbers, one after another.
use Rattle.std.proofs.Common.{◌≡◌, ◌<◌, ℕ, zero, suc, Bool, true, false, List, [], ◌∷◌, length, take, slice_index_or, sym, subst, arith}
use Rattle.std.specs.Prelude.{IsTrue}
use Rattle.std.specs.List.{AllByRecursion}
use Rattle.gx_pages.specs.declared.row.RowRef.{RowRef}
use Rattle.gx_pages.specs.Rows.{AreBelow, IsRising}

all_at : {A : Type 0} (Q : A → Type 0) (xs : List A) (n : ℕ) (other : A) → n < length xs → AllByRecursion Q xs → Q (slice_index_or xs n other)
all_at Q [] n other within all = absurd (omega (arith, within))
all_at Q (x ∷ xs) zero other within all = all.0
all_at Q (x ∷ xs) (suc n) other within all = all_at Q xs n other (omega (arith, within)) all.1

below_row : (rows : List RowRef) (n : ℕ) (other : RowRef) → n < length rows → IsRising rows → AreBelow (take n rows) (slice_index_or rows n other).number
below_row [] n other within rising = absurd (omega (arith, within))
below_row (at ∷ rows) zero other within rising = tt
below_row (at ∷ rows) (suc n) other within rising =
    (all_at (λ (x : RowRef). at.number < x.number) rows n other (omega (arith, within)) rising.0, below_row rows n other (omega (arith, within)) rising.1)

-- a row that isn't above those before it
pub not_rising : (rows bitmap : List RowRef) (n : ℕ) (other : RowRef) (below : Bool) → n < length rows → bitmap ≡ take n rows
    → (AreBelow bitmap (slice_index_or rows n other).number → IsTrue below) → below ≡ false → IsRising rows → ⊥
not_rising rows bitmap n other below within is tells fails rising =
    let never : false ≡ true = subst IsTrue fails (tells (subst (λ (l : List RowRef). AreBelow l (slice_index_or rows n other).number) (sym is) (below_row rows n other within rising))) in cc
