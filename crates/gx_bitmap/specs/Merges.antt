-- Two lists of rows by rising numbers.
use Rattle.std.specs.Prelude.{◌≡◌, ◌⊎◌, ◌<◌, ◌==◌, Bool, true, false, List, [], ◌∷◌, ◌||◌}
use Rattle.std.specs.List.{AllByRecursion}
use Rattle.gx_pages.specs.declared.row.RowRef.{RowRef}

-- the row's number is that of one of these
abbrev pub is_among : RowRef → List RowRef → Bool
is_among row [] = false
is_among row (other ∷ rows) = (other.number == row.number) || is_among row rows

-- all of these have numbers above the row's
abbrev pub AreAbove : RowRef → List RowRef → Type 0
AreAbove row rows = AllByRecursion (λ other. row.number < other.number) rows

-- The row with the least number of two lists was taken off the one that it stands in, or off both.
abbrev pub Takes : List RowRef → List RowRef → RowRef → Bool → List RowRef → List RowRef → Type 0
Takes left right row common left_then right_then =
    ((common ≡ false) × (left ≡ row ∷ left_then) × (right ≡ right_then) × AreAbove row right)
    ⊎ (((common ≡ true) × (left ≡ row ∷ left_then) × ((other : RowRef) × (right ≡ other ∷ right_then) × (other.number ≡ row.number)))
    ⊎ ((common ≡ false) × (left ≡ left_then) × (right ≡ row ∷ right_then) × AreAbove row left))
