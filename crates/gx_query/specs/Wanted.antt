-- Rows with only the fields of some columns.
use Rattle.std.specs.Prelude.{◌≡◌, ℕ, zero, suc, Bool, true, false, List, [], ◌∷◌, Option, None, Some}
use Rattle.gx_value.specs.Values.{Datum}
use Rattle.gx_model.specs.Truth.{Bound, And, Or, Not, Atom, IsNull}

-- whether the column at a place is wanted; those without a mark are
abbrev pub is_wanted : List Bool → ℕ → Bool
is_wanted [] n = true
is_wanted (w ∷ ws) zero = w
is_wanted (w ∷ ws) (suc n) = is_wanted ws n

-- the row, with NULL in the fields that aren't wanted
abbrev pub narrowed : List Bool → List (Option Datum) → List (Option Datum)
narrowed [] row = row
narrowed (w ∷ ws) [] = []
narrowed (true ∷ ws) (field ∷ row) = field ∷ narrowed ws row
narrowed (false ∷ ws) (field ∷ row) = None ∷ narrowed ws row

-- every column that the condition names is wanted
abbrev pub Covers : List Bool → Bound → Type 0
Covers ws (And a b) = Covers ws a × Covers ws b
Covers ws (Or a b) = Covers ws a × Covers ws b
Covers ws (Not a) = Covers ws a
Covers ws (Atom place op operand) = is_wanted ws place ≡ true
Covers ws (IsNull place negated) = is_wanted ws place ≡ true

abbrev pub CoversWhere : List Bool → Option Bound → Type 0
CoversWhere ws None = Unit {0}
CoversWhere ws (Some condition) = Covers ws condition
