-- Which rows a GIN query looks at, and what is known of each.
use Rattle.std.specs.Prelude.{ℕ, Bool, true, false, ◌||◌, List, [], ◌∷◌, map, IsTrue}
use Rattle.std.specs.List.{list_any}
use Rattle.std.specs.Str.{bytes_eq}
use Rattle.gx_gin.specs.declared.wanted.Mode.{Mode}
use Rattle.gx_gin.specs.declared.wanted.Mode.TheVariants.{Default, IncludeEmpty, All}

-- the item is among these
abbrev pub is_among : List (List ℕ) → List ℕ → Bool
is_among items item = list_any (λ other. bytes_eq other item) items

-- for each wanted item, whether a value with these items has it
abbrev pub flags : List (List ℕ) → List (List ℕ) → List Bool
flags wanted items = map (is_among items) wanted

abbrev pub has_none : List (List ℕ) → Bool
has_none [] = true
has_none (item ∷ items) = false

-- A value is in reach where it has some wanted item; in the second mode also where it has no items; in the third always.
abbrev pub reaches : Mode → List (List ℕ) → List (List ℕ) → Bool
reaches Default wanted items = list_any (is_among items) wanted
reaches IncludeEmpty wanted items = list_any (is_among items) wanted || has_none items
reaches All wanted items = true

abbrev pub InReach : Mode → List (List ℕ) → List (List ℕ) → Type 0
InReach mode wanted items = IsTrue (reaches mode wanted items)
