-- Columns by their places.
use Rattle.std.specs.Prelude.{◌≡◌, ◌==◌, ℕ, ◌<◌, if◌then◌else◌, List, [], ◌∷◌, length, Option, None, Some, slice_get}
use Rattle.std.specs.List.{AllByRecursion, filter_map}
use Rattle.gx_value.specs.declared.fields.Column.{Column}
use Rattle.gx_value.specs.Values.{Datum}
use Rattle.gx_model.specs.Values.{named}

-- the columns at these places
abbrev pub columns_at : List Column → List ℕ → List Column
columns_at columns places = filter_map (slice_get columns) places

-- each place is one of a column
abbrev pub HasPlaces : List Column → List ℕ → Type 0
HasPlaces columns places = AllByRecursion (λ place. place < length columns) places

-- These are the places of the columns that the names name, in their order; without names those of all columns.
pub record ArePlaces (columns : List Column) (names : Option (List (List ℕ))) (places : List ℕ) : Type 0 where
  pub there : HasPlaces columns places
  pub named : columns_at columns places ≡ named columns names

-- the value that is given for the column at this place; NULL where there is none
abbrev pub value_at : ℕ → List ℕ → List (Option Datum) → Option Datum
value_at place (p ∷ ps) (v ∷ vs) = if p == place then v else value_at place ps vs
value_at place _ _ = None
