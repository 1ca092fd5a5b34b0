-- The values that an INSERT gives, and the row that they make.
use Rattle.std.specs.Prelude.{◌≡◌, ℕ, if◌then◌else◌, List, [], ◌∷◌, map, Option, None, Some}
use Rattle.std.specs.List.{filter_map}
use Rattle.std.specs.Str.{bytes_eq}
use Rattle.gx_value.specs.Literals.{Reads}
use Rattle.gx_value.specs.Values.{Datum, IsField}
use Rattle.gx_parse.specs.declared.statement.Given.{Given}
use Rattle.gx_value.specs.declared.fields.Column.{Column}
use Rattle.gx_model.specs.Database.{column_named}

-- those of the columns that are named, in the order of the names; without names all of them
abbrev pub named : List Column → Option (List (List ℕ)) → List Column
named columns None = columns
named columns (Some names) = filter_map (column_named columns) names

-- the literal is read as this value of the column's type, or is NULL
pub record IsRead (c : Column) (g : Given) (value : Option Datum) : Type 0 where
  pub read : Reads c.kind g.literal value
  pub valid : IsField c.kind value

-- The literals are read as these values, each for the column that stands at its place.
abbrev pub ReadsValues : List Column → List Given → List (Option Datum) → Type 0
ReadsValues targets [] values = values ≡ []
ReadsValues (c ∷ cs) (g ∷ gs) (v ∷ vs) = IsRead c g v × ReadsValues cs gs vs
ReadsValues _ _ _ = ⊥

-- the value that stands at the place of the column with this name; NULL where there is none
abbrev pub value_for : List ℕ → List Column → List (Option Datum) → Option Datum
value_for name (c ∷ cs) (v ∷ vs) = if bytes_eq c.name name then v else value_for name cs vs
value_for name _ _ = None

-- a field for each column of the table
abbrev pub fields_of : List Column → List Column → List (Option Datum) → List (Option Datum)
fields_of columns targets values = map (λ c. value_for c.name targets values) columns

-- The literals that are given for these of the table's columns make a row with these fields.
abbrev pub ReadsRow : List Column → List Column → List Given → List (Option Datum) → Type 0
ReadsRow columns targets row fields =
    (values : List (Option Datum)) × ReadsValues targets row values × (fields ≡ fields_of columns targets values)

-- row by row
abbrev pub ReadsRows : List Column → List Column → List (List Given) → List (List (Option Datum)) → Type 0
ReadsRows columns targets [] added = added ≡ []
ReadsRows columns targets (row ∷ rows) (fields ∷ added) = ReadsRow columns targets row fields × ReadsRows columns targets rows added
ReadsRows columns targets (row ∷ rows) [] = ⊥
