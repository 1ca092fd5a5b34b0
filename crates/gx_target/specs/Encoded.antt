-- The rows of INSERT as bytes.
use Rattle.std.specs.Prelude.{◌≡◌, ℕ, ◌≤◌, List, [], ◌∷◌, ◌++◌, length, map, Option, None}
use Rattle.std.specs.List.{AllByRecursion, AllZip}
use Rattle.gx_parse.specs.declared.statement.Given.{Given}
use Rattle.gx_parse.specs.declared.statement.TypeWord.{TypeWord}
use Rattle.gx_value.specs.declared.fields.Column.{Column}
use Rattle.gx_value.specs.declared.types.ColumnType.{ColumnType}
use Rattle.gx_value.specs.Rows.{SpellsRow, row_limit}
use Rattle.gx_value.specs.Values.{Datum, IsRow}
use Rattle.gx_model.specs.Checks.{Check, Find, fault_where, fits}
use Rattle.gx_model.specs.Conditions.{cast_type, is_unknown_type}
use Rattle.gx_model.specs.Faults.{is_other_type, values_checks}
use Rattle.gx_model.specs.Values.{named, ReadsRow, ReadsRows}

-- The rows that are given for these of the table's columns are read as rows of the table, and these are their bytes, none of which are
-- too many.
pub record EncodeFor (columns targets : List Column) (rows : List (List Given)) (bytes : List (List ℕ)) : Type 0 where
  pub added : List (List (Option Datum))
  pub read : ReadsRows columns targets rows added
  pub spelled : AllZip (λ row fields. SpellsRow (map (λ (c : Column). c.kind) columns) row fields) bytes added
  pub short : AllByRecursion (λ row. length row ≤ row_limit) bytes

-- the same for the listed columns
abbrev pub Encode : List Column → Option (List (List ℕ)) → List (List Given) → List (List ℕ) → Type 0
Encode columns listed rows bytes = EncodeFor columns (named columns listed) rows bytes

-- the values that are given for these of the table's columns make a row with these fields, each of its column's type
pub record IsReadRow (columns targets : List Column) (row : List Given) (fields : List (Option Datum)) : Type 0 where
  pub read : ReadsRow columns targets row fields
  pub valid : IsRow (map (λ (c : Column). c.kind) columns) fields

-- the checks of a row but for that of its number
abbrev pub row_checks : List Column → List Column → List Given → List Check
row_checks columns targets row = values_checks targets row ++ fits columns targets row ∷ []

-- the row passes its checks, and these are its bytes
pub record EncodesRow (columns targets : List Column) (row : List Given) (bytes : List ℕ) : Type 0 where
  pub fields : List (Option Datum)
  pub passes : Find (row_checks columns targets row) None
  pub read : ReadsRow columns targets row fields
  pub spelled : SpellsRow (map (λ (c : Column). c.kind) columns) bytes fields
  pub short : length bytes ≤ row_limit

-- the checks of a cast of a value of the type
abbrev pub cast_checks : ColumnType → Option TypeWord → List Check
cast_checks kind cast = fault_where 6 (is_unknown_type cast) ∷ fault_where 8 (is_other_type kind (cast_type cast)) ∷ []
