-- An index: rows with their values, of which some are NULL, on pages.
use Rattle.std.specs.Prelude.{◌≡◌, ℕ, List, ◌++◌, filter, Option, None, Some, is_none}
use Rattle.std.specs.List.{filter_map}
use Rattle.std.specs.Option.{option_map}
use Rattle.gx_words.specs.PageMap.{PageMap}
use Rattle.gx_pages.specs.declared.row.RowRef.{RowRef}
use Rattle.gx_value.specs.Values.{Datum}
use Rattle.gx_index.specs.Kept.{Valued, places_of}
use Rattle.gx_index.specs.Nulls.{HoldsNulls}

-- a row, and its value in the column of the index, or NULL
abbrev pub Field : Type 0
Field = RowRef × Option Datum

-- the rows whose value isn't NULL, and those whose value is
abbrev pub valued : List Field → List Valued
valued rows = filter_map (λ row. option_map (λ value. (row.0, value)) row.1) rows

abbrev pub nulls_of : List Field → List RowRef
nulls_of rows = places_of (filter (λ row. is_none row.1) rows)

-- The map holds the index with these rows on these pages: a structure of one class has those with values, and those with NULL stand below their own root page.
-- How rows with and without values stand between each other in the list is left open: a row's number says where it belongs.
pub record HoldsIndex (Holds : List Valued → PageMap → ℕ → List ℕ → Type 0) (nulls : ℕ) (rows : List Field) (pages : PageMap) (count : ℕ) (feet : List ℕ) : Type 0 where
  pub values : List ℕ
  pub others : List ℕ
  pub stand : feet ≡ values ++ others
  pub kept : Holds (valued rows) pages count values
  pub null : HoldsNulls pages count nulls (nulls_of rows) others

-- how many entries a value has, if NULL has one
abbrev pub entries_in : (Datum → ℕ) → Option Datum → ℕ
entries_in entries None = 1
entries_in entries (Some value) = entries value
