-- Posting lists: rows by rising numbers, each by three varints.
use Rattle.std.specs.Prelude.{◌≡◌, ℕ, ◌-◌, ◌<◌, ◌^◌, List, [], ◌∷◌, ◌++◌, Option, Some, None}
use Rattle.std.specs.List.{AllByRecursion}
use Rattle.gx_pages.specs.declared.row.RowRef.{RowRef}
use Rattle.gx_pages.specs.Rows.{IsRising}
use Rattle.gx_bytes.specs.Varints.{varint_bytes}

-- a row's number less the one before, its page, and its slot
abbrev pub entry_bytes : ℕ → RowRef → List ℕ
entry_bytes before row = varint_bytes (row.number - before) ++ varint_bytes row.page ++ varint_bytes row.slot

-- the rows one behind another, the first behind a row of this number
abbrev pub entries_bytes : ℕ → List RowRef → List ℕ
entries_bytes before [] = []
entries_bytes before (row ∷ rows) = entry_bytes before row ++ entries_bytes row.number rows

-- the number of a row, or 0 where there is none: with it the number of the first row stands for itself
abbrev pub number_of : Option RowRef → ℕ
number_of None = 0
number_of (Some row) = row.number

-- the last of some rows
abbrev pub last_of : List RowRef → Option RowRef
last_of [] = None
last_of (row ∷ []) = Some row
last_of (row ∷ other ∷ rows) = last_of (other ∷ rows)

-- the fields of a row hold its numbers
abbrev pub Fits : RowRef → Type 0
Fits row = (row.number < 2 ^ 64) × (row.page < 2 ^ 64) × (row.slot < 2 ^ 16)

-- The bytes spell the rows: these rise, and their bytes stand one behind another.
pub record Spells (bytes : List ℕ) (rows : List RowRef) : Type 0 where
  pub fit : AllByRecursion Fits rows
  pub rise : IsRising rows
  pub are : bytes ≡ entries_bytes 0 rows
