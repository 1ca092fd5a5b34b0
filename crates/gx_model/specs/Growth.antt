-- How many pages a statement may add.
use Rattle.std.specs.Prelude.{ℕ, suc, ◌+◌, ◌*◌, List, [], ◌∷◌, Option, None, Some}
use Rattle.gx_value.specs.declared.classes.Class.{Class}
use Rattle.gx_value.specs.Values.{Datum}
use Rattle.gx_candidates.specs.Candidates.{entries_of}
use Rattle.gx_model.specs.Database.{Index}
use Rattle.gx_model.specs.Truth.{field_at}

-- the most for a table, an index, a row and an entry of an index
abbrev pub pages_each : ℕ
pages_each = 128

-- how many entries a field has in an index of the class: a NULL has one
abbrev pub entries_at : Class → Option Datum → ℕ
entries_at class None = 1
entries_at class (Some value) = entries_of class value

-- how many a row with these fields has in these indexes on its table
abbrev pub entries_in : List Index → List (Option Datum) → ℕ
entries_in [] fields = 0
entries_in (index ∷ indexes) fields = entries_at index.class (field_at fields index.column) + entries_in indexes fields

-- the most pages that an INSERT of these rows adds
abbrev pub growth_of_rows : List Index → List (List (Option Datum)) → ℕ
growth_of_rows indexes [] = 0
growth_of_rows indexes (row ∷ rows) = pages_each * suc (entries_in indexes row) + growth_of_rows indexes rows

-- the most pages that an index adds which is made on a table with these rows
abbrev pub growth_of_index : Index → List (List (Option Datum)) → ℕ
growth_of_index index [] = pages_each
growth_of_index index (row ∷ rows) = pages_each * entries_in (index ∷ []) row + growth_of_index index rows
