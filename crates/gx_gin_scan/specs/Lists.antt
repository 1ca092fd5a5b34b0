-- A map from keys to rising lists of rows, and when it is that of rows with their values.
use Rattle.std.specs.Prelude.{◌≡◌, ◌≢◌, ◌&&◌, ℕ, Bool, true, false, if◌then◌else◌, List, [], ◌∷◌, ◌++◌, map, filter}
use Rattle.std.specs.List.{AllByRecursion}
use Rattle.std.specs.Str.{bytes_eq}
use Rattle.gx_pages.specs.declared.row.RowRef.{RowRef}
use Rattle.gx_pages.specs.Rows.{AreBelow, IsRising}
use Rattle.gx_gist.specs.declared.test.Test.{Test}
use Rattle.gx_gist.specs.declared.test.Test.TheVariants.{No, Maybe, Yes}
use Rattle.gx_gin.specs.Reach.{flags, is_among, reaches}
use Rattle.gx_gin.specs.Rising.{IsRising as AreRisingKeys}
use Rattle.gx_gin.specs.declared.wanted.Mode.{Mode}

-- the keys of a value with these items: byte 1 and each item; the placeholder, byte 0 alone, where there is none
abbrev pub keys_of : List (List ℕ) → List (List ℕ)
keys_of [] = (0 ∷ []) ∷ []
keys_of (item ∷ items) = map (λ i. 1 ∷ i) (item ∷ items)

-- the rows under each key
abbrev pub Lists : Type 0
Lists = List (List ℕ × List RowRef)

abbrev pub rows_under : Lists → List ℕ → List RowRef
rows_under [] key = []
rows_under (list ∷ lists) key = if bytes_eq list.0 key then list.1 else rows_under lists key

-- The map is that of these rows with their values, which stand by rising numbers: its keys rise, none is without rows, and under each key are the rows whose value has it.
pub record IsIndexOf {V : Type 0} (items_of : V → List (List ℕ)) (lists : Lists) (rows : List (RowRef × V)) : Type 0 where
  pub keys : AreRisingKeys (map (λ list. list.0) lists)
  pub some : AllByRecursion (λ list. list.1 ≢ []) lists
  pub rising : IsRising (map (λ row. row.0) rows)
  pub under : (key : List ℕ) → rows_under lists key ≡ map (λ row. row.0) (filter (λ row. is_among (keys_of (items_of row.1)) key) rows)

abbrev pub isnt_no : Test → Bool
isnt_no No = false
isnt_no Maybe = true
isnt_no Yes = true

-- the rows in reach of a query whose flags don't rule it out
abbrev pub found : {V : Type 0} → (V → List (List ℕ)) → Mode → List (List ℕ) → (List Bool → Test) → List (RowRef × V) → List RowRef
found items_of mode wanted passes rows =
    map (λ row. row.0) (filter (λ row. reaches mode wanted (items_of row.1) && isnt_no (passes (flags wanted (items_of row.1)))) rows)

-- The row stands later behind the rows of these keys; all else stays.
abbrev pub Grows : List (List ℕ) → RowRef → Lists → Lists → Type 0
Grows keys row lists later = (key : List ℕ) → rows_under later key ≡ rows_under lists key ++ (if is_among keys key then row ∷ [] else [])

-- the row's number is above those of all rows under any key
abbrev pub IsBehind : Lists → RowRef → Type 0
IsBehind lists row = (key : List ℕ) → AreBelow (rows_under lists key) row.number
