-- Rows that are appended to a heap.
use Rattle.std.specs.Prelude.{◌≡◌, ℕ, suc, List, [], ◌∷◌, ◌++◌, Option, Some}
use Rattle.gx_bytes.specs.Fields.{le64}
use Rattle.gx_heap.specs.Heaps.{Row}

-- these rows have these bytes, and the numbers from n on
abbrev pub AreNumbered : ℕ → List (List ℕ) → List Row → Type 0
AreNumbered n [] rows = rows ≡ []
AreNumbered n (bytes ∷ more) (row ∷ rows) = (row.0.number ≡ n) × (row.1 ≡ bytes) × AreNumbered (suc n) more rows
AreNumbered n (bytes ∷ more) [] = ⊥

-- the items of rows with these bytes, and the numbers from n on
abbrev pub items_from : ℕ → List (List ℕ) → List (Option (List ℕ))
items_from n [] = []
items_from n (bytes ∷ more) = Some (le64 n ++ bytes) ∷ items_from (suc n) more
