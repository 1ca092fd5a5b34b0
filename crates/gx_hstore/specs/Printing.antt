-- The one printed text of a map (PostgreSQL 16, F.18.1).
use Rattle.std.specs.Prelude.{◌==◌, ℕ, ◌||◌, if◌then◌else◌, List, [], ◌∷◌, ◌++◌, codes, flat_map, Option, None, Some}
use Rattle.std.specs.List.{join_by}
use Rattle.gx_hstore.specs.Map.{Pair}

-- a backslash (92) before a quote (34) and a backslash
abbrev pub escaped : ℕ → List ℕ
escaped c = if c == 34 || c == 92 then 92 ∷ c ∷ [] else c ∷ []

-- in double quotes
abbrev pub in_quotes : List ℕ → List ℕ
in_quotes bytes = 34 ∷ (flat_map escaped bytes ++ 34 ∷ [])

abbrev pub printed_value : Option (List ℕ) → List ℕ
printed_value None = codes "NULL"
printed_value (Some value) = in_quotes value

abbrev pub printed_pair : Pair → List ℕ
printed_pair pair = in_quotes pair.0 ++ (codes "=>" ++ printed_value pair.1)

-- the pairs with a comma and a space between them
abbrev pub printed : List Pair → List ℕ
printed hstore = join_by printed_pair (codes ", ") hstore
