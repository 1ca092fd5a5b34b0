-- The strings by which index classes know a map: for each key `K` (75) and the key; for each value `P` (80), the key as a field, and the value; for
-- each NULL `N` (78) and the key.
use Rattle.std.specs.Prelude.{ℕ, List, [], ◌∷◌, ◌++◌, Option, Some, None}
use Rattle.std.specs.List.{flat_map}
use Rattle.gx_bytes.specs.Varints.{field_bytes}
use Rattle.gx_hstore.specs.Map.{Pair}

abbrev pub key_item : List ℕ → List ℕ
key_item key = 75 ∷ key

abbrev pub value_item : List ℕ → Option (List ℕ) → List ℕ
value_item key None = 78 ∷ key
value_item key (Some value) = 80 ∷ (field_bytes key ++ value)

abbrev pub pair_items : Pair → List (List ℕ)
pair_items pair = key_item pair.0 ∷ value_item pair.0 pair.1 ∷ []

-- the items of a map
abbrev pub items : List Pair → List (List ℕ)
items pairs = flat_map pair_items pairs
