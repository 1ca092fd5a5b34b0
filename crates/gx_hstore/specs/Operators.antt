-- The operators on maps (PostgreSQL 16, F.18.2).
use Rattle.std.specs.Prelude.{◌≡◌, ℕ, List, Option, Some, IsSome, All, Any}
use Rattle.gx_hstore.specs.Map.{Pair, find}

-- `hstore ? key`
abbrev pub HasKey : List Pair → List ℕ → Type 0
HasKey hstore key = IsSome (find key hstore)

-- `hstore @> other`: each key of the other map is here with an equal value; NULL equals NULL alone
abbrev pub ContainsMap : List Pair → List Pair → Type 0
ContainsMap hstore other =
    (key : List ℕ) (value : Option (List ℕ)) → find key other ≡ Some value → find key hstore ≡ Some value

-- an operator with its operand: `@>`, `?`, `?&` and `?|`
pub data Question : Type 0 where
  Contains : List Pair → Question
  Has : List ℕ → Question
  HasAll : List (List ℕ) → Question
  HasAny : List (List ℕ) → Question

-- the operator holds of the map and the operand: for `?&` the map has all of the keys, for `?|` some
abbrev pub Holds : Question → List Pair → Type 0
Holds (Contains other) hstore = ContainsMap hstore other
Holds (Has key) hstore = HasKey hstore key
Holds (HasAll keys) hstore = All (λ key. HasKey hstore key) keys
Holds (HasAny keys) hstore = Any (λ key. HasKey hstore key) keys
