-- The bytes of a map in a row.
use Rattle.std.specs.Prelude.{◌≡◌, ℕ, List, [], ◌∷◌, ◌++◌, Option, None, Some, Result, Ok, Err}
use Rattle.std.specs.declared.alloc.AllocError.{AllocError}
use Rattle.gx_bytes.specs.Varints.{IsField}
use Rattle.gx_hstore.specs.Map.{Pair, IsHstore}

-- 0 for NULL; 1 and the value as a field
abbrev pub IsValue : List ℕ → Option (List ℕ) → Type 0
IsValue bytes None = bytes ≡ 0 ∷ []
IsValue bytes (Some value) = (field : List ℕ) × IsField field value × (bytes ≡ 1 ∷ field)

-- the key as a field, the value, and the rest
pub record TakesEntry (bytes : List ℕ) (pair : Pair) (rest : List ℕ) : Type 0 where
  pub key : List ℕ
  pub key_is : IsField key pair.0
  pub value : List ℕ
  pub value_is : IsValue value pair.1
  pub parts : bytes ≡ key ++ (value ++ rest)

-- pair by pair in the order of the list
abbrev pub IsEncoded : List ℕ → List Pair → Type 0
IsEncoded bytes [] = bytes ≡ []
IsEncoded bytes (pair ∷ pairs) = (rest : List ℕ) × TakesEntry bytes pair rest × IsEncoded rest pairs

-- new is old with the bytes of the map at its end
abbrev pub AppendsEncoded : List ℕ → List ℕ → List Pair → Type 0
AppendsEncoded old new hstore = (bytes : List ℕ) × IsEncoded bytes hstore × (new ≡ old ++ bytes)

-- the valid map that the bytes are, or none where there is none
abbrev pub DecodesTo : List ℕ → Result (Option (List Pair)) AllocError → Type 0
DecodesTo bytes (Ok None) = (hstore : List Pair) → IsHstore hstore → IsEncoded bytes hstore → ⊥
DecodesTo bytes (Ok (Some hstore)) = IsHstore hstore × IsEncoded bytes hstore
DecodesTo bytes (Err _) = Unit {0}
