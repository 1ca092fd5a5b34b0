-- Single steps of the readers, as the contracts of their parts have them.
use Rattle.std.specs.Prelude.{◌≡◌, ◌≢◌, ℕ, Bool, false, ◌⊎◌, List, [], ◌∷◌, ◌++◌, Option}
use Rattle.gx_bytes.specs.Varints.{IsField}
use Rattle.gx_hstore.specs.Map.{Pair}
use Rattle.gx_hstore.specs.Text.{ends}
use Rattle.gx_hstore.specs.Encoding.{IsValue, TakesEntry}

-- a sign in front that stands for the byte, and the rest
abbrev pub TakesSign : Bool → List ℕ → ℕ → List ℕ → Type 0
TakesSign quoted text byte rest =
    (text ≡ 92 ∷ byte ∷ rest) ⊎ ((text ≡ byte ∷ rest) × (ends quoted byte ≡ false) × (byte ≢ 92))

-- a field in front, and the rest
abbrev pub TakesField : List ℕ → List ℕ → List ℕ → Type 0
TakesField bytes part rest = (field : List ℕ) × IsField field part × (bytes ≡ field ++ rest)

-- a value in front, and the rest
abbrev pub TakesValue : List ℕ → Option (List ℕ) → List ℕ → Type 0
TakesValue bytes value rest = (front : List ℕ) × IsValue front value × (bytes ≡ front ++ rest)

-- new is old with the entry of the pair at its end
abbrev pub AppendsEntry : List ℕ → List ℕ → Pair → Type 0
AppendsEntry old new pair = (bytes : List ℕ) × TakesEntry bytes pair [] × (new ≡ old ++ bytes)
