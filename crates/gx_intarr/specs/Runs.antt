-- Bytes that pass a test, as far as such bytes go.
use Rattle.std.specs.Prelude.{◌≡◌, ℕ, Bool, true, false, List, [], ◌∷◌}
use Rattle.std.specs.List.{AllByRecursion}

-- each byte passes
abbrev pub Pass : (ℕ → Bool) → List ℕ → Type 0
Pass test bytes = AllByRecursion (λ c. test c ≡ true) bytes

-- no byte that passes comes first
abbrev pub Stops : (ℕ → Bool) → List ℕ → Type 0
Stops test [] = Unit {0}
Stops test (c ∷ rest) = test c ≡ false
