-- What bytes spell.
use Rattle.std.specs.Prelude.{◌≡◌, ◌≢◌, ℕ, List}

-- no valid key has these bytes
abbrev pub SpellsNone : {K : Type 0} → (K → Type 0) → (K → List ℕ) → List ℕ → Type 0
SpellsNone {K} valid spelling bytes = (key : K) → valid key → bytes ≢ spelling key

-- this valid key has them
abbrev pub IsSpelled : {K : Type 0} → (K → Type 0) → (K → List ℕ) → List ℕ → K → Type 0
IsSpelled valid spelling bytes key = valid key × (bytes ≡ spelling key)

-- this is the answer for the valid key that has them
abbrev pub IsAnswerOf : {K A : Type 0} → (K → Type 0) → (K → List ℕ) → List ℕ → (K → A) → A → Type 0
IsAnswerOf {K} valid spelling bytes answer_for answer = (key : K) × IsSpelled valid spelling bytes key × (answer ≡ answer_for key)
