-- Keys that come more than once in an object of a text.
use Rattle.std.specs.Prelude.{◌≡◌, ◌≢◌, ℕ, ◌⊎◌, List}
use Rattle.json.specs.Json as json

-- no member has the key
abbrev pub Lacks : List ℕ → json.Members → Type 0
Lacks key json.no_members = Unit {0}
Lacks key (json.member k j ms) = (k ≢ key) × Lacks key ms

-- a member has the key and this value, and no later one has the key
abbrev pub IsLast : List ℕ → json.Json → json.Members → Type 0
IsLast key j json.no_members = ⊥
IsLast key j (json.member k i ms) = ((k ≡ key) × (i ≡ j) × Lacks key ms) ⊎ IsLast key j ms
