-- The operators of documents (PostgreSQL 16, 8.14.3 and 9.16).
use Rattle.std.specs.Prelude.{◌≡◌, ℕ, ◌⊎◌, List, All, Any}
use Rattle.serde_json.specs.Data.{Data, null, boolean, number, string, array, object, Items, no_items, item, Members, no_members, member}

-- some element is one of which P says so
abbrev pub SomeItem : (Data → Type 0) → Items → Type 0
SomeItem P no_items = ⊥
SomeItem P (item d ds) = P d ⊎ SomeItem P ds

-- the object has the key, with a value of which P says so
abbrev pub SomeMember : List ℕ → (Data → Type 0) → Members → Type 0
SomeMember key P no_members = ⊥
SomeMember key P (member k d ms) = ((k ≡ key) × P d) ⊎ SomeMember key P ms

-- `value ? key`: an object with this key, an array with this text as an element, or this text
abbrev pub HasKey : List ℕ → Data → Type 0
HasKey key null = ⊥
HasKey key (boolean b) = ⊥
HasKey key (number n) = ⊥
HasKey key (string s) = s ≡ key
HasKey key (array ds) = SomeItem (λ d. d ≡ string key) ds
HasKey key (object ms) = SomeMember key (λ _. Unit {0}) ms

abbrev mutual
  -- the value covers the other: equal scalars; an array some element of which covers each element of the other; an
  -- object with each key of the other, and a value there that covers the other's
  pub Covers : Data → Data → Type 0
  Covers v null = v ≡ null
  Covers v (boolean b) = v ≡ boolean b
  Covers v (number n) = v ≡ number n
  Covers v (string s) = v ≡ string s
  Covers v (array qs) = (vs : Items) × (v ≡ array vs) × CoverItems vs qs
  Covers v (object qs) = (vs : Members) × (v ≡ object vs) × CoverMembers vs qs

  pub CoverItems : Items → Items → Type 0
  CoverItems vs no_items = Unit {0}
  CoverItems vs (item q qs) = SomeItem (λ v. Covers v q) vs × CoverItems vs qs

  pub CoverMembers : Members → Members → Type 0
  CoverMembers vs no_members = Unit {0}
  CoverMembers vs (member k q qs) = SomeMember k (λ v. Covers v q) vs × CoverMembers vs qs

abbrev pub IsScalar : Data → Type 0
IsScalar null = Unit {0}
IsScalar (boolean b) = Unit {0}
IsScalar (number n) = Unit {0}
IsScalar (string s) = Unit {0}
IsScalar (array ds) = ⊥
IsScalar (object ms) = ⊥

-- `value @> other`: the value covers the other, or it is an array with the other, a scalar, as an element
abbrev pub ContainsDocument : Data → Data → Type 0
ContainsDocument v q = Covers v q ⊎ (IsScalar q × ((vs : Items) × (v ≡ array vs) × SomeItem (λ d. d ≡ q) vs))

-- an operator with its operand: `@>`, `?`, `?&` and `?|`
pub data Question : Type 0 where
  Contains : Data → Question
  Has : List ℕ → Question
  HasAll : List (List ℕ) → Question
  HasAny : List (List ℕ) → Question

-- the operator holds of the value and the operand
abbrev pub Holds : Question → Data → Type 0
Holds (Contains other) v = ContainsDocument v other
Holds (Has key) v = HasKey key v
Holds (HasAll keys) v = All (λ key. HasKey key v) keys
Holds (HasAny keys) v = Any (λ key. HasKey key v) keys
