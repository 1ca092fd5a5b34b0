-- Decisions of the operators on maps: each is true exactly where the operator's relation holds.
use Rattle.std.specs.Prelude.{ℕ, Bool, true, false, List, Option, None, Some, is_some, bytes_eq}
use Rattle.std.specs.List.{list_all, list_any}
use Rattle.gx_hstore.specs.Map.{Pair, find}
use Rattle.gx_hstore.specs.Operators.{Question, Contains, Has, HasAll, HasAny}

-- the same value, or NULL twice
abbrev pub same_value : Option (List ℕ) → Option (List ℕ) → Bool
same_value None None = true
same_value (Some a) (Some b) = bytes_eq a b
same_value _ _ = false

-- both look-ups found the same, or nothing
abbrev pub same_found : Option (Option (List ℕ)) → Option (Option (List ℕ)) → Bool
same_found None None = true
same_found (Some a) (Some b) = same_value a b
same_found _ _ = false

abbrev pub has_key : List Pair → List ℕ → Bool
has_key hstore key = is_some (find key hstore)

-- each key of the other map has one value in both
abbrev pub contains_map : List Pair → List Pair → Bool
contains_map hstore other = list_all (λ p. same_found (find p.0 hstore) (find p.0 other)) other

unfoldable pub holds : Question → List Pair → Bool
holds (Contains other) hstore = contains_map hstore other
holds (Has key) hstore = has_key hstore key
holds (HasAll keys) hstore = list_all (λ key. has_key hstore key) keys
holds (HasAny keys) hstore = list_any (λ key. has_key hstore key) keys
