-- Finite maps from keys to values or NULL (PostgreSQL 16, F.18), as lists of pairs in the order in which they are printed.
use Rattle.std.specs.Prelude.{◌≡◌, ℕ, List, length, Option, IfSome, IsUtf8, bytes_eq, All}
use Rattle.std.specs.List.Sorted.{IsStrictlySortedBy}
use Rattle.std.specs.Map.{keys_of, lookup}
use Rattle.std.specs.Ordering.{nat_cmp, ordering_then}
use Rattle.std.specs.Cmp.Lexicographic.{slice_cmp}
use Rattle.std.specs.declared.cmp.Ordering.{Ordering}

-- a key with its value; None is NULL
abbrev pub Pair : Type 0
Pair = List ℕ × Option (List ℕ)

-- shorter keys first, then by bytes
abbrev pub key_order : List ℕ → List ℕ → Ordering
key_order a b = ordering_then (nat_cmp (length a) (length b)) (slice_cmp nat_cmp a b)

-- each key stands before those that are greater, and no key stands twice: so a map has one list
abbrev pub IsMap : List Pair → Type 0
IsMap pairs = IsStrictlySortedBy key_order (keys_of pairs)

-- what the first pair with this key says: a value, or None for NULL; and None where no pair has the key
abbrev pub find : List ℕ → List Pair → Option (Option (List ℕ))
find key pairs = lookup (bytes_eq key) pairs

-- the map of a list of pairs: its keys with their values, of which the first counts where keys are equal
pub record IsMapOf (pairs hstore : List Pair) : Type 0 where
  pub is_map : IsMap hstore
  pub first : (key : List ℕ) → find key hstore ≡ find key pairs

-- a key and a value are text
pub record IsTextPair (pair : Pair) : Type 0 where
  pub key : IsUtf8 pair.0
  pub value : IfSome pair.1 IsUtf8

-- a valid map: its keys rise, and its keys and values are text
pub record IsHstore (hstore : List Pair) : Type 0 where
  pub is_map : IsMap hstore
  pub texts : All IsTextPair hstore
