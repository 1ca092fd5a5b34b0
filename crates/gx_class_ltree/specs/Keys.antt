-- The class gist_ltree_ops: keys have the least and the greatest first labels of the paths below an item, and a signature of their labels.
use Rattle.std.specs.Prelude.{◌≡◌, ℕ, ◌+◌, ◌-◌, ◌≤◌, nat_le, nat_lt, true, List, [], ◌∷◌, length, map, sum_by, if◌then◌else◌}
use Rattle.std.specs.Ordering.{is_le, then_cmp, on, bool_cmp}
use Rattle.std.specs.Char.{to_ascii_lowercase}
use Rattle.std.specs.declared.cmp.Ordering.{Ordering}
use Rattle.gx_bytes.specs.Hash.{hash_from}
use Rattle.gx_ltree.specs.Path.{IsPath}
use Rattle.gx_ltree.specs.Operators.{order}
use Rattle.gx_sig.specs.BitSets.{both, IsSignature}
use Rattle.gx_class_sets.specs.Signatures as signatures
use Rattle.gx_class_sets.specs.Signatures.{sign}
use Rattle.gx_class_ltree.specs.declared.key.Part.{Part}
use Rattle.gx_class_ltree.specs.declared.key.LtreeKey.{LtreeKey}

-- the first labels for which there is room: each takes two bytes more than it has
abbrev pub front : ℕ → List (List ℕ) → List (List ℕ)
front room [] = []
front room (label ∷ path) = if nat_le (length label + 2) room then label ∷ front (room - (length label + 2)) path else []

abbrev pub room_of : List (List ℕ) → ℕ
room_of path = sum_by (λ label. length label + 2) path

-- the first labels of a path that take 600 bytes at most, and whether it goes on
abbrev pub part : List (List ℕ) → Part
part path = record { path = front 600 path; cut = nat_lt (length (front 600 path)) (length path) }

-- the order of parts: as paths, then one that goes on last
abbrev pub part_cmp : Part → Part → Ordering
part_cmp = then_cmp (on (λ p. p.path) order) (on (λ p. p.cut) bool_cmp)

abbrev pub IsAtMost : Part → Part → Type 0
IsAtMost a b = is_le (part_cmp a b) ≡ true

-- the hash of a label in lower case
abbrev pub label_hash : List ℕ → ℕ
label_hash label = hash_from 2166136261 (map to_ascii_lowercase label)

-- the signature of the labels of a path
abbrev pub labels_key : ℕ → List (List ℕ) → List ℕ
labels_key n path = sign n (map label_hash path)

-- the lesser and the greater of two parts
abbrev pub lesser : Part → Part → Part
lesser a b = if is_le (part_cmp a b) then a else b

abbrev pub greater : Part → Part → Part
greater a b = if is_le (part_cmp b a) then a else b

-- a valid part: the labels of a path, of 600 bytes at most
pub record IsPart (p : Part) : Type 0 where
  pub valid : IsPath p.path
  pub short : room_of p.path ≤ 600

-- a valid key: the least part is at most the greatest
pub record IsKey (n : ℕ) (k : LtreeKey n) : Type 0 where
  pub low : IsPart k.low
  pub high : IsPart k.high
  pub rise : IsAtMost k.low k.high
  pub sig : IsSignature n k.sig

-- the key of one path
abbrev pub leaf_key : (n : ℕ) → List (List ℕ) → LtreeKey n
leaf_key n path = record { low = part path; high = part path; sig = labels_key n path }

-- the key of all that both keys stand for
abbrev pub union : {n : ℕ} → LtreeKey n → LtreeKey n → LtreeKey n
union a b = record { low = lesser a.low b.low; high = greater a.high b.high; sig = both a.sig b.sig }

-- a key reaches at least as far as another
pub record IsOver {n : ℕ} (k l : LtreeKey n) : Type 0 where
  pub low : IsAtMost k.low l.low
  pub high : IsAtMost l.high k.high
  pub sig : signatures.IsOver k.sig l.sig

-- the bits that a union adds to a key's signature
abbrev pub growth : (n : ℕ) → LtreeKey n → LtreeKey n → ℕ
growth n key added = signatures.growth n key.sig added.sig
