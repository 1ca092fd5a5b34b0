-- Keys: the least and the greatest value below an item. A text or a byte string is cut at 900 bytes.
use Rattle.std.specs.Prelude.{◌≡◌, ℕ, ◌+◌, ◌/◌, ◌%◌, ◌^◌, ◌<◌, ◌≤◌, ◌⊎◌, Bool, true, nat_lt, List, [], ◌∷◌, ◌++◌, length, take, if◌then◌else◌}
use Rattle.std.specs.Int.{w32, w64, w128, to_le_bytes, to_be_bytes, cast_unsigned}
use Rattle.std.specs.Ordering.{nat_cmp, int_cmp, bool_cmp, then_cmp, on}
use Rattle.std.specs.Cmp.Lexicographic.{slice_cmp}
use Rattle.std.specs.declared.cmp.Ordering.{Ordering}
use Rattle.gx_bytes.specs.Wholes.{IsWithin}
use Rattle.gx_bytes.specs.Days.{IsDateDay}
use Rattle.gx_scalar.specs.declared.scalar.Scalar.{Scalar}
use Rattle.gx_scalar.specs.declared.scalar.Scalar.TheVariants as scalars
use Rattle.gx_scalar.specs.declared.scalar.ScalarKind.{ScalarKind}
use Rattle.gx_scalar.specs.declared.scalar.ScalarKind.TheVariants as kinds
use Rattle.gx_scalar.specs.Values.{least_int4, greatest_int4, least_int8, greatest_int8}
use Rattle.gx_class_scalar.specs.declared.key.Part.{Part}
use Rattle.gx_class_scalar.specs.declared.key.ScalarKey.{ScalarKey}
use Rattle.gx_class_scalar.specs.declared.key.ScalarKey.TheVariants.{Int4, Int8, Date, Uuid, Cut}
use Rattle.gx_class_scalar.specs.Orders.{IsAtMost, lesser, greater}

-- the first 900 bytes
unfoldable pub front : List ℕ → List ℕ
front bytes = take 900 bytes

-- these, and whether there are more
abbrev pub part_of : List ℕ → Part
part_of bytes = record { bytes = front bytes; more = nat_lt 900 (length bytes) }

-- by bytes, then the one that goes on is the greater
abbrev pub part_cmp : Part → Part → Ordering
part_cmp = then_cmp (on (λ (p : Part). p.bytes) (slice_cmp nat_cmp)) (on (λ (p : Part). p.more) bool_cmp)

-- the key of one value
abbrev pub leaf_key : Scalar → ScalarKey
leaf_key (scalars.Int4 n) = Int4 n n
leaf_key (scalars.Int8 n) = Int8 n n
leaf_key (scalars.Date n) = Date n n
leaf_key (scalars.Uuid n) = Uuid n n
leaf_key (scalars.Text bytes) = Cut (part_of bytes) (part_of bytes)
leaf_key (scalars.Bytea bytes) = Cut (part_of bytes) (part_of bytes)

-- the least and the greatest of both keys
abbrev pub joined : ScalarKey → ScalarKey → ScalarKey
joined (Int4 a b) (Int4 c d) = Int4 (lesser int_cmp a c) (greater int_cmp b d)
joined (Int8 a b) (Int8 c d) = Int8 (lesser int_cmp a c) (greater int_cmp b d)
joined (Date a b) (Date c d) = Date (lesser int_cmp a c) (greater int_cmp b d)
joined (Uuid a b) (Uuid c d) = Uuid (lesser nat_cmp a c) (greater nat_cmp b d)
joined (Cut a b) (Cut c d) = Cut (lesser part_cmp a c) (greater part_cmp b d)
joined a b = a

-- a key reaches at least as far as another
abbrev pub IsOver : ScalarKey → ScalarKey → Type 0
IsOver (Int4 a b) (Int4 c d) = IsAtMost int_cmp a c × IsAtMost int_cmp d b
IsOver (Int8 a b) (Int8 c d) = IsAtMost int_cmp a c × IsAtMost int_cmp d b
IsOver (Date a b) (Date c d) = IsAtMost int_cmp a c × IsAtMost int_cmp d b
IsOver (Uuid a b) (Uuid c d) = IsAtMost nat_cmp a c × IsAtMost nat_cmp d b
IsOver (Cut a b) (Cut c d) = IsAtMost part_cmp a c × IsAtMost part_cmp d b
IsOver _ _ = ⊥

-- at most 900 bytes, and 900 where there are more
pub record IsPart (p : Part) : Type 0 where
  pub size : length p.bytes ≤ 900
  pub full : p.more ≡ true → length p.bytes ≡ 900

-- a valid key of the type: the least value is at most the greatest
abbrev pub IsKey : ScalarKind → ScalarKey → Type 0
IsKey kind (Int4 a b) = (kind ≡ kinds.Int4) × IsWithin least_int4 greatest_int4 a × IsWithin least_int4 greatest_int4 b × IsAtMost int_cmp a b
IsKey kind (Int8 a b) = (kind ≡ kinds.Int8) × IsWithin least_int8 greatest_int8 a × IsWithin least_int8 greatest_int8 b × IsAtMost int_cmp a b
IsKey kind (Date a b) = (kind ≡ kinds.Date) × IsDateDay a × IsDateDay b × IsAtMost int_cmp a b
IsKey kind (Uuid a b) = (kind ≡ kinds.Uuid) × (a < 2 ^ 128) × (b < 2 ^ 128) × IsAtMost nat_cmp a b
IsKey kind (Cut a b) = ((kind ≡ kinds.Text) ⊎ (kind ≡ kinds.Bytea)) × IsPart a × IsPart b × IsAtMost part_cmp a b

-- the bytes of a cut value: a length as a varint, the bytes, and 1 where there are more
abbrev pub size_bytes : ℕ → List ℕ
size_bytes n = if nat_lt n 128 then n ∷ [] else (128 + n % 128) ∷ (n / 128) ∷ []

abbrev pub flag_of : Bool → ℕ
flag_of more = if more then 1 else 0

abbrev pub part_bytes : Part → List ℕ
part_bytes p = size_bytes (length p.bytes) ++ (p.bytes ++ flag_of p.more ∷ [])

-- the bytes of a key: those of the least value, then those of the greatest
abbrev pub spelled : ScalarKey → List ℕ
spelled (Int4 a b) = to_le_bytes w32 (cast_unsigned w32 a) ++ to_le_bytes w32 (cast_unsigned w32 b)
spelled (Int8 a b) = to_le_bytes w64 (cast_unsigned w64 a) ++ to_le_bytes w64 (cast_unsigned w64 b)
spelled (Date a b) = to_le_bytes w32 (cast_unsigned w32 a) ++ to_le_bytes w32 (cast_unsigned w32 b)
spelled (Uuid a b) = to_be_bytes w128 a ++ to_be_bytes w128 b
spelled (Cut a b) = part_bytes a ++ part_bytes b
