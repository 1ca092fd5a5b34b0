-- Scalars as text: PostgreSQL 16, 8.1, 8.3, 8.4.1, 8.5 and 8.12.
use Rattle.std.specs.Prelude.{◌≡◌, ℕ, ◌+◌, ◌*◌, List, [], ◌∷◌, ℤ, Some, Result, Ok, Err}
use Rattle.std.specs.Int.{w128, to_be_bytes, from_be_bytes}
use Rattle.std.specs.Fmt.{signed_decimal}
use Rattle.hex.specs.Hex.{hex_digit_value, encode_lower}
use Rattle.uuid.specs.Text.{parsed, hyphenated_text, lower}
use Rattle.gx_bytes.specs.declared.error.ValueError.{ValueError}
use Rattle.gx_bytes.specs.declared.error.ValueError.TheVariants.{NoValue, OutOfRange, TooDeep, Memory}
use Rattle.gx_bytes.specs.Blanks.{core_of}
use Rattle.gx_bytes.specs.Wholes.{SpellsWhole, IsOutside}
use Rattle.gx_bytes.specs.Days.{SpellsDay, IsDateForm, IsInCalendar, printed_day}
use Rattle.gx_scalar.specs.declared.scalar.Scalar.{Scalar}
use Rattle.gx_scalar.specs.declared.scalar.Scalar.TheVariants.{Int4, Int8, Text, Bytea, Date, Uuid}
use Rattle.gx_scalar.specs.declared.scalar.ScalarKind.{ScalarKind}
use Rattle.gx_scalar.specs.declared.scalar.ScalarKind.TheVariants as kinds
use Rattle.gx_scalar.specs.Values.{IsScalar, least_int4, greatest_int4, least_int8, greatest_int8}

-- two hexadecimal digits write a byte, the high four bits first
pub record IsPair (high low byte : ℕ) : Type 0 where
  pub h : ℕ
  pub l : ℕ
  pub first : hex_digit_value high ≡ Some h
  pub second : hex_digit_value low ≡ Some l
  pub value : byte ≡ h * 16 + l

-- two digits for each byte
abbrev pub ArePairs : List ℕ → List ℕ → Type 0
ArePairs [] [] = Unit {0}
ArePairs (high ∷ low ∷ digits) (byte ∷ bytes) = IsPair high low byte × ArePairs digits bytes
ArePairs _ _ = ⊥

-- `\x` and two hexadecimal digits for each byte
pub record SpellsBytea (text bytes : List ℕ) : Type 0 where
  pub digits : List ℕ
  pub parts : text ≡ 92 ∷ 120 ∷ digits
  pub pairs : ArePairs digits bytes

-- 32 hexadecimal digits, or those with hyphens as 8-4-4-4-12, or that in braces, or that behind
-- `urn:uuid:` in any case: the texts that the crate `uuid` parses, to sixteen bytes, the highest first
abbrev pub SpellsUuid : List ℕ → ℕ → Type 0
SpellsUuid text n = (bytes : List ℕ) × (parsed text ≡ Some bytes) × (n ≡ from_be_bytes w128 bytes)

-- the text is one of the scalar
abbrev pub Spells : List ℕ → Scalar → Type 0
Spells text (Int4 n) = SpellsWhole text n
Spells text (Int8 n) = SpellsWhole text n
Spells text (Text bytes) = text ≡ bytes
Spells text (Bytea bytes) = SpellsBytea text bytes
Spells text (Date n) = SpellsDay text n
Spells text (Uuid n) = SpellsUuid text n

-- the text spells a number or a day that the type doesn't have
abbrev pub LeavesRange : ScalarKind → List ℕ → Type 0
LeavesRange kinds.Int4 text = (n : ℤ) × SpellsWhole text n × IsOutside least_int4 greatest_int4 n
LeavesRange kinds.Int8 text = (n : ℤ) × SpellsWhole text n × IsOutside least_int8 greatest_int8 n
LeavesRange kinds.Date text =
    (y : ℕ) × (m : ℕ) × (d : ℕ) × IsDateForm (core_of text) y m d × (IsInCalendar y m d → ⊥)
LeavesRange _ text = ⊥

-- what each answer of the reader says of the text
abbrev pub AnswersScalar : ScalarKind → List ℕ → Result Scalar ValueError → Type 0
AnswersScalar kind text (Ok scalar) = IsScalar kind scalar × Spells text scalar
AnswersScalar kind text (Err NoValue) =
    ((scalar : Scalar) → IsScalar kind scalar → Spells text scalar → ⊥) × (LeavesRange kind text → ⊥)
AnswersScalar kind text (Err OutOfRange) = LeavesRange kind text
AnswersScalar kind text (Err TooDeep) = ⊥
AnswersScalar kind text (Err Memory) = Unit {0}

-- the one printed text
abbrev pub printed : Scalar → List ℕ
printed (Int4 n) = signed_decimal n
printed (Int8 n) = signed_decimal n
printed (Text bytes) = bytes
printed (Bytea bytes) = 92 ∷ 120 ∷ encode_lower bytes
printed (Date n) = printed_day n
printed (Uuid n) = hyphenated_text lower (to_be_bytes w128 n)
