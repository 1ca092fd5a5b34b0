-- Which scalars are valid.
use Rattle.std.specs.Prelude.{◌≡◌, ◌-◌, ◌^◌, ◌<◌, All, IsUtf8, ℤ, pos, neg_ℤ}
use Rattle.gx_bytes.specs.Wholes.{IsWithin}
use Rattle.gx_bytes.specs.Days.{IsDateDay}
use Rattle.gx_scalar.specs.declared.scalar.Scalar.{Scalar}
use Rattle.gx_scalar.specs.declared.scalar.Scalar.TheVariants.{Int4, Int8, Text, Bytea, Date, Uuid}
use Rattle.gx_scalar.specs.declared.scalar.ScalarKind.{ScalarKind}
use Rattle.gx_scalar.specs.declared.scalar.ScalarKind.TheVariants as kinds

-- the least and the greatest of int4 and of int8
abbrev pub least_int4 : ℤ
least_int4 = neg_ℤ (pos (2 ^ 31))

abbrev pub greatest_int4 : ℤ
greatest_int4 = pos (2 ^ 31 - 1)

abbrev pub least_int8 : ℤ
least_int8 = neg_ℤ (pos (2 ^ 63))

abbrev pub greatest_int8 : ℤ
greatest_int8 = pos (2 ^ 63 - 1)

-- the type of a scalar
abbrev pub kind_of : Scalar → ScalarKind
kind_of (Int4 n) = kinds.Int4
kind_of (Int8 n) = kinds.Int8
kind_of (Text bytes) = kinds.Text
kind_of (Bytea bytes) = kinds.Bytea
kind_of (Date n) = kinds.Date
kind_of (Uuid n) = kinds.Uuid

-- a number of the type's size, UTF-8, bytes, a day of the years 1 to 9999
abbrev pub IsValid : Scalar → Type 0
IsValid (Int4 n) = IsWithin least_int4 greatest_int4 n
IsValid (Int8 n) = IsWithin least_int8 greatest_int8 n
IsValid (Text bytes) = IsUtf8 bytes
IsValid (Bytea bytes) = All (λ b. b < 256) bytes
IsValid (Date n) = IsDateDay n
IsValid (Uuid n) = n < 2 ^ 128

-- a valid scalar of the type
abbrev pub IsScalar : ScalarKind → Scalar → Type 0
IsScalar kind scalar = (kind_of scalar ≡ kind) × IsValid scalar
