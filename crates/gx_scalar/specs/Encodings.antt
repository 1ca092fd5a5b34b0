-- Scalars as bytes.
use Rattle.std.specs.Prelude.{◌≡◌, ℕ, List, Option, Some, None}
use Rattle.std.specs.Int.{w32, w64, w128, to_le_bytes, to_be_bytes, cast_unsigned}
use Rattle.gx_scalar.specs.declared.scalar.Scalar.{Scalar}
use Rattle.gx_scalar.specs.declared.scalar.Scalar.TheVariants.{Int4, Int8, Text, Bytea, Date, Uuid}
use Rattle.gx_scalar.specs.declared.scalar.ScalarKind.{ScalarKind}
use Rattle.gx_scalar.specs.Values.{IsScalar}

-- int4 and date in four bytes and int8 in eight, the lowest first; uuid in sixteen, the highest first
abbrev pub encoded : Scalar → List ℕ
encoded (Int4 n) = to_le_bytes w32 (cast_unsigned w32 n)
encoded (Int8 n) = to_le_bytes w64 (cast_unsigned w64 n)
encoded (Text bytes) = bytes
encoded (Bytea bytes) = bytes
encoded (Date n) = to_le_bytes w32 (cast_unsigned w32 n)
encoded (Uuid n) = to_be_bytes w128 n

-- the valid scalar with these bytes, or none where no valid scalar has them
abbrev pub DecodesTo : ScalarKind → List ℕ → Option Scalar → Type 0
DecodesTo kind bytes None = (scalar : Scalar) → IsScalar kind scalar → bytes ≡ encoded scalar → ⊥
DecodesTo kind bytes (Some scalar) = IsScalar kind scalar × (bytes ≡ encoded scalar)
