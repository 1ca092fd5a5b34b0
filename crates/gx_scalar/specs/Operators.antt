-- The operators on scalars. Numbers and days stand by value, uuid as a number of 128 bits, text and bytea by bytes.
use Rattle.std.specs.Prelude.{◌≡◌, Bool, true, not}
use Rattle.std.specs.Ordering.{int_cmp, nat_cmp, is_eq, is_lt, is_le, is_gt, is_ge}
use Rattle.std.specs.Cmp.Lexicographic.{slice_cmp}
use Rattle.std.specs.declared.cmp.Ordering.{Ordering}
use Rattle.std.specs.declared.cmp.Ordering.TheVariants as orderings
use Rattle.gx_scalar.specs.declared.scalar.Scalar.{Scalar}
use Rattle.gx_scalar.specs.declared.scalar.Scalar.TheVariants.{Int4, Int8, Text, Bytea, Date, Uuid}
use Rattle.gx_scalar.specs.declared.operators.ScalarOp.{ScalarOp}
use Rattle.gx_scalar.specs.declared.operators.ScalarOp.TheVariants.{Equal, NotEqual, Less, LessEqual, Greater, GreaterEqual}

-- The first byte that differs decides, and a prefix comes before the longer. Scalars of two types
-- are not compared; the order calls them equal.
abbrev pub order : Scalar → Scalar → Ordering
order (Int4 a) (Int4 b) = int_cmp a b
order (Int8 a) (Int8 b) = int_cmp a b
order (Text a) (Text b) = slice_cmp nat_cmp a b
order (Bytea a) (Bytea b) = slice_cmp nat_cmp a b
order (Date a) (Date b) = int_cmp a b
order (Uuid a) (Uuid b) = nat_cmp a b
order _ _ = orderings.Equal

-- the operator holds of a value that stands so to the operand
abbrev pub accepts : ScalarOp → Ordering → Bool
accepts Equal o = is_eq o
accepts NotEqual o = not (is_eq o)
accepts Less o = is_lt o
accepts LessEqual o = is_le o
accepts Greater o = is_gt o
accepts GreaterEqual o = is_ge o

-- whether the operator holds of the value and the operand
abbrev pub holds : ScalarOp → Scalar → Scalar → Bool
holds op value operand = accepts op (order value operand)

abbrev pub Holds : ScalarOp → Scalar → Scalar → Type 0
Holds op value operand = holds op value operand ≡ true
