-- The table of operators: PostgreSQL 16, 9.2, 9.12, 9.16, 9.20, F.18, F.20 and F.23.
use Rattle.std.specs.Prelude.{ℕ, ◌==◌, Bool, true, ◌&&◌, List, [], ◌∷◌, find}
use Rattle.std.specs.Cmp.Lexicographic.{pointwise}
use Rattle.std.specs.List.{list_any, list_all}
use Rattle.std.specs.Option.{option_map_or}
use Rattle.gx_value.specs.declared.types.ColumnType.{ColumnType}
use Rattle.gx_value.specs.declared.types.ColumnType.TheVariants as column
use Rattle.gx_value.specs.declared.types.OperandType.{OperandType}
use Rattle.gx_value.specs.declared.types.OperandType.TheVariants as operand
use Rattle.gx_value.specs.declared.operators.Operator.{Operator}
use Rattle.gx_value.specs.declared.operators.Operator.TheVariants.{Equal, NotEqual, Less, LessEqual, Greater, GreaterEqual, Overlaps, Contains, Within, Left, Right, NotRight, NotLeft, Adjacent, LeftEqual, RightEqual, Matches, Has, Words, HasAll, HasAny, Formula}
use Rattle.gx_value.specs.declared.operators.OperatorLine.{OperatorLine}
use Rattle.gx_value.specs.Types.{same_operand}

-- a number for each operator
abbrev pub operator_number : Operator → ℕ
operator_number Equal = 1
operator_number NotEqual = 2
operator_number Less = 3
operator_number LessEqual = 4
operator_number Greater = 5
operator_number GreaterEqual = 6
operator_number Overlaps = 7
operator_number Contains = 8
operator_number Within = 9
operator_number Left = 10
operator_number Right = 11
operator_number NotRight = 12
operator_number NotLeft = 13
operator_number Adjacent = 14
operator_number LeftEqual = 15
operator_number RightEqual = 16
operator_number Matches = 17
operator_number Has = 18
operator_number Words = 19
operator_number HasAll = 20
operator_number HasAny = 21
operator_number Formula = 22

abbrev pub same_operator : Operator → Operator → Bool
same_operator a b = operator_number a == operator_number b

-- operators, and the types that their right side may have
pub record Line : Type 0 where
  pub operators : List Operator
  pub operands : List OperandType

abbrev pub line : List Operator → List OperandType → Line
line operators operands = record { operators = operators; operands = operands }

-- what the code's line says
abbrev pub line_of : OperatorLine → Line
line_of l = line l.operators.now l.operands.now

abbrev pub comparisons : List Operator
comparisons = Equal ∷ NotEqual ∷ Less ∷ LessEqual ∷ Greater ∷ GreaterEqual ∷ []

-- scalars with their own type
abbrev pub of_scalars : OperandType → List Line
of_scalars t = line comparisons (t ∷ []) ∷ []

-- ranges with their own type, and `@>` with an element too
abbrev pub of_ranges : OperandType → OperandType → List Line
of_ranges t element =
    line (Equal ∷ Overlaps ∷ Within ∷ Left ∷ Right ∷ NotRight ∷ NotLeft ∷ Adjacent ∷ []) (t ∷ []) ∷
    line (Contains ∷ []) (t ∷ element ∷ []) ∷
    []

-- the lines of a column type; of a line's types the first is taken for a literal without a cast
abbrev pub lines : ColumnType → List Line
lines column.Int4 = of_scalars operand.Int4
lines column.Int8 = of_scalars operand.Int8
lines column.Text = of_scalars operand.Text
lines column.Bytea = of_scalars operand.Bytea
lines column.Date = of_scalars operand.Date
lines column.Uuid = of_scalars operand.Uuid
lines column.Int4Range = of_ranges operand.Int4Range operand.Int4
lines column.Int8Range = of_ranges operand.Int8Range operand.Int8
lines column.DateRange = of_ranges operand.DateRange operand.Date
lines column.Inet =
    line (Equal ∷ NotEqual ∷ Less ∷ LessEqual ∷ Greater ∷ GreaterEqual ∷ Left ∷ LeftEqual ∷ Right ∷ RightEqual ∷ Overlaps ∷ []) (operand.Inet ∷ []) ∷
    []
lines column.Ltree =
    line (Less ∷ LessEqual ∷ Equal ∷ GreaterEqual ∷ Greater ∷ Contains ∷ Within ∷ []) (operand.Ltree ∷ []) ∷
    line (Matches ∷ []) (operand.Lquery ∷ []) ∷
    line (Has ∷ []) (operand.LqueryArray ∷ []) ∷
    line (Words ∷ []) (operand.Ltxtquery ∷ []) ∷
    []
lines column.Hstore =
    line (Contains ∷ []) (operand.Hstore ∷ []) ∷
    line (Has ∷ []) (operand.Text ∷ []) ∷
    line (HasAll ∷ HasAny ∷ []) (operand.TextArray ∷ []) ∷
    []
lines column.Jsonb =
    line (Contains ∷ []) (operand.Jsonb ∷ []) ∷
    line (Has ∷ []) (operand.Text ∷ []) ∷
    line (HasAll ∷ HasAny ∷ []) (operand.TextArray ∷ []) ∷
    []
lines column.Int4Array =
    line (Overlaps ∷ Contains ∷ Within ∷ Equal ∷ []) (operand.Int4Array ∷ []) ∷
    line (Formula ∷ []) (operand.QueryInt ∷ []) ∷
    []

-- the operator is one of the line's
abbrev pub has_operator : Operator → Line → Bool
has_operator op l = list_any (same_operator op) l.operators

abbrev pub operands_among : List Line → Operator → List OperandType
operands_among ls op = option_map_or (λ l. l.operands) (find (has_operator op) ls) []

-- the types that the right side of an operator may have with such a column on the left; none where there is no such operator
abbrev pub operands : ColumnType → Operator → List OperandType
operands kind op = operands_among (lines kind) op

-- the operator takes an operand of the type
abbrev pub is_operand : ColumnType → Operator → OperandType → Bool
is_operand kind op t = list_any (same_operand t) (operands kind op)

-- each operator of the line has the line's operands, and there is one, so that the line counts
abbrev pub counts : List Line → Line → Bool
counts ls l = list_any (λ op. true) l.operators && list_all (λ op. pointwise same_operand (operands_among ls op) l.operands) l.operators
