-- The right sides of operators, and which are valid.
use Rattle.std.specs.Prelude.{◌≡◌, ℕ, ℤ, true, List, Option, None, Some}
use Rattle.std.specs.List.{AllByRecursion}
use Rattle.gx_formula.specs.Formula.{Tree}
use Rattle.gx_intarr.specs.Formula as numbers
use Rattle.gx_lquery.specs.declared.query.Lquery.{Lquery}
use Rattle.gx_lquery.specs.declared.variant.Variant.{Variant}
use Rattle.gx_lquery.specs.Query.{IsLquery}
use Rattle.gx_ltxtquery.specs.Formula as words
use Rattle.gx_value.specs.declared.types.ColumnType.{ColumnType}
use Rattle.gx_value.specs.declared.types.OperandType.{OperandType}
use Rattle.gx_value.specs.declared.types.OperandType.TheVariants as operand
use Rattle.gx_value.specs.declared.operators.Operator.{Operator}
use Rattle.gx_value.specs.Types.{as_column}
use Rattle.gx_value.specs.Operators.{is_operand}
use Rattle.gx_value.specs.Values.{Datum, datum_of, IsValue}
use Rattle.gx_opr.specs.declared.operand.Part.{Part}
use Rattle.gx_opr.specs.declared.operand.Part.TheVariants as part
use Rattle.gx_opr.specs.declared.operand.Operand.{Operand}

-- a value as plain data, texts, a query over paths or some, a formula of words or of numbers as a tree
pub data Right : Type 0 where
  datum : Datum → Right
  texts : List (List ℕ) → Right
  lquery : Lquery → Right
  lqueries : List Lquery → Right
  ltxtquery : Tree Variant → Right
  query_int : Tree ℤ → Right

-- what a right side of the code is
abbrev pub right_of : Part → Right
right_of (part.Value v) = datum (datum_of v)
right_of (part.Texts ts) = texts ts
right_of (part.Lquery q) = lquery q
right_of (part.Lqueries qs) = lqueries qs
right_of (part.Ltxtquery q) = ltxtquery (words.tree_of q.formula)
right_of (part.QueryInt q) = query_int (numbers.tree_of q.formula)

abbrev pub IsDatumOf : Option ColumnType → Datum → Type 0
IsDatumOf None d = ⊥
IsDatumOf (Some kind) d = IsValue kind d

-- a valid right side of the type
abbrev pub IsRight : OperandType → Right → Type 0
IsRight operand.TextArray (texts ts) = Unit {0}
IsRight operand.Lquery (lquery q) = IsLquery q
IsRight operand.LqueryArray (lqueries qs) = AllByRecursion IsLquery qs
IsRight operand.Ltxtquery (ltxtquery t) = Unit {0}
IsRight operand.QueryInt (query_int t) = numbers.HasInt4 t
IsRight kind (datum d) = IsDatumOf (as_column kind) d
IsRight _ _ = ⊥

abbrev pub IsOperand : Operand → Type 0
IsOperand o = IsRight o.kind (right_of o.part)

-- the table has the operator for a column that has the value, with an operand of this type
pub record Resolves (op : Operator) (value : Datum) (o : Operand) : Type 0 where
  pub column : ColumnType
  pub is_value : IsValue column value
  pub listed : is_operand column op o.kind ≡ true
  pub is_right : IsOperand o
