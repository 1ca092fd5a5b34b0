-- An index that is asked loses no row: where the operator holds of a value, the value is a candidate.
use Rattle.std.specs.Prelude.{◌≡◌, ℕ, true}
use Rattle.gx_scalar.specs.declared.scalar.ScalarKind.{ScalarKind}
use Rattle.gx_scalar.specs.declared.scalar.ScalarKind.TheVariants.{Int4, Int8, Text, Bytea, Date, Uuid}
use Rattle.gx_value.specs.declared.classes.Class.{Class}
use Rattle.gx_value.specs.declared.classes.Class.TheVariants.{GistInt4, GistInt8, GistText, GistBytea, GistDate, GistUuid}
use Rattle.gx_value.specs.declared.types.ColumnType.{ColumnType}
use Rattle.gx_value.specs.declared.operators.Operator.{Operator}
use Rattle.gx_value.specs.Classes.{takes, allows}
use Rattle.gx_value.specs.Operators.{is_operand}
use Rattle.gx_value.specs.Classes.{supports}
use Rattle.gx_value.specs.Values.{Datum, IsValue}
use Rattle.gx_opr.specs.declared.operand.Operand.{Operand}
use Rattle.gx_opr.specs.Decisions.{holds}
use Rattle.gx_opr.specs.Operands.{right_of, IsOperand}
use Rattle.gx_candidates.specs.Candidates.{candidate}
use Rattle.gx_candidates.specs.Queries.{IsScalarRight, IsValidRight, asks}

-- a question that an index of the class with this parameter over a column of the type answers
pub record IsAsked (class : Class) (n : ℕ) (kind : ColumnType) (op : Operator) (o : Operand) : Type 0 where
  pub takes : takes class kind ≡ true
  pub allows : allows class n ≡ true
  pub supports : supports class op o.kind ≡ true
  pub listed : is_operand kind op o.kind ≡ true
  pub operand : IsOperand o

abbrev pub CandidatesSee : Type 0
CandidatesSee =
    (class : Class) (n : ℕ) (kind : ColumnType) (op : Operator) (o : Operand) (v : Datum) → IsAsked class n kind op o → IsValue kind v → holds op v (right_of o.part) ≡ true
    → candidate class n op (right_of o.part) v ≡ true

-- the class of scalars of each type
abbrev pub scalar_class : ScalarKind → Class
scalar_class Int4 = GistInt4
scalar_class Int8 = GistInt8
scalar_class Text = GistText
scalar_class Bytea = GistBytea
scalar_class Date = GistDate
scalar_class Uuid = GistUuid

-- The right side of a question is valid, and of the column's type where this is one of scalars.
abbrev pub QuestionsAreValid : Type 0
QuestionsAreValid = (class : Class) (n : ℕ) (kind : ColumnType) (op : Operator) (o : Operand) → IsAsked class n kind op o → IsValidRight (right_of o.part)

abbrev pub ScalarQuestionsAreValid : Type 0
ScalarQuestionsAreValid = (scalar : ScalarKind) (n : ℕ) (kind : ColumnType) (op : Operator) (o : Operand) → IsAsked (scalar_class scalar) n kind op o → IsScalarRight scalar (right_of o.part)

-- Each class has a query for each question that its indexes answer.
abbrev pub QuestionsAreAsked : Type 0
QuestionsAreAsked = (class : Class) (n : ℕ) (kind : ColumnType) (op : Operator) (o : Operand) → IsAsked class n kind op o → asks class op (right_of o.part) ≡ true
