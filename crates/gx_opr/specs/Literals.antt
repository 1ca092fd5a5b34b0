-- Literals as right sides of operators: what each type reads.
use Rattle.std.specs.Prelude.{◌≡◌, ℕ, List, [], ◌∷◌, ◌++◌, Option, None, Some, Result, Ok, Err, IsUtf8, ◌⊎◌}
use Rattle.std.specs.List.{AllZip}
use Rattle.gx_bytes.specs.declared.error.ValueError.{ValueError}
use Rattle.gx_bytes.specs.declared.error.ValueError.TheVariants.{NoValue, Memory}
use Rattle.gx_intarr.specs.Texts.{AnswersTexts}
use Rattle.gx_formula.specs.Grammar.{SpellsFormula}
use Rattle.gx_intarr.specs.Numbers.{TakesInt4}
use Rattle.gx_intarr.specs.Queries.{AnswersQuery}
use Rattle.gx_lquery.specs.declared.query.Lquery.{Lquery}
use Rattle.gx_lquery.specs.Text.{AnswersLquery}
use Rattle.gx_ltxtquery.specs.Text.{AnswersLtxtquery}
use Rattle.gx_ltxtquery.specs.Words.{TakesWord}
use Rattle.gx_value.specs.declared.types.ColumnType.{ColumnType}
use Rattle.gx_value.specs.declared.types.OperandType.{OperandType}
use Rattle.gx_value.specs.declared.types.OperandType.TheVariants as operand
use Rattle.gx_value.specs.declared.literal.Form.{Form}
use Rattle.gx_value.specs.declared.literal.Form.TheVariants as form
use Rattle.gx_value.specs.declared.literal.Literal.{Literal}
use Rattle.gx_value.specs.Types.{as_column}
use Rattle.gx_value.specs.Literals.{Reads, RefusesLiteral}
use Rattle.gx_opr.specs.Operands.{Right, datum, texts, lquery, lqueries, ltxtquery, query_int}

-- the element of an array is read as this query
abbrev pub SpellsElement : List ℕ → Lquery → Type 0
SpellsElement text query = IsUtf8 text × AnswersLquery text (Ok query)

-- an element that isn't UTF-8 is no query
abbrev pub RefusesElement : List ℕ → ValueError → Type 0
RefusesElement text e = (IsUtf8 text × AnswersLquery text (Err e)) ⊎ ((IsUtf8 text → ⊥) × (e ≡ NoValue))

abbrev pub AreQueries : List (List ℕ) → List Lquery → Type 0
AreQueries elements queries = AllZip SpellsElement elements queries

-- the first element that is no query, from the left, is refused with this error; want of memory is free
pub record RefusesFirst (elements : List (List ℕ)) (e : ValueError) : Type 0 where
  pub front : List (List ℕ)
  pub queries : List Lquery
  pub text : List ℕ
  pub rest : List (List ℕ)
  pub parts : elements ≡ front ++ text ∷ rest
  pub before : AreQueries front queries
  pub refused : RefusesElement text e

abbrev pub RefusesQueries : List (List ℕ) → ValueError → Type 0
RefusesQueries elements e = RefusesFirst elements e ⊎ (e ≡ Memory)

-- the text is read as this, of the types that no column has
abbrev pub SpellsRight : OperandType → List ℕ → Right → Type 0
SpellsRight operand.TextArray text (texts ts) = AnswersTexts text (Ok ts)
SpellsRight operand.Lquery text (lquery q) = AnswersLquery text (Ok q)
SpellsRight operand.LqueryArray text (lqueries qs) = (elements : List (List ℕ)) × AnswersTexts text (Ok elements) × AreQueries elements qs
SpellsRight operand.Ltxtquery text (ltxtquery t) = SpellsFormula TakesWord text t
SpellsRight operand.QueryInt text (query_int t) = SpellsFormula TakesInt4 text t
SpellsRight _ _ _ = ⊥

-- the text is refused with this error
abbrev pub RefusesRight : OperandType → List ℕ → ValueError → Type 0
RefusesRight operand.TextArray text e = AnswersTexts text (Err e)
RefusesRight operand.Lquery text e = AnswersLquery text (Err e)
RefusesRight operand.LqueryArray text e =
    AnswersTexts text (Err e) ⊎ ((elements : List (List ℕ)) × AnswersTexts text (Ok elements) × RefusesQueries elements e)
RefusesRight operand.Ltxtquery text e = AnswersLtxtquery text (Err e)
RefusesRight operand.QueryInt text e = AnswersQuery text (Err e)
RefusesRight _ _ _ = ⊥

-- a text that isn't UTF-8 is of no type
abbrev pub RefusesText : OperandType → List ℕ → ValueError → Type 0
RefusesText kind text e = (IsUtf8 text × RefusesRight kind text e) ⊎ ((IsUtf8 text → ⊥) × (e ≡ NoValue))

-- a list: texts as they are, or each element a query
abbrev pub SpellsList : OperandType → List (List ℕ) → Right → Type 0
SpellsList operand.TextArray elements (texts ts) = ts ≡ elements
SpellsList operand.LqueryArray elements (lqueries qs) = AreQueries elements qs
SpellsList _ _ _ = ⊥

abbrev pub RefusesList : OperandType → List (List ℕ) → ValueError → Type 0
RefusesList operand.TextArray elements e = e ≡ Memory
RefusesList operand.LqueryArray elements e = RefusesQueries elements e
RefusesList _ _ _ = ⊥

-- the literal of a type that no column has is read so; a number is read as its text
abbrev pub ReadsTexts : OperandType → Form → List (List ℕ) → Option Right → Type 0
ReadsTexts kind form.Null ts None = Unit {0}
ReadsTexts kind form.Text (text ∷ []) (Some right) = IsUtf8 text × SpellsRight kind text right
ReadsTexts kind form.Number (text ∷ []) (Some right) = IsUtf8 text × SpellsRight kind text right
ReadsTexts kind form.List ts (Some right) = SpellsList kind ts right
ReadsTexts _ _ _ _ = ⊥

abbrev pub RefusesTexts : OperandType → Form → List (List ℕ) → ValueError → Type 0
RefusesTexts kind form.Text (text ∷ []) e = RefusesText kind text e
RefusesTexts kind form.Number (text ∷ []) e = RefusesText kind text e
RefusesTexts kind form.List ts e = RefusesList kind ts e
RefusesTexts _ _ _ _ = ⊥

-- a column type's literal is read as a value of it
abbrev pub ReadsDatum : ColumnType → Literal → Option Right → Type 0
ReadsDatum kind literal None = Reads kind literal None
ReadsDatum kind literal (Some (datum d)) = Reads kind literal (Some d)
ReadsDatum kind literal (Some _) = ⊥

-- the literal is read so as an operand of the type
abbrev pub ReadsAs : OperandType → Option ColumnType → Literal → Option Right → Type 0
ReadsAs kind (Some column) literal found = ReadsDatum column literal found
ReadsAs kind None literal found = ReadsTexts kind literal.form literal.texts found

abbrev pub ReadsOperand : OperandType → Literal → Option Right → Type 0
ReadsOperand kind literal found = ReadsAs kind (as_column kind) literal found

-- the literal is refused so
abbrev pub RefusesAs : OperandType → Option ColumnType → Literal → ValueError → Type 0
RefusesAs kind (Some column) literal e = RefusesLiteral column literal e
RefusesAs kind None literal e = RefusesTexts kind literal.form literal.texts e

abbrev pub RefusesOperand : OperandType → Literal → ValueError → Type 0
RefusesOperand kind literal e = RefusesAs kind (as_column kind) literal e

-- what each answer of the reader says of the literal
abbrev pub AnswersOperand : OperandType → Literal → Result (Option Right) ValueError → Type 0
AnswersOperand kind literal (Ok found) = ReadsOperand kind literal found
AnswersOperand kind literal (Err e) = RefusesOperand kind literal e
