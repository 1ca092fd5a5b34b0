-- The checks of a statement, in the order in which its faults come.
use Rattle.std.specs.Prelude.{◌≡◌, ◌⊎◌, ℕ, ◌<◌, ◌≤◌, Bool, true, false, List, [], ◌∷◌, length, Option, None, Some}
use Rattle.gx_bytes.specs.declared.error.ValueError.{ValueError}
use Rattle.gx_bytes.specs.declared.error.ValueError.TheVariants.{NoValue, OutOfRange, TooDeep, Memory}
use Rattle.gx_value.specs.declared.types.ColumnType.{ColumnType}
use Rattle.gx_value.specs.declared.types.OperandType.{OperandType}
use Rattle.gx_value.specs.declared.literal.Literal.{Literal}
use Rattle.gx_value.specs.Literals.{Reads, RefusesLiteral}
use Rattle.gx_value.specs.Rows.{IsRowBytes, row_limit}
use Rattle.gx_value.specs.Values.{Datum}
use Rattle.gx_opr.specs.Literals.{ReadsOperand, RefusesOperand}
use Rattle.gx_opr.specs.Operands.{Right}
use Rattle.gx_parse.specs.declared.statement.Given.{Given}
use Rattle.gx_value.specs.declared.fields.Column.{Column}
use Rattle.gx_model.specs.Values.{ReadsRow}

pub data Check : Type 0 where
  -- the fault with this number comes where this is so
  fault_where : ℕ → Bool → Check
  -- the literal is one of the column's type
  is_value : ColumnType → Literal → Check
  -- the literal is one of the type of an operator's right side
  is_operand : OperandType → Literal → Check
  -- The row, whose values are given for these of the table's columns, isn't too long.
  fits : List Column → List Column → List Given → Check

-- the number of a literal's fault; want of memory is none
abbrev pub fault_of : ValueError → Option ℕ
fault_of NoValue = Some 8
fault_of OutOfRange = Some 9
fault_of TooDeep = Some 18
fault_of Memory = None

abbrev pub Passes : Check → Type 0
Passes (fault_where n so) = so ≡ false
Passes (is_value kind literal) = (value : Option Datum) × Reads kind literal value
Passes (is_operand kind literal) = (right : Option Right) × ReadsOperand kind literal right
Passes (fits columns targets row) =
    (fields : List (Option Datum)) × (bytes : List ℕ) × ReadsRow columns targets row fields × IsRowBytes bytes fields × (length bytes ≤ row_limit)

-- the check gives the fault with this number
abbrev pub Fails : Check → ℕ → Type 0
Fails (fault_where m so) n = (so ≡ true) × (n ≡ m)
Fails (is_value kind literal) n = (e : ValueError) × RefusesLiteral kind literal e × (fault_of e ≡ Some n)
Fails (is_operand kind literal) n = (e : ValueError) × RefusesOperand kind literal e × (fault_of e ≡ Some n)
Fails (fits columns targets row) n =
    (fields : List (Option Datum)) × (bytes : List ℕ) × ReadsRow columns targets row fields × IsRowBytes bytes fields × (row_limit < length bytes) × (n ≡ 10)

-- What checks find, one after another: the fault of the first that doesn't pass, or none.
abbrev pub Find : List Check → Option ℕ → Type 0
Find [] found = found ≡ None
Find (c ∷ cs) found = (Passes c × Find cs found) ⊎ ((n : ℕ) × Fails c n × (found ≡ Some n))
