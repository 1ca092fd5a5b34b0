-- What types owe so that each piece has a turn: each literal is read or refused, and each row has its bytes.
use Rattle.std.specs.Prelude.{◌≡◌, ◌⊎◌, ℕ, true, List, Option}
use Rattle.gx_value.specs.declared.types.ColumnType.{ColumnType}
use Rattle.gx_value.specs.declared.types.OperandType.{OperandType}
use Rattle.gx_value.specs.declared.literal.Literal.{Literal}
use Rattle.gx_value.specs.Literals.{Reads, IsLiteral}
use Rattle.gx_value.specs.Rows.{IsRowBytes}
use Rattle.gx_value.specs.Values.{Datum, IsField, IsRow}
use Rattle.gx_opr.specs.Resolving.{fits}
use Rattle.gx_model.specs.Checks.{Passes, Fails, is_value, is_operand}

pub record AreTotal : Type 0 where
  -- Each literal is read as a valid value of the column type, or refused with a fault.
  pub values : (kind : ColumnType) (literal : Literal) → IsLiteral literal
      → ((value : Option Datum) × Reads kind literal value × IsField kind value) ⊎ ((n : ℕ) × Fails (is_value kind literal) n)
  -- Each literal that fits an operand's type is read as an operand, or refused with a fault.
  pub operands : (kind : OperandType) (literal : Literal) → IsLiteral literal → fits literal.form kind ≡ true
      → Passes (is_operand kind literal) ⊎ ((n : ℕ) × Fails (is_operand kind literal) n)
  -- Each valid row has bytes.
  pub rows : (kinds : List ColumnType) (row : List (Option Datum)) → IsRow kinds row → (bytes : List ℕ) × IsRowBytes bytes row
