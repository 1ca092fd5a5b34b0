-- Conditions, and when they are true of a row: in three values.
use Rattle.std.specs.Prelude.{ℕ, Bool, true, false, not, List, slice_get, Option, None, Some, is_none, option_and_then}
use Rattle.gx_value.specs.declared.types.OperandType.{OperandType}
use Rattle.gx_value.specs.declared.operators.Operator.{Operator}
use Rattle.gx_value.specs.Values.{Datum}
use Rattle.gx_opr.specs.Operands.{Right}
use Rattle.gx_opr.specs.Decisions.{holds}

-- a right side and its type
pub record Operand : Type 0 where
  pub kind : OperandType
  pub right : Right

-- A condition on the rows of a table. A column is named by its place, counted from 0. An operand is None for NULL.
pub data Bound : Type 0 where
  And : Bound → Bound → Bound
  Or : Bound → Bound → Bound
  Not : Bound → Bound
  Atom : ℕ → Operator → Option Operand → Bound
  -- IS NULL, or where it is negated IS NOT NULL
  IsNull : ℕ → Bool → Bound

pub data Truth : Type 0 where
  False : Truth
  Unknown : Truth
  True : Truth

abbrev pub truth_of : Bool → Truth
truth_of false = False
truth_of true = True

abbrev pub is_true : Truth → Bool
is_true True = true
is_true _ = false

-- False, unknown and true rise in this order.
abbrev pub rank : Truth → ℕ
rank False = 0
rank Unknown = 1
rank True = 2

-- AND is the least,
abbrev pub and_of : Truth → Truth → Truth
and_of False b = False
and_of Unknown False = False
and_of Unknown Unknown = Unknown
and_of Unknown True = Unknown
and_of True b = b

-- OR the greatest,
abbrev pub or_of : Truth → Truth → Truth
or_of False b = b
or_of Unknown False = Unknown
or_of Unknown Unknown = Unknown
or_of Unknown True = True
or_of True b = True

-- and NOT turns them round.
abbrev pub not_of : Truth → Truth
not_of False = True
not_of Unknown = Unknown
not_of True = False

-- the field at a place, or NULL
abbrev pub field_at : List (Option Datum) → ℕ → Option Datum
field_at fields place = option_and_then (λ field. field) (slice_get fields place)

-- An operator is unknown where one of its sides is NULL.
abbrev pub truth_of_atom : Operator → Option Datum → Option Operand → Truth
truth_of_atom op (Some value) (Some operand) = truth_of (holds op value operand.right)
truth_of_atom op _ _ = Unknown

-- IS NULL is never unknown.
abbrev pub truth_of_null : Option Datum → Bool → Truth
truth_of_null field false = truth_of (is_none field)
truth_of_null field true = truth_of (not (is_none field))

-- a condition's truth of the fields of a row
abbrev pub truth : Bound → List (Option Datum) → Truth
truth (And a b) fields = and_of (truth a fields) (truth b fields)
truth (Or a b) fields = or_of (truth a fields) (truth b fields)
truth (Not a) fields = not_of (truth a fields)
truth (Atom place op operand) fields = truth_of_atom op (field_at fields place) operand
truth (IsNull place negated) fields = truth_of_null (field_at fields place) negated

-- Only true selects; without a condition each row is selected.
abbrev pub selects : Option Bound → List (Option Datum) → Bool
selects None fields = true
selects (Some condition) fields = is_true (truth condition fields)
