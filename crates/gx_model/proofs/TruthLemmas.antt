-- The three values as ranks.
use Rattle.std.proofs.Common.{◌≡◌, ◌-◌, min, max, Option, Some, None, refl}
use Rattle.gx_value.specs.declared.operators.Operator.{Operator}
use Rattle.gx_model.specs.Truth.{Operand, Truth, False, Unknown, True, rank, and_of, or_of, not_of, truth_of_atom}

pub least : (a b : Truth) → rank (and_of a b) ≡ min (rank a) (rank b)
least False False = refl
least False Unknown = refl
least False True = refl
least Unknown False = refl
least Unknown Unknown = refl
least Unknown True = refl
least True False = refl
least True Unknown = refl
least True True = refl

pub greatest : (a b : Truth) → rank (or_of a b) ≡ max (rank a) (rank b)
greatest False False = refl
greatest False Unknown = refl
greatest False True = refl
greatest Unknown False = refl
greatest Unknown Unknown = refl
greatest Unknown True = refl
greatest True False = refl
greatest True Unknown = refl
greatest True True = refl

pub turned : (a : Truth) → rank (not_of a) ≡ 2 - rank a
turned False = refl
turned Unknown = refl
turned True = refl

pub of_null : (op : Operator) (operand : Option Operand) → truth_of_atom op None operand ≡ Unknown
of_null op None = refl
of_null op (Some operand) = refl
