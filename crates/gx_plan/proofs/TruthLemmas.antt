-- What a condition asks of a row.
use Rattle.std.proofs.Common.{◌≡◌, ℕ, zero, suc, Bool, true, false, List, [], ◌∷◌, Option, Result, Ok, Err, IfOk, IsTrue, ◌↔◌, slice_get, refl}
use Rattle.std.specs.Option.{IsSomeAnd}
use Rattle.gx_value.specs.declared.types.ColumnType.{ColumnType}
use Rattle.gx_value.specs.declared.operators.Operator.{Operator}
use Rattle.gx_value.specs.Values.{Datum, IsField, IsRow}
use Rattle.gx_model.specs.Truth as model
use Rattle.gx_plan.specs.Bounds.{IsAsked}

-- the type of the column, whose field is one of it, and of which the operator is asked
abbrev pub AsksOf : Operator → Option model.Operand → Option Datum → Type 0
AsksOf op operand field = (kind : ColumnType) × IsField kind field × IsAsked op operand kind

pub asks_of : (kinds : List ColumnType) (row : List (Option Datum)) (place : ℕ) (op : Operator) (operand : Option model.Operand)
    → IsSomeAnd (slice_get kinds place) (IsAsked op operand) → IsRow kinds row → AsksOf op operand (model.field_at row place)
asks_of [] row place op operand a r = absurd a
asks_of (k ∷ ks) [] place op operand a r = absurd r
asks_of (k ∷ ks) (f ∷ fs) zero op operand a r = (k, r.0, a)
asks_of (k ∷ ks) (f ∷ fs) (suc place) op operand a r = asks_of ks fs place op operand a r.1

same : (a b : Bool) (P : Type 0) → (IsTrue a ↔ P) → (IsTrue b ↔ P) → a ≡ b
same true true P f g = refl
same true false P f g = cc (g.1 (f.0 refl))
same false true P f g = cc (f.1 (g.0 refl))
same false false P f g = refl

-- what is said to hold and what is decided are one
pub as_decided : {E : Type 0} (r : Result Bool E) (b : Bool) (P : Type 0) → IfOk r (λ a. IsTrue a ↔ P) → (IsTrue b ↔ P) → IfOk r (λ a. a ≡ b)
as_decided (Ok a) b P f g = same a b P f g
as_decided (Err e) b P f g = tt
