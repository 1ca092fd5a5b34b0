-- Bound conditions without their boxes, and which of them can be asked of the rows of a table.
use Rattle.std.specs.Prelude.{◌≡◌, ◌⊎◌, true, List, map, Option, None, Some, option_map, IsSomeAnd}
use Rattle.std.specs.List.{slice_get}
use Rattle.gx_value.specs.declared.fields.Column.{Column}
use Rattle.gx_value.specs.declared.types.ColumnType.{ColumnType}
use Rattle.gx_value.specs.declared.operators.Operator.{Operator}
use Rattle.gx_value.specs.Operators.{is_operand}
use Rattle.gx_value.specs.Values.{Datum}
use Rattle.gx_opr.specs.declared.operand.Operand as code
use Rattle.gx_opr.specs.Operands.{right_of, IsRight}
use Rattle.gx_opr.specs.Operators.{IsPathValue}
use Rattle.gx_model.specs.Truth as model
use Rattle.gx_plan.specs.declared.bound.Bound.{Bound}
use Rattle.gx_plan.specs.declared.bound.Bound.TheVariants as bound
use Rattle.gx_plan.specs.declared.bound.Truth.{Truth}
use Rattle.gx_plan.specs.declared.bound.Truth.TheVariants as truth

abbrev pub truth_of : Truth → model.Truth
truth_of truth.False = model.False
truth_of truth.Unknown = model.Unknown
truth_of truth.True = model.True

-- a right side with its type, as the model has it
abbrev pub operand_of : code.Operand → model.Operand
operand_of o = record { kind = o.kind; right = right_of o.part }

abbrev pub bound_of : Bound → model.Bound
bound_of (bound.And' p a q b) = model.And (bound_of a) (bound_of b)
bound_of (bound.Or' p a q b) = model.Or (bound_of a) (bound_of b)
bound_of (bound.Not' p a) = model.Not (bound_of a)
bound_of (bound.Atom place op operand) = model.Atom place op (option_map operand_of operand)
bound_of (bound.IsNull place negated) = model.IsNull place negated

-- the types of columns
abbrev pub kinds_of : List Column → List ColumnType
kinds_of columns = map (λ c. c.kind) columns

-- the table of operators has the operator for the column with such an operand, which is valid
abbrev pub IsAsked : Operator → Option model.Operand → ColumnType → Type 0
IsAsked op None kind = Unit {0}
IsAsked op (Some o) kind = (is_operand kind op o.kind ≡ true) × IsRight o.kind o.right

-- The condition can be asked of rows with these types: it names columns that are there, with operators that they have.
abbrev pub IsBound : List ColumnType → model.Bound → Type 0
IsBound kinds (model.And a b) = IsBound kinds a × IsBound kinds b
IsBound kinds (model.Or a b) = IsBound kinds a × IsBound kinds b
IsBound kinds (model.Not a) = IsBound kinds a
IsBound kinds (model.Atom place op operand) = IsSomeAnd (slice_get kinds place) (IsAsked op operand)
IsBound kinds (model.IsNull place negated) = IsSomeAnd (slice_get kinds place) (λ kind. Unit {0})

-- An operator of the condition is asked of a path.
abbrev pub AsksPath : model.Bound → List (Option Datum) → Type 0
AsksPath (model.And a b) fields = AsksPath a fields ⊎ AsksPath b fields
AsksPath (model.Or a b) fields = AsksPath a fields ⊎ AsksPath b fields
AsksPath (model.Not a) fields = AsksPath a fields
AsksPath (model.Atom place op operand) fields = IsSomeAnd (model.field_at fields place) IsPathValue
AsksPath (model.IsNull place negated) fields = ⊥
