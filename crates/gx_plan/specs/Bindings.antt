-- What binding a condition, and the parts of it, finds where no check fails.
use Rattle.std.specs.Prelude.{◌≡◌, ℕ, List, slice_get, Option, None, Some}
use Rattle.gx_bytes.specs.declared.error.ValueError.{ValueError}
use Rattle.gx_value.specs.declared.fields.Column.{Column}
use Rattle.gx_value.specs.declared.operators.Operator.{Operator}
use Rattle.gx_parse.specs.declared.statement.Given.{Given}
use Rattle.gx_parse.specs.Trees.{Tree}
use Rattle.gx_model.specs.Checks.{Find, fault_of}
use Rattle.gx_model.specs.Conditions.{condition_checks, atom_checks, operand_type, Binds, BindsLiteral}
use Rattle.gx_model.specs.Database.{column_named, place_of}
use Rattle.gx_model.specs.Truth as model
use Rattle.gx_model.specs.declared.refusal.Refusal.{Refusal}
use Rattle.gx_model.specs.declared.refusal.Refusal.TheVariants.{Fault, Memory}
use Rattle.gx_plan.specs.Bounds.{kinds_of, IsAsked, IsBound}

-- the condition passes its checks, and this is what it is bound to
pub record IsBinding (columns : List Column) (tree : Tree) (bound : model.Bound) : Type 0 where
  pub passes : Find (condition_checks columns tree) None
  pub binds : Binds columns tree bound
  pub asked : IsBound (kinds_of columns) bound

-- the first column of this name, and its place
pub record IsFound (columns : List Column) (name : List ℕ) (place : ℕ) (column : Column) : Type 0 where
  pub place_is : place_of columns name ≡ Some place
  pub column_is : column_named columns name ≡ Some column
  pub kind_is : slice_get (kinds_of columns) place ≡ Some column.kind

-- the literal passes its checks, and this is the operand that it is
pub record IsOperandFor (column : Column) (op : Operator) (given : Given) (operand : Option model.Operand) : Type 0 where
  pub passes : Find (atom_checks op given column) None
  pub binds : BindsLiteral (operand_type column.kind op given) given.literal operand
  pub asked : IsAsked op operand column.kind

-- the refusal for a literal's fault
abbrev pub refusal_for : Option ℕ → Refusal
refusal_for None = Memory
refusal_for (Some n) = Fault n

abbrev pub refusal_of : ValueError → Refusal
refusal_of e = refusal_for (fault_of e)
