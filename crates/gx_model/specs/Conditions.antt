-- A condition as it is written, bound to the columns of a table: its checks, and what it then is.
use Rattle.std.specs.Prelude.{◌≡◌, ℕ, Bool, true, List, [], ◌∷◌, ◌++◌, Option, None, Some, is_none, is_some, option_map, IsSomeAnd, ◌&&◌}
use Rattle.gx_value.specs.declared.types.ColumnType.{ColumnType}
use Rattle.gx_value.specs.declared.types.OperandType.{OperandType}
use Rattle.gx_value.specs.declared.operators.Operator.{Operator}
use Rattle.gx_value.specs.declared.literal.Literal.{Literal}
use Rattle.gx_value.specs.Types.{operand_named}
use Rattle.gx_opr.specs.Literals.{ReadsOperand}
use Rattle.gx_opr.specs.Operands.{Right}
use Rattle.gx_opr.specs.Resolving.{resolve}
use Rattle.gx_parse.specs.declared.statement.Given.{Given}
use Rattle.gx_parse.specs.declared.statement.TypeWord.{TypeWord}
use Rattle.gx_parse.specs.Trees as trees
use Rattle.gx_model.specs.Checks.{Check, fault_where, is_operand}
use Rattle.gx_value.specs.declared.fields.Column.{Column}
use Rattle.gx_model.specs.Database.{column_named, place_of}
use Rattle.gx_model.specs.Truth.{Operand, Bound, And, Or, Not, Atom, IsNull}

-- the type that a cast names
abbrev pub cast_type : Option TypeWord → Option OperandType
cast_type None = None
cast_type (Some w) = operand_named w.word w.list

-- there is a cast, to a word that names no type
abbrev pub is_unknown_type : Option TypeWord → Bool
is_unknown_type cast = is_some cast && is_none (cast_type cast)

-- the type that an atom's literal is taken for
abbrev pub operand_type : ColumnType → Operator → Given → Option OperandType
operand_type kind op given = resolve kind op given.literal.form (cast_type given.cast)

-- E11, or a fault of the literal
abbrev pub literal_checks : Literal → Option OperandType → List Check
literal_checks literal None = fault_where 11 true ∷ []
literal_checks literal (Some t) = is_operand t literal ∷ []

abbrev pub found_checks : Option Column → (Column → List Check) → List Check
found_checks None more = fault_where 4 true ∷ []
found_checks (Some c) more = more c

-- E4; then, where there is such a column, the checks with it
abbrev pub column_checks : List Column → List ℕ → (Column → List Check) → List Check
column_checks columns name more = found_checks (column_named columns name) more

-- E6, E11, and then E8, E9 or E18
abbrev pub atom_checks : Operator → Given → Column → List Check
atom_checks op given c = fault_where 6 (is_unknown_type given.cast) ∷ literal_checks given.literal (operand_type c.kind op given)

-- Each atom in the order in which they are written: E4, E6, E11, and then E8, E9 or E18.
abbrev pub condition_checks : List Column → trees.Tree → List Check
condition_checks columns (trees.And a b) = condition_checks columns a ++ condition_checks columns b
condition_checks columns (trees.Or a b) = condition_checks columns a ++ condition_checks columns b
condition_checks columns (trees.Not a) = condition_checks columns a
condition_checks columns (trees.Atom name op given) = column_checks columns name (atom_checks op given)
condition_checks columns (trees.IsNull name negated) = column_checks columns name (λ c. [])

-- the literal as an operand of the type; none for NULL
abbrev pub BindsLiteral : Option OperandType → Literal → Option Operand → Type 0
BindsLiteral None literal operand = ⊥
BindsLiteral (Some t) literal operand =
    (right : Option Right) × ReadsOperand t literal right × (operand ≡ option_map (λ r. record { kind = t; right = r }) right)

-- An atom has its column's place, its operator, and its literal as an operand.
pub record BindsAtom (columns : List Column) (name : List ℕ) (op : Operator) (given : Given) (place : ℕ) (bound_op : Operator) (operand : Option Operand) : Type 0 where
  pub place_is : place_of columns name ≡ Some place
  pub op_is : bound_op ≡ op
  pub literal : IsSomeAnd (column_named columns name) (λ c. BindsLiteral (operand_type c.kind op given) given.literal operand)

-- the condition with its names as places and its literals as operands
abbrev pub Binds : List Column → trees.Tree → Bound → Type 0
Binds columns (trees.And a b) (And x y) = Binds columns a x × Binds columns b y
Binds columns (trees.Or a b) (Or x y) = Binds columns a x × Binds columns b y
Binds columns (trees.Not a) (Not x) = Binds columns a x
Binds columns (trees.Atom name op given) (Atom place bound_op operand) = BindsAtom columns name op given place bound_op operand
Binds columns (trees.IsNull name negated) (IsNull place bound_negated) = (place_of columns name ≡ Some place) × (bound_negated ≡ negated)
Binds _ _ _ = ⊥

-- what stands behind WHERE, or nothing
abbrev pub where_checks : List Column → Option trees.Tree → List Check
where_checks columns None = []
where_checks columns (Some t) = condition_checks columns t

abbrev pub BindsWhere : List Column → Option trees.Tree → Option Bound → Type 0
BindsWhere columns None None = Unit {0}
BindsWhere columns (Some t) (Some x) = Binds columns t x
BindsWhere _ _ _ = ⊥
