-- Literals as operands.
use Rattle.std.proofs.Common.{◌≡◌, inl, inr, true, false, [], ◌∷◌, Option, Some, None, option_map, MatchOption, refl, sym, ap, subst}
use Rattle.gx_value.specs.declared.fields.Column.{Column}
use Rattle.gx_value.specs.declared.literal.Literal.{Literal}
use Rattle.gx_value.specs.declared.operators.Operator.{Operator}
use Rattle.gx_value.specs.declared.types.OperandType.{OperandType}
use Rattle.gx_value.specs.declared.types.ColumnType.{ColumnType}
use Rattle.gx_value.specs.Operators as table
use Rattle.gx_bytes.specs.declared.error.ValueError.{ValueError}
use Rattle.gx_bytes.specs.declared.error.ValueError.TheVariants as error
use Rattle.gx_opr.specs.declared.operand.Operand as code
use Rattle.gx_opr.specs.Literals.{ReadsOperand, RefusesOperand}
use Rattle.gx_opr.specs.Operands.{Right, right_of, IsOperand}
use Rattle.gx_opr.specs.Resolving.{resolve}
use Rattle.gx_parse.specs.declared.statement.Given.{Given}
use Rattle.gx_model.specs.Checks.{Find, is_operand}
use Rattle.gx_model.specs.Conditions.{atom_checks, literal_checks, cast_type, is_unknown_type, operand_type}
use Rattle.gx_model.specs.Refusals.{Refuses}
use Rattle.gx_model.specs.declared.refusal.Refusal.{Refusal}
use Rattle.gx_model.specs.declared.refusal.Refusal.TheVariants.{Fault, Memory}
use Rattle.gx_plan.specs.Bindings.{refusal_of, IsOperandFor}
use Rattle.gx_plan.specs.Bounds.{operand_of, IsAsked}

-- E6
pub unknown_type : (column : Column) (op : Operator) (given : Given) (r : Refusal) → is_unknown_type given.cast ≡ true → r ≡ Fault 6 → Refuses (atom_checks op given column) r
unknown_type column op given r e is = subst (Refuses (atom_checks op given column)) (sym is) (inr (6, (e, refl), refl))

-- the type that a literal is taken for, with what is known of its cast
pub record IsCast (given : Given) (cast : Option OperandType) : Type 0 where
  pub known : is_unknown_type given.cast ≡ false
  pub is : cast ≡ cast_type given.cast

type_is : (column : Column) (op : Operator) (given : Given) (cast : Option OperandType) (found : Option OperandType) → cast ≡ cast_type given.cast → resolve column.kind op given.literal.form cast ≡ found
    → operand_type column.kind op given ≡ found
type_is column op given cast found is e = subst (λ (c : Option OperandType). resolve column.kind op given.literal.form c ≡ found) is e

-- E11
pub no_operator : (column : Column) (op : Operator) (given : Given) (cast : Option OperandType) → is_unknown_type given.cast ≡ false → cast ≡ cast_type given.cast
    → resolve column.kind op given.literal.form cast ≡ None → Find (atom_checks op given column) (Some 11)
no_operator column op given cast known is e =
    inl (known, subst (λ (t : Option OperandType). Find (literal_checks given.literal t) (Some 11)) (sym (type_is column op given cast None is e)) (inr (11, (refl, refl), refl)))

-- E8, E9 or E18
pub literal_refused : (column : Column) (op : Operator) (given : Given) (cast : Option OperandType) (t : OperandType) (r : Refusal) → is_unknown_type given.cast ≡ false → cast ≡ cast_type given.cast
    → resolve column.kind op given.literal.form cast ≡ Some t → Refuses (is_operand t given.literal ∷ []) r → Refuses (atom_checks op given column) r
literal_refused column op given cast t (Fault n) known is e h =
    inl (known, subst (λ (k : Option OperandType). Find (literal_checks given.literal k) (Some n)) (sym (type_is column op given cast (Some t) is e)) h)
literal_refused column op given cast t Memory known is e h = tt

-- what a literal is read as
abbrev right_in : Option code.Operand → Option Right
right_in found = option_map (λ o. right_of o.part) found

abbrev IsReadAs : OperandType → Option code.Operand → Type 0
IsReadAs t found = MatchOption found (Unit {0}) (λ o. (o.kind ≡ t) × IsOperand o)

same_operand : (t : OperandType) (found : Option code.Operand) → IsReadAs t found → option_map operand_of found ≡ option_map (λ (r : Right). record { kind = t; right = r }) (right_in found)
same_operand t None h = refl
same_operand t (Some o) h = ap (λ (k : OperandType). Some (record { kind = k; right = right_of o.part })) h.0

asked : (op : Operator) (kind : ColumnType) (t : OperandType) (found : Option code.Operand) → table.is_operand kind op t ≡ true → IsReadAs t found → IsAsked op (option_map operand_of found) kind
asked op kind t None listed h = tt
asked op kind t (Some o) listed h = (subst (λ (k : OperandType). table.is_operand kind op k ≡ true) (sym h.0) listed, h.1)

pub literal_read : (column : Column) (op : Operator) (given : Given) (cast : Option OperandType) (t : OperandType) (found : Option code.Operand) → is_unknown_type given.cast ≡ false → cast ≡ cast_type given.cast
    → resolve column.kind op given.literal.form cast ≡ Some t → table.is_operand column.kind op t ≡ true → IsReadAs t found → ReadsOperand t given.literal (right_in found)
    → IsOperandFor column op given (option_map operand_of found)
literal_read column op given cast t found known is e listed valid reads =
    let type = type_is column op given cast (Some t) is e in
    record {
      passes = inl (known, rw type (inl ((right_in found, reads), refl)));
      binds = rw type (right_in found, reads, same_operand t found valid);
      asked = asked op column.kind t found listed valid;
    }

-- the fault of a literal that is refused
pub refused : (t : OperandType) (literal : Literal) (e : ValueError) → RefusesOperand t literal e → Refuses (is_operand t literal ∷ []) (refusal_of e)
refused t literal error.NoValue h = inr (8, (error.NoValue, h, refl), refl)
refused t literal error.OutOfRange h = inr (9, (error.OutOfRange, h, refl), refl)
refused t literal error.TooDeep h = inr (18, (error.TooDeep, h, refl), refl)
refused t literal error.Memory h = tt
