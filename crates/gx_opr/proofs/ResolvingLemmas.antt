-- A type that a literal is taken for is listed in the table.
use Rattle.std.proofs.Common.{◌≡◌, Bool, true, false, List, [], ◌∷◌, ◌⊎◌, inl, inr, Option, None, Some, option_and_then, if◌then◌else◌, eq-eqb, refl, ap, subst, ◌||◌}
use Rattle.std.specs.List.{list_any}
use Rattle.std.specs.Option.{option_or}
use Rattle.gx_value.specs.declared.types.ColumnType.{ColumnType}
use Rattle.gx_value.specs.declared.types.OperandType.{OperandType}
use Rattle.gx_value.specs.declared.operators.Operator.{Operator}
use Rattle.gx_value.specs.declared.literal.Form.{Form}
use Rattle.gx_value.specs.declared.literal.Form.TheVariants as form
use Rattle.gx_value.specs.Types.{operand_number, same_operand}
use Rattle.gx_value.specs.Operators.{operands, is_operand}
use Rattle.gx_opr.specs.Resolving.{element_of, where_listed, first_of, uncast, named}

one_some : (t u : OperandType) → Some t ≡ Some u → t ≡ u
one_some t u e = cc

where_it_is : (kind : ColumnType) (op : Operator) (t u : OperandType) (listed : Bool) → is_operand kind op t ≡ listed → (if listed then Some t else None) ≡ Some u → is_operand kind op u ≡ true
where_it_is kind op t u true e h = let P : OperandType → Type 0 = λ x. is_operand kind op x ≡ true in subst P (one_some t u h) e
where_it_is kind op t u false e h = absurd (none_some u h)
  where
    none_some : (u : OperandType) → None ≡ Some u → ⊥
    none_some u e = cc

where_listed_is : (kind : ColumnType) (op : Operator) (t u : OperandType) → where_listed kind op t ≡ Some u → is_operand kind op u ≡ true
where_listed_is kind op t u h = where_it_is kind op t u (is_operand kind op t) refl h

same_as_itself : (t : OperandType) → same_operand t t ≡ true
same_as_itself t = eq-eqb (operand_number t) (operand_number t) refl

first_listed : (ts : List OperandType) (u : OperandType) → first_of ts ≡ Some u → list_any (same_operand u) ts ≡ true
first_listed [] u h = cc
first_listed (t ∷ ts) u h =
    let P : OperandType → Type 0 = λ x. list_any (same_operand x) (t ∷ ts) ≡ true in
    subst P (one_some t u h) (ap (λ b. b || list_any (same_operand t) ts) (same_as_itself t))

either : (o p : Option OperandType) (u : OperandType) → option_or o p ≡ Some u → (o ≡ Some u) ⊎ (p ≡ Some u)
either None p u h = inr h
either (Some t) p u h = inl h

element_listed : (kind : ColumnType) (op : Operator) (element : Option OperandType) (u : OperandType) → option_and_then (where_listed kind op) element ≡ Some u → is_operand kind op u ≡ true
element_listed kind op None u h = cc
element_listed kind op (Some t) u h = where_listed_is kind op t u h

uncast_listed : (kind : ColumnType) (op : Operator) (f : Form) (u : OperandType) → uncast kind op f ≡ Some u → is_operand kind op u ≡ true
uncast_listed kind op form.Number u h =
    elim (either (option_and_then (where_listed kind op) (element_of kind)) (first_of (operands kind op)) u h) [
      | inl e ↦ element_listed kind op (element_of kind) u e
      | inr e ↦ first_listed (operands kind op) u e
    ]
uncast_listed kind op form.Null u h = first_listed (operands kind op) u h
uncast_listed kind op form.Text u h = first_listed (operands kind op) u h
uncast_listed kind op form.List u h = first_listed (operands kind op) u h

pub named_listed : (kind : ColumnType) (op : Operator) (f : Form) (cast : Option OperandType) (u : OperandType) → named kind op f cast ≡ Some u → is_operand kind op u ≡ true
named_listed kind op f None u h = uncast_listed kind op f u h
named_listed kind op f (Some t) u h = where_listed_is kind op t u h
