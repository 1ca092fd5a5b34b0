-- Conditions bound part by part.
use Rattle.std.proofs.Common.{◌≡◌, inr, ℕ, Bool, List, ◌++◌, Option, Some, None, Result, Ok, Err, MatchResult, refl, sym, subst}
use Rattle.std.specs.Result.{IsErrAnd}
use Rattle.gx_value.specs.declared.fields.Column.{Column}
use Rattle.gx_value.specs.declared.operators.Operator.{Operator}
use Rattle.gx_parse.specs.declared.statement.Given.{Given}
use Rattle.gx_parse.specs.Trees as trees
use Rattle.gx_parse.specs.Trees.{Tree}
use Rattle.gx_model.specs.Checks.{Check, Find}
use Rattle.gx_model.specs.Conditions.{condition_checks, column_checks, found_checks}
use Rattle.gx_model.specs.Database.{column_named}
use Rattle.gx_model.specs.Refusals.{Refuses}
use Rattle.gx_model.specs.Truth as model
use Rattle.gx_model.specs.declared.refusal.Refusal.{Refusal}
use Rattle.gx_model.specs.declared.refusal.Refusal.TheVariants.{Memory}
use Rattle.gx_model.proofs.Finding.{find_behind, refuse_behind, refuse_front}
use Rattle.gx_plan.specs.Bindings.{IsBinding, IsFound, IsOperandFor}
use Rattle.gx_plan.specs.Bounds.{bound_of}
use Rattle.gx_plan.specs.declared.bound.Bound.{Bound}

pub for_memory : (checks : List Check) (r : Refusal) → r ≡ Memory → Refuses checks r
for_memory checks r e = subst (Refuses checks) (sym e) tt

pub both : (columns : List Column) (a b : Tree) (x y : model.Bound) → IsBinding columns a x → IsBinding columns b y → IsBinding columns (trees.And a b) (model.And x y)
both columns a b x y p q = record {
  passes = find_behind (condition_checks columns a) (condition_checks columns b) None p.passes q.passes;
  binds = (p.binds, q.binds);
  asked = (p.asked, q.asked);
}

pub either : (columns : List Column) (a b : Tree) (x y : model.Bound) → IsBinding columns a x → IsBinding columns b y → IsBinding columns (trees.Or a b) (model.Or x y)
either columns a b x y p q = record {
  passes = find_behind (condition_checks columns a) (condition_checks columns b) None p.passes q.passes;
  binds = (p.binds, q.binds);
  asked = (p.asked, q.asked);
}

pub turned : (columns : List Column) (a : Tree) (x : model.Bound) → IsBinding columns a x → IsBinding columns (trees.Not a) (model.Not x)
turned columns a x p = record { passes = p.passes; binds = p.binds; asked = p.asked }

-- the checks of both sides
abbrev pub checks_of_two : List Column → Tree → Tree → List Check
checks_of_two columns a b = condition_checks columns a ++ condition_checks columns b

-- what an exit hands on
exit : {T : Type 0} (r : Result T Refusal) (e : Refusal) (P : T → Type 0) (checks : List Check) → IsErrAnd r (λ y. y ≡ e) → Refuses checks e → MatchResult r P (Refuses checks)
exit (Ok x) e P checks is h = absurd is
exit (Err y) e P checks is h = subst (Refuses checks) (sym is) h

-- the first side of two is refused
pub left_exit : {T : Type 0} (columns : List Column) (checks : List Check) (a b : Tree) (r : Result T Refusal) (e : Refusal) (P : T → Type 0) → checks ≡ checks_of_two columns a b
    → IsErrAnd r (λ y. y ≡ e) → Refuses (condition_checks columns a) e → MatchResult r P (Refuses checks)
left_exit columns checks a b r e P two is h =
    exit r e P checks is (subst (λ (cs : List Check). Refuses cs e) (sym two) (refuse_front (condition_checks columns a) (condition_checks columns b) e h))

-- the second side is refused
pub right_exit : {T : Type 0} (columns : List Column) (checks : List Check) (a b : Tree) (x : model.Bound) (r : Result T Refusal) (e : Refusal) (P : T → Type 0) → checks ≡ checks_of_two columns a b
    → IsErrAnd r (λ y. y ≡ e) → IsBinding columns a x → Refuses (condition_checks columns b) e → MatchResult r P (Refuses checks)
right_exit columns checks a b x r e P two is p h =
    exit r e P checks is (subst (λ (cs : List Check). Refuses cs e) (sym two) (refuse_behind (condition_checks columns a) (condition_checks columns b) e p.passes h))

-- a bound condition is put into its box
pub in_box : {T : Type 0} (value : T → Bound) (bound : Bound) (columns : List Column) (tree : Tree) (r : Result T Refusal) → MatchResult r (λ made. value made ≡ bound) (λ refusal. refusal ≡ Memory)
    → IsBinding columns tree (bound_of bound) → MatchResult r (λ made. IsBinding columns tree (bound_of (value made))) (Refuses (condition_checks columns tree))
in_box value bound columns tree (Ok made) is p = subst (λ (b : Bound). IsBinding columns tree (bound_of b)) (sym is) p
in_box value bound columns tree (Err r) is p = for_memory (condition_checks columns tree) r is

-- Columns.

pub no_column : (columns : List Column) (name : List ℕ) (more : Column → List Check) → column_named columns name ≡ None → Find (column_checks columns name more) (Some 4)
no_column columns name more e = rw e (inr (4, (refl, refl), refl))

pub refused_with : (columns : List Column) (name : List ℕ) (place : ℕ) (column : Column) (more : Column → List Check) (r : Refusal) → IsFound columns name place column → Refuses (more column) r → Refuses (column_checks columns name more) r
refused_with columns name place column more r f h =
    subst (λ (o : Option Column). Refuses (found_checks o more) r) (sym f.column_is) h

pub atom : (columns : List Column) (name : List ℕ) (op : Operator) (given : Given) (place : ℕ) (column : Column) (operand : Option model.Operand)
    → IsFound columns name place column → IsOperandFor column op given operand → IsBinding columns (trees.Atom name op given) (model.Atom place op operand)
atom columns name op given place column operand f h = record {
  passes = rw f.column_is h.passes;
  binds = record { place_is = f.place_is; op_is = refl; literal = rw f.column_is h.binds };
  asked = rw f.kind_is h.asked;
}

pub null : (columns : List Column) (name : List ℕ) (negated : Bool) (place : ℕ) (column : Column) → IsFound columns name place column → IsBinding columns (trees.IsNull name negated) (model.IsNull place negated)
null columns name negated place column f = record {
  passes = rw f.column_is refl;
  binds = (f.place_is, refl);
  asked = rw f.kind_is tt;
}
