-- Checks that pass, with what they then give, or find a fault.
use Rattle.std.proofs.Common.{◌≡◌, ◌⊎◌, inl, inr, ℕ, ◌+◌, ◌<◌, nat_lt, suc, Bool, true, false, not, cond, List, [], ◌∷◌, ◌++◌, length, Option, Some, None, option_map, refl, sym, subst, arith}
use Rattle.std.specs.Prelude.{find, option_and_then, IsSomeAnd}
use Rattle.std.specs.List.{position_or_len}
use Rattle.std.proofs.lemmas.Bool.Decides.{nat_tests}
use Rattle.gx_value.specs.declared.fields.Column.{Column}
use Rattle.gx_value.specs.declared.literal.Form.{Form}
use Rattle.gx_value.specs.declared.literal.Literal.{Literal}
use Rattle.gx_value.specs.declared.operators.Operator.{Operator}
use Rattle.gx_value.specs.declared.types.ColumnType.{ColumnType}
use Rattle.gx_value.specs.declared.types.OperandType.{OperandType}
use Rattle.gx_value.specs.Literals.{IsLiteral}
use Rattle.gx_opr.specs.Resolving.{fits, named, resolve, where_it_fits}
use Rattle.gx_parse.specs.declared.statement.Given.{Given}
use Rattle.gx_parse.specs.Sound.{TreeHasLiterals, WhereHasLiterals}
use Rattle.gx_parse.specs.Trees as trees
use Rattle.gx_parse.specs.Trees.{Tree}
use Rattle.gx_model.specs.Checks.{Check, Find, Passes, Fails, fault_where, is_operand}
use Rattle.gx_model.specs.Conditions.{cast_type, is_unknown_type, operand_type, literal_checks, found_checks, column_checks, atom_checks, condition_checks, where_checks, BindsLiteral, Binds, BindsWhere}
use Rattle.gx_model.specs.Database.{Database, Table, column_named, place_of, is_column, table_named}
use Rattle.gx_model.specs.Faults as faults
use Rattle.gx_model.specs.Totality.{AreTotal}
use Rattle.gx_model.specs.Truth.{Bound, Operand, And, Or, Not, Atom, IsNull}
use Rattle.gx_model.proofs.Finding.{find_behind, find_front}

abbrev pub Comes : Type 0 → List Check → Type 0
Comes R checks = (R × Find checks None) ⊎ ((n : ℕ) × Find checks (Some n))

pub more : {R S : Type 0} (checks : List Check) → (R → S) → Comes R checks → Comes S checks
more checks f (inl h) = inl (f h.0, h.1)
more checks f (inr h) = inr h

join_step : {R S : Type 0} (front rest : List Check) → R → Find front None → Comes S rest → Comes (R × S) (front ++ rest)
join_step front rest r p (inl h) = inl ((r, h.0), find_behind front rest None p h.1)
join_step front rest r p (inr h) = inr (h.0, find_behind front rest (Some h.0) p h.1)

-- one list of checks behind another
pub join : {R S : Type 0} (front rest : List Check) → Comes R front → (R → Comes S rest) → Comes (R × S) (front ++ rest)
join front rest (inl h) next = join_step front rest h.0 h.1 (next h.0)
join front rest (inr h) next = inr (h.0, find_front front rest h.0 h.1)

pub nothing : {R : Type 0} → R → Comes R []
nothing r = inl (r, refl)

pub tested : (n : ℕ) (so : Bool) → Comes (so ≡ false) (fault_where n so ∷ [])
tested n true = inr (n, inr (n, (refl, refl), refl))
tested n false = inl (refl, inl (refl, refl))

pub one_check : {R : Type 0} (c : Check) → (R × Passes c) ⊎ ((n : ℕ) × Fails c n) → Comes R (c ∷ [])
one_check c (inl h) = inl (h.0, inl (h.1, refl))
one_check c (inr h) = inr (h.0, inr (h.0, h.1, refl))

-- Columns and tables by their names.

column_step : {R : Type 0} (o : Option Column) (checks : Column → List Check) → ((c : Column) → o ≡ Some c → Comes R (checks c)) → Comes R (found_checks o checks)
column_step None checks next = inr (4, inr (4, (refl, refl), refl))
column_step (Some c) checks next = next c refl

pub column : {R : Type 0} (columns : List Column) (name : List ℕ) (checks : Column → List Check) → ((c : Column) → column_named columns name ≡ Some c → Comes R (checks c)) → Comes R (column_checks columns name checks)
column columns name checks next = column_step (column_named columns name) checks next

table_step : {R : Type 0} (o : Option Table) (checks : Table → List Check) → ((t : Table) → o ≡ Some t → Comes R (checks t)) → Comes R (faults.found_checks o checks)
table_step None checks next = inr (2, inr (2, (refl, refl), refl))
table_step (Some t) checks next = next t refl

pub table : {R : Type 0} (db : Database) (name : List ℕ) (checks : Table → List Check) → ((t : Table) → table_named db name ≡ Some t → Comes R (checks t)) → Comes R (faults.table_checks db name checks)
table db name checks next = table_step (table_named db name) checks next

-- a column that is found has a place
counts_step : (b : Bool) (c : Column) (o : Option Column) (n k : ℕ) (d : Column) → (o ≡ Some d → n < k) → cond b (Some c) o ≡ Some d → cond (not b) (1 + n) 0 < suc k
counts_step true c o n k d rest some = omega arith
counts_step false c o n k d rest some = let h = rest some in omega (arith, h)

counts : (p : Column → Bool) (cs : List Column) (d : Column) → find p cs ≡ Some d → position_or_len p cs < length cs
counts p [] d some = cc
counts p (c ∷ cs) d some = counts_step (p c) c (find p cs) (position_or_len p cs) (length cs) d (counts p cs d) some

place_step : (b : Bool) (n k : ℕ) → nat_lt n k ≡ b → n < k → cond b (Some n) None ≡ Some n
place_step true n k is less = refl
place_step false n k is less = absurd (grind (arith, nat_tests))

pub place_there : (columns : List Column) (name : List ℕ) (c : Column) → column_named columns name ≡ Some c → (place : ℕ) × (place_of columns name ≡ Some place)
place_there columns name c some =
    let n = position_or_len (is_column name) columns in
    (n, place_step (nat_lt n (length columns)) n (length columns) refl (counts (is_column name) columns c some))

-- Literals of conditions.

fits_step : (f : Form) (u t : OperandType) (b : Bool) → fits f u ≡ b → cond b (Some u) None ≡ Some t → fits f t ≡ true
fits_step f u t true is some = let same : u ≡ t = cc in subst (λ (k : OperandType). fits f k ≡ true) same is
fits_step f u t false is some = cc

fits_of : (f : Form) (o : Option OperandType) (t : OperandType) → option_and_then (where_it_fits f) o ≡ Some t → fits f t ≡ true
fits_of f None t some = cc
fits_of f (Some u) t some = fits_step f u t (fits f u) refl some

pub resolved_fits : (kind : ColumnType) (op : Operator) (f : Form) (cast : Option OperandType) (t : OperandType) → resolve kind op f cast ≡ Some t → fits f t ≡ true
resolved_fits kind op f cast t some = fits_of f (named kind op f cast) t some

abbrev BoundLiteral : Option OperandType → Literal → Type 0
BoundLiteral t literal = (operand : Option Operand) × BindsLiteral t literal operand

operand_step : (t : OperandType) (literal : Literal) → Passes (is_operand t literal) ⊎ ((n : ℕ) × Fails (is_operand t literal) n) → Comes (BoundLiteral (Some t) literal) (is_operand t literal ∷ [])
operand_step t literal (inl h) = inl ((option_map (λ r. record { kind = t; right = r }) h.0, (h.0, h.1, refl)), inl (h, refl))
operand_step t literal (inr h) = inr (h.0, inr (h.0, h.1, refl))

literal_comes : AreTotal → (literal : Literal) (t : Option OperandType) → IsLiteral literal → ((k : OperandType) → t ≡ Some k → fits literal.form k ≡ true) → Comes (BoundLiteral t literal) (literal_checks literal t)
literal_comes total literal None is fit = inr (11, inr (11, (refl, refl), refl))
literal_comes total literal (Some t) is fit = operand_step t literal (total.operands t literal is (fit t refl))

-- Conditions.

abbrev BoundTree : List Column → Tree → Type 0
BoundTree columns tree = (bound : Bound) × Binds columns tree bound

atom_bound : (columns : List Column) (name : List ℕ) (op : Operator) (given : Given) (c : Column) → column_named columns name ≡ Some c → BoundLiteral (operand_type c.kind op given) given.literal
    → BoundTree columns (trees.Atom name op given)
atom_bound columns name op given c some operand =
    let place = place_there columns name c some in (
      Atom place.0 op operand.0,
      record {
        place_is = place.1;
        op_is = refl;
        literal = subst (λ (o : Option Column). IsSomeAnd o (λ d. BindsLiteral (operand_type d.kind op given) given.literal operand.0)) (sym some) operand.1;
      },
    )

null_bound : (columns : List Column) (name : List ℕ) (negated : Bool) (c : Column) → column_named columns name ≡ Some c → BoundTree columns (trees.IsNull name negated)
null_bound columns name negated c some = let place = place_there columns name c some in (IsNull place.0 negated, (place.1, refl))

condition : AreTotal → (columns : List Column) (tree : Tree) → TreeHasLiterals tree → Comes (BoundTree columns tree) (condition_checks columns tree)
condition total columns (trees.And a b) are =
    more (condition_checks columns a ++ condition_checks columns b) (λ (h : BoundTree columns a × BoundTree columns b). (And h.0.0 h.1.0, (h.0.1, h.1.1)))
    (join (condition_checks columns a) (condition_checks columns b) (condition total columns a are.0) (λ _. condition total columns b are.1))
condition total columns (trees.Or a b) are =
    more (condition_checks columns a ++ condition_checks columns b) (λ (h : BoundTree columns a × BoundTree columns b). (Or h.0.0 h.1.0, (h.0.1, h.1.1)))
    (join (condition_checks columns a) (condition_checks columns b) (condition total columns a are.0) (λ _. condition total columns b are.1))
condition total columns (trees.Not a) are = more (condition_checks columns a) (λ (h : BoundTree columns a). (Not h.0, h.1)) (condition total columns a are)
condition total columns (trees.Atom name op given) are =
    column columns name (atom_checks op given) (λ c some.
    let t = operand_type c.kind op given in
    more (atom_checks op given c) (λ (h : (is_unknown_type given.cast ≡ false) × BoundLiteral t given.literal). atom_bound columns name op given c some h.1)
    (join (fault_where 6 (is_unknown_type given.cast) ∷ []) (literal_checks given.literal t) (tested 6 (is_unknown_type given.cast))
    (λ _. literal_comes total given.literal t are (resolved_fits c.kind op given.literal.form (cast_type given.cast)))))
condition total columns (trees.IsNull name negated) are = column columns name (λ c. []) (λ c some. nothing (null_bound columns name negated c some))

abbrev pub BoundWhere : List Column → Option Tree → Type 0
BoundWhere columns tree = (bound : Option Bound) × BindsWhere columns tree bound

pub where_comes : AreTotal → (columns : List Column) (tree : Option Tree) → WhereHasLiterals tree → Comes (BoundWhere columns tree) (where_checks columns tree)
where_comes total columns None are = nothing (None, tt)
where_comes total columns (Some tree) are = more (condition_checks columns tree) (λ (h : BoundTree columns tree). (Some h.0, h.1)) (condition total columns tree are)
