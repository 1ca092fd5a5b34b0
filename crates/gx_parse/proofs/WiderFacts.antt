-- What wider limits change: only what was too deep.
use Rattle.std.proofs.Common.{◌≡◌, ℕ, ◌<◌, ◌≤◌, Bool, true, false, cond, nat_lt, List, [], ◌∷◌, length, codes, Option, Some, None, refl, ap, arith}
use Rattle.std.proofs.lemmas.Bool.Decides.{nat_tests}
use Rattle.gx_lexer.specs.declared.token.Token.{Token}
use Rattle.gx_value.specs.declared.operators.Operator.{Operator}
use Rattle.gx_parse.specs.declared.statement.Given.{Given}
use Rattle.gx_parse.specs.declared.given.GivenReader.{GivenReader}
use Rattle.gx_parse.specs.declared.condition.Part.{Part}
use Rattle.gx_parse.specs.declared.condition.Part.TheVariants.{Operand, Column, Sign, Literal, Is, IsNot, Joint}
use Rattle.gx_parse.specs.declared.outcome.Outcome.{Outcome}
use Rattle.gx_parse.specs.declared.outcome.Outcome.TheVariants.{Goes, Wrong, Deep}
use Rattle.gx_parse.specs.declared.query.QueryReader.TheVariants as query
use Rattle.gx_parse.specs.declared.query.Task as tasks
use Rattle.gx_parse.specs.declared.reader.Head.TheVariants as head
use Rattle.gx_parse.specs.Conditions.{Standing, on, closed_on, and_operand, open_after, named_after, signed_after, given_on, and_after, or_after, close_after, joint_after, literal_on, behind_literal, part_after, condition_after}
use Rattle.gx_parse.specs.Grammar.{Says, IsWhere, SaysSelect}
use Rattle.gx_parse.specs.Literals.{given_after, given_of, given_from}
use Rattle.gx_parse.specs.Nests.{Group, Frame, Nest, with_operand, opened, settled, closed, and_behind, or_behind}
use Rattle.gx_parse.specs.Outcomes.{Limits, outcome_map}
use Rattle.gx_parse.specs.Said.{Said, Query, Nothing, CreateTable, DropTable, CreateIndex, DropIndex, Insert, Delete, Select, Explain, Vacuum, Checkpoint, Begin, Commit, Rollback}
use Rattle.gx_parse.specs.States.{State, before, within, state_after, where_after, in_head}
use Rattle.gx_parse.specs.Trees as trees
use Rattle.gx_parse.specs.Words.{is_word, is_open, is_close, name_in, operator_in}

pub record Narrower (lim m : Limits) : Type 0 where
  pub open_least : lim.open_most ≤ m.open_most
  pub joins_least : lim.joins_most ≤ m.joins_most

-- what goes on or is wrong stays so
abbrev pub Widens : {A : Type 0} → Outcome A → Outcome A → Type 0
Widens (Goes x) o = o ≡ Goes x
Widens Wrong o = o ≡ Wrong
Widens Deep o = o ≡ Wrong → ⊥

pub as_it_is : {A : Type 0} (o : Outcome A) → Widens o o
as_it_is (Goes x) = refl
as_it_is Wrong = refl
as_it_is Deep = λ e. (cc)

test_widens : {A : Type 0} (b c : Bool) (x : A) → (b ≡ true → c ≡ true) → Widens (cond b (Goes x) Deep) (cond c (Goes x) Deep)
test_widens true true x f = refl
test_widens true false x f = let e : false ≡ true = f refl in cc
test_widens false true x f = λ e. (cc)
test_widens false false x f = λ e. (cc)

lt_widens : (a b c : ℕ) → b ≤ c → nat_lt a b ≡ true → nat_lt a c ≡ true
lt_widens a b c l e = grind (arith, nat_tests)

open_widens : (lim m : Limits) → Narrower lim m → (n : Nest) (negated : Bool) → Widens (open_after lim n negated) (open_after m n negated)
open_widens lim m w n negated =
    test_widens (nat_lt (length n.frames) lim.open_most) (nat_lt (length n.frames) m.open_most) (record { nest = opened n negated; part = Operand }) (lt_widens (length n.frames) lim.open_most m.open_most w.open_least)

and_widens : (lim m : Limits) → Narrower lim m → (n : Nest) → Widens (and_after lim n) (and_after m n)
and_widens lim m w n = test_widens (nat_lt n.joins lim.joins_most) (nat_lt n.joins m.joins_most) (record { nest = and_behind n; part = Operand }) (lt_widens n.joins lim.joins_most m.joins_most w.joins_least)

or_widens : (lim m : Limits) → Narrower lim m → (n : Nest) → Widens (or_after lim n) (or_after m n)
or_widens lim m w n = test_widens (nat_lt n.joins lim.joins_most) (nat_lt n.joins m.joins_most) (record { nest = or_behind n; part = Operand }) (lt_widens n.joins lim.joins_most m.joins_most w.joins_least)

operand_widens : (lim m : Limits) → Narrower lim m → (n : Nest) (t : Token) (a b : Bool)
    → Widens (cond a (open_after lim n true) (cond b (open_after lim n false) (named_after n (name_in t)))) (cond a (open_after m n true) (cond b (open_after m n false) (named_after n (name_in t))))
operand_widens lim m w n t true b = open_widens lim m w n true
operand_widens lim m w n t false true = open_widens lim m w n false
operand_widens lim m w n t false false = as_it_is (named_after n (name_in t))

joint_test : (lim m : Limits) → Narrower lim m → (n : Nest) (a b c : Bool)
    → Widens (cond a (and_after lim n) (cond b (or_after lim n) (cond c (close_after n) Wrong))) (cond a (and_after m n) (cond b (or_after m n) (cond c (close_after n) Wrong)))
joint_test lim m w n true b c = and_widens lim m w n
joint_test lim m w n false true c = or_widens lim m w n
joint_test lim m w n false false true = as_it_is (close_after n)
joint_test lim m w n false false false = refl

joint_widens : (lim m : Limits) → Narrower lim m → (n : Nest) (t : Token) → Widens (joint_after lim n t) (joint_after m n t)
joint_widens lim m w n t = joint_test lim m w n (is_word (codes "and") t) (is_word (codes "or") t) (is_close t)

ended_widens : (lim m : Limits) → Narrower lim m → (n : Nest) (c : List ℕ) (op : Operator) (t : Token) (o : Option Given) → Widens (behind_literal lim n c op t o) (behind_literal m n c op t o)
ended_widens lim m w n c op t None = refl
ended_widens lim m w n c op t (Some v) = joint_widens lim m w (and_operand n (trees.Atom c op v)) t

literal_widens : (lim m : Limits) → Narrower lim m → (n : Nest) (c : List ℕ) (op : Operator) (g : GivenReader) (t : Token) (o : Option GivenReader) → Widens (literal_on lim n c op g t o) (literal_on m n c op g t o)
literal_widens lim m w n c op g t (Some h) = refl
literal_widens lim m w n c op g t None = ended_widens lim m w n c op t (given_of g)

part_widens : (lim m : Limits) → Narrower lim m → (n : Nest) (t : Token) (p : Part) → Widens (part_after lim n t p) (part_after m n t p)
part_widens lim m w n t Operand = operand_widens lim m w n t (is_word (codes "not") t) (is_open t)
part_widens lim m w n t (Column c) = as_it_is (part_after lim n t (Column c))
part_widens lim m w n t (Sign c op) = as_it_is (part_after lim n t (Sign c op))
part_widens lim m w n t (Literal c op g) = literal_widens lim m w n c op g t (given_after g t)
part_widens lim m w n t (Is c) = as_it_is (part_after lim n t (Is c))
part_widens lim m w n t (IsNot c) = as_it_is (part_after lim n t (IsNot c))
part_widens lim m w n t Joint = joint_widens lim m w n t

within_widens : (d : tasks.Task) (n : List ℕ) (o u : Outcome Standing) → Widens o u → Widens (outcome_map (λ x. within d n x) o) (outcome_map (λ x. within d n x) u)
within_widens d n (Goes x) u e = ap (λ (y : Outcome Standing). outcome_map (λ z. within d n z) y) e
within_widens d n Wrong u e = ap (λ (y : Outcome Standing). outcome_map (λ z. within d n z) y) e
within_widens d n Deep (Goes x) e = λ f. (cc)
within_widens d n Deep Wrong e = λ f. e refl
within_widens d n Deep Deep e = λ f. (cc)

pub state_widens : (lim m : Limits) → Narrower lim m → (s : State) (t : Token) → Widens (state_after lim s t) (state_after m s t)
state_widens lim m w (before (head.Query (query.Named d n))) t = as_it_is (where_after d n t)
state_widens lim m w (before (head.Query query.Explain)) t = as_it_is (in_head (head.Query query.Explain) t)
state_widens lim m w (before (head.Query query.Analyze)) t = as_it_is (in_head (head.Query query.Analyze) t)
state_widens lim m w (before (head.Query (query.Select x))) t = as_it_is (in_head (head.Query (query.Select x)) t)
state_widens lim m w (before (head.Query (query.Next x ns))) t = as_it_is (in_head (head.Query (query.Next x ns)) t)
state_widens lim m w (before (head.Query (query.Listed x ns))) t = as_it_is (in_head (head.Query (query.Listed x ns)) t)
state_widens lim m w (before (head.Query (query.Task d))) t = as_it_is (in_head (head.Query (query.Task d)) t)
state_widens lim m w (before (head.Query (query.From d))) t = as_it_is (in_head (head.Query (query.From d)) t)
state_widens lim m w (before head.Start) t = as_it_is (in_head head.Start t)
state_widens lim m w (before head.Create) t = as_it_is (in_head head.Create t)
state_widens lim m w (before head.Drop) t = as_it_is (in_head head.Drop t)
state_widens lim m w (before (head.Word x)) t = as_it_is (in_head (head.Word x) t)
state_widens lim m w (before (head.Verb x)) t = as_it_is (in_head (head.Verb x) t)
state_widens lim m w (before (head.Named x n)) t = as_it_is (in_head (head.Named x n) t)
state_widens lim m w (before (head.Table x)) t = as_it_is (in_head (head.Table x) t)
state_widens lim m w (before (head.Index x)) t = as_it_is (in_head (head.Index x) t)
state_widens lim m w (before (head.Insert x)) t = as_it_is (in_head (head.Insert x) t)
state_widens lim m w (within d n s) t = within_widens d n (condition_after lim s t) (condition_after m s t) (part_widens lim m w s.nest t s.part)

-- Limits that are wide enough for one token more.

pub record Wide (m : Limits) (n : Nest) : Type 0 where
  pub open_wide : length n.frames < m.open_most
  pub joins_wide : n.joins < m.joins_most

lt_is : (a b : ℕ) → a < b → nat_lt a b ≡ true
lt_is a b l = grind (arith, nat_tests)

test_goes : {A : Type 0} (b : Bool) (x : A) → b ≡ true → cond b (Goes x) Deep ≡ Deep → ⊥
test_goes true x f e = cc
test_goes false x f e = cc

open_goes : (m : Limits) (n : Nest) (negated : Bool) → Wide m n → open_after m n negated ≡ Deep → ⊥
open_goes m n negated w e = test_goes (nat_lt (length n.frames) m.open_most) (record { nest = opened n negated; part = Operand }) (lt_is (length n.frames) m.open_most w.open_wide) e

named_goes : (n : Nest) (o : Option (List ℕ)) → named_after n o ≡ Deep → ⊥
named_goes n None e = cc
named_goes n (Some c) e = cc

signed_goes : (n : Nest) (c : List ℕ) (o : Option Operator) → signed_after n c o ≡ Deep → ⊥
signed_goes n c None e = cc
signed_goes n c (Some op) e = cc

given_goes : (n : Nest) (c : List ℕ) (op : Operator) (o : Option GivenReader) → given_on n c op o ≡ Deep → ⊥
given_goes n c op None e = cc
given_goes n c op (Some g) e = cc

closed_goes : (o : Option Nest) → closed_on o ≡ Deep → ⊥
closed_goes None e = cc
closed_goes (Some n) e = cc

operand_goes : (m : Limits) (n : Nest) (t : Token) (a b : Bool) → Wide m n → cond a (open_after m n true) (cond b (open_after m n false) (named_after n (name_in t))) ≡ Deep → ⊥
operand_goes m n t true b w e = open_goes m n true w e
operand_goes m n t false true w e = open_goes m n false w e
operand_goes m n t false false w e = named_goes n (name_in t) e

joint_tests : (m : Limits) (n : Nest) (a b c : Bool) → n.joins < m.joins_most → cond a (and_after m n) (cond b (or_after m n) (cond c (close_after n) Wrong)) ≡ Deep → ⊥
joint_tests m n true b c w e = test_goes (nat_lt n.joins m.joins_most) (record { nest = and_behind n; part = Operand }) (lt_is n.joins m.joins_most w) e
joint_tests m n false true c w e = test_goes (nat_lt n.joins m.joins_most) (record { nest = or_behind n; part = Operand }) (lt_is n.joins m.joins_most w) e
joint_tests m n false false true w e = closed_goes (closed n) e
joint_tests m n false false false w e = cc

joint_goes : (m : Limits) (n : Nest) (t : Token) → n.joins < m.joins_most → joint_after m n t ≡ Deep → ⊥
joint_goes m n t w e = joint_tests m n (is_word (codes "and") t) (is_word (codes "or") t) (is_close t) w e

settled_at : (b : Bool) (x y : Nest) (j : ℕ) → x.joins ≡ j → y.joins ≡ j → (cond b x y).joins ≡ j
settled_at true x y j e f = e
settled_at false x y j e f = f

settled_joins : (fs : List Frame) (g : Group) (j : ℕ) (t : trees.Tree) → (settled fs g j t).joins ≡ j
settled_joins [] g j t = refl
settled_joins (f ∷ fs) g j t =
    settled_at f.negated (settled fs f.group j (trees.Not t)) (record { frames = f ∷ fs; group = with_operand g t; joins = j }) j (settled_joins fs f.group j (trees.Not t)) refl

ended_goes : (m : Limits) (n : Nest) (c : List ℕ) (op : Operator) (t : Token) (o : Option Given) → n.joins < m.joins_most → behind_literal m n c op t o ≡ Deep → ⊥
ended_goes m n c op t None w e = cc
ended_goes m n c op t (Some v) w e =
    let k = settled_joins n.frames n.group n.joins (trees.Atom c op v) in
    joint_goes m (and_operand n (trees.Atom c op v)) t (omega arith) e

literal_goes : (m : Limits) (n : Nest) (c : List ℕ) (op : Operator) (g : GivenReader) (t : Token) (o : Option GivenReader) → n.joins < m.joins_most → literal_on m n c op g t o ≡ Deep → ⊥
literal_goes m n c op g t (Some h) w e = cc
literal_goes m n c op g t None w e = ended_goes m n c op t (given_of g) w e

null_goes : (n : Nest) (c : List ℕ) (negated b : Bool) → cond b (on (and_operand n (trees.IsNull c negated)) Joint) Wrong ≡ Deep → ⊥
null_goes n c negated true e = cc
null_goes n c negated false e = cc

column_goes : (n : Nest) (c : List ℕ) (b : Bool) (o : Option Operator) → cond b (on n (Is c)) (signed_after n c o) ≡ Deep → ⊥
column_goes n c true o e = cc
column_goes n c false o e = signed_goes n c o e

is_goes : (n : Nest) (c : List ℕ) (b d : Bool) → cond b (on n (IsNot c)) (cond d (on (and_operand n (trees.IsNull c false)) Joint) Wrong) ≡ Deep → ⊥
is_goes n c true d e = cc
is_goes n c false d e = null_goes n c false d e

pub part_goes : (m : Limits) (n : Nest) (t : Token) (p : Part) → Wide m n → part_after m n t p ≡ Deep → ⊥
part_goes m n t Operand w e = operand_goes m n t (is_word (codes "not") t) (is_open t) w e
part_goes m n t (Column c) w e = column_goes n c (is_word (codes "is") t) (operator_in t) e
part_goes m n t (Sign c op) w e = given_goes n c op (given_from t) e
part_goes m n t (Literal c op g) w e = literal_goes m n c op g t (given_after g t) w.joins_wide e
part_goes m n t (Is c) w e = is_goes n c (is_word (codes "not") t) (is_word (codes "null") t) e
part_goes m n t (IsNot c) w e = null_goes n c true (is_word (codes "null") t) e
part_goes m n t Joint w e = joint_goes m n t w.joins_wide e

-- What is said within limits is said within wider ones.

where_widens : (lim m : Limits) → Narrower lim m → (c : Option trees.Tree) (ts : List Token) → IsWhere lim c ts → IsWhere m c ts
where_widens lim m w None ts e = e
where_widens lim m w (Some t) ts e = let o = e.3 in let j = e.4 in let x = w.open_least in let y = w.joins_least in (e.0, e.1, e.2, omega arith, omega arith)

select_widens : (lim m : Limits) → Narrower lim m → (ts : List Token) (q : Query) → SaysSelect lim ts q → SaysSelect m ts q
select_widens lim m w ts q s = (s.0, s.1, s.2, where_widens lim m w q.condition s.0 s.3, s.4)

pub says_widens : (lim m : Limits) → Narrower lim m → (ts : List Token) (x : Said) → Says lim ts x → Says m ts x
says_widens lim m w ts Nothing s = s
says_widens lim m w ts (CreateTable n cs) s = s
says_widens lim m w ts (DropTable n) s = s
says_widens lim m w ts (CreateIndex n t x c class p) s = s
says_widens lim m w ts (DropIndex n) s = s
says_widens lim m w ts (Insert n columns rows) s = s
says_widens lim m w ts (Delete n c) s = (s.0, s.1, where_widens lim m w c s.0 s.2, s.3)
says_widens lim m w ts (Select q) s = select_widens lim m w ts q s
says_widens lim m w ts (Explain q) s = (s.0, select_widens lim m w s.0 q s.1, s.2)
says_widens lim m w ts (Vacuum n) s = s
says_widens lim m w ts Checkpoint s = s
says_widens lim m w ts Begin s = s
says_widens lim m w ts Commit s = s
says_widens lim m w ts Rollback s = s
