-- A session and a piece have one turn.
use Rattle.std.proofs.Common.{◌≡◌, inl, inr, ℕ, ◌<◌, ◌≤◌, Bool, true, false, List, [], ◌∷◌, ◌++◌, length, map, Option, Some, None, refl, sym, ◌∙◌, ap, subst, codes, arith}
use Rattle.std.specs.Prelude.{IsSomeAnd}
use Rattle.std.specs.Fmt.{decimal}
use Rattle.gx_value.specs.declared.fields.Column.{Column}
use Rattle.gx_value.specs.declared.literal.Literal.{Literal}
use Rattle.gx_value.specs.declared.operators.Operator.{Operator}
use Rattle.gx_value.specs.declared.types.OperandType.{OperandType}
use Rattle.gx_value.specs.declared.classes.Class.{Class}
use Rattle.gx_value.specs.Rows.{IsRowBytes, row_limit}
use Rattle.gx_value.specs.Values.{Datum}
use Rattle.gx_parse.specs.Answers.{Answer, says, wrong_at, too_deep}
use Rattle.gx_parse.specs.declared.statement.Given.{Given}
use Rattle.gx_parse.specs.declared.statement.Parameter.{Parameter}
use Rattle.gx_parse.specs.Said.{Said, Nothing, CreateTable, DropTable, CreateIndex, DropIndex, Insert, Delete, Select, Explain, Vacuum, Checkpoint, Begin, Commit, Rollback}
use Rattle.gx_parse.specs.Trees as trees
use Rattle.gx_model.specs.Checks.{Check, fault_where, is_value, is_operand, fits, Passes, Fails, Find}
use Rattle.gx_model.specs.Conditions.{Binds, BindsWhere, BindsAtom, BindsLiteral, operand_type}
use Rattle.gx_model.specs.Classes.{class_chosen, parameter_chosen}
use Rattle.gx_model.specs.Database.{Database, Table, Index, column_named, indexes_on, place_of, table_named, with_rows, with_table}
use Rattle.gx_model.specs.Faults.{checks}
use Rattle.gx_model.specs.Growth.{growth_of_rows, growth_of_index}
use Rattle.gx_model.specs.Plans.{found, plan_where, plan_text}
use Rattle.gx_model.specs.Replies.{accepted}
use Rattle.gx_model.specs.Steps.{Stepped, Steps, Does, Inserts, Deletes, Selects, Explains, IsNewIndex, done, others, selected, selection, explanation, grown, unchanged, Indexes}
use Rattle.gx_model.specs.Truth.{Bound, And, Or, Not, Atom, IsNull, Operand}
use Rattle.gx_model.specs.Turns.{Session, Block, idle, begun, failed, Turned, Turns, TurnsSeen, TurnsIdle, TurnsBegun, TurnsFailed, TurnsIn, TurnsSaid, TurnsBy, reading_of, seen, refused, with_seen}
use Rattle.gx_model.specs.Replies.{refusal}
use Rattle.gx_model.specs.Values.{ReadsValues, ReadsRow, ReadsRows, fields_of, named}
use Rattle.gx_model.proofs.Literals.{Laws, one_read, read_or_refused, one_refusal, one_right, right_or_refused, one_right_refusal}
use Rattle.gx_model.proofs.Tables.{there, of_some}

-- the laws that this rests on
pub record Facts : Type 0 where
  pub literals : Laws
  pub bytes : (row : List (Option Datum)) (a b : List ℕ) → IsRowBytes a row → IsRowBytes b row → a ≡ b

-- Rows.

same_cons : {A : Type 0} (x y : A) (xs ys : List A) → x ≡ y → xs ≡ ys → x ∷ xs ≡ y ∷ ys
same_cons x y xs ys e f = rw (e, f) refl

one_values : Facts → (targets : List Column) (row : List Given) (a b : List (Option Datum)) → ReadsValues targets row a → ReadsValues targets row b → a ≡ b
one_values facts targets [] a b p q = p ∙ sym q
one_values facts [] (g ∷ gs) a b p q = absurd p
one_values facts (c ∷ cs) (g ∷ gs) [] b p q = absurd p
one_values facts (c ∷ cs) (g ∷ gs) (v ∷ vs) [] p q = absurd q
one_values facts (c ∷ cs) (g ∷ gs) (v ∷ vs) (w ∷ ws) p q =
    same_cons v w vs ws (one_read facts.literals c.kind g.literal v w p.0.read q.0.read) (one_values facts cs gs vs ws p.1 q.1)

pub one_row : Facts → (columns targets : List Column) (row : List Given) (a b : List (Option Datum)) → ReadsRow columns targets row a → ReadsRow columns targets row b → a ≡ b
one_row facts columns targets row a b p q =
    p.2 ∙ ap (λ (values : List (Option Datum)). fields_of columns targets values) (one_values facts targets row p.0 q.0 p.1 q.1) ∙ sym q.2

one_rows : Facts → (columns targets : List Column) (rows : List (List Given)) (a b : List (List (Option Datum))) → ReadsRows columns targets rows a → ReadsRows columns targets rows b → a ≡ b
one_rows facts columns targets [] a b p q = p ∙ sym q
one_rows facts columns targets (row ∷ rows) [] b p q = absurd p
one_rows facts columns targets (row ∷ rows) (x ∷ a) [] p q = absurd q
one_rows facts columns targets (row ∷ rows) (x ∷ a) (y ∷ b) p q =
    same_cons x y a b (one_row facts columns targets row x y p.0 q.0) (one_rows facts columns targets rows a b p.1 q.1)

one_encoding : Facts → (columns targets : List Column) (row : List Given) (f g : List (Option Datum)) (a b : List ℕ)
    → ReadsRow columns targets row f → ReadsRow columns targets row g → IsRowBytes a f → IsRowBytes b g → a ≡ b
one_encoding facts columns targets row f g a b p q m n =
    let e = one_row facts columns targets row f g p q in
    facts.bytes g a b (subst (λ (fields : List (Option Datum)). IsRowBytes a fields) e m) n

-- Checks.

short_or_long : (n m : ℕ) → n ≡ m → n ≤ row_limit → row_limit < m → ⊥
short_or_long n m e h k = omega arith

true_or_false : (b : Bool) → b ≡ false → b ≡ true → ⊥
true_or_false true h k = cc
true_or_false false h k = cc

passes_or_fails : Facts → (c : Check) (n : ℕ) → Passes c → Fails c n → ⊥
passes_or_fails facts (fault_where m so) n p f = true_or_false so p f.0
passes_or_fails facts (is_value kind l) n p f = read_or_refused facts.literals kind l p.0 f.0 n p.1 f.1 f.2
passes_or_fails facts (is_operand kind l) n p f = right_or_refused facts.literals kind l p.0 f.0 n p.1 f.1 f.2
passes_or_fails facts (fits columns targets row) n p f =
    short_or_long (length p.1) (length f.1) (ap (λ (bytes : List ℕ). length bytes) (one_encoding facts columns targets row p.0 f.0 p.1 f.1 p.2 f.2 p.3 f.3)) p.4 f.4

one_failure : Facts → (c : Check) (n m : ℕ) → Fails c n → Fails c m → n ≡ m
one_failure facts (fault_where k so) n m p q = p.1 ∙ sym q.1
one_failure facts (is_value kind l) n m p q = one_refusal facts.literals kind l p.0 q.0 n m p.1 q.1 p.2 q.2
one_failure facts (is_operand kind l) n m p q = one_right_refusal facts.literals kind l p.0 q.0 n m p.1 q.1 p.2 q.2
one_failure facts (fits columns targets row) n m p q = p.5 ∙ sym q.5

pub one_find : Facts → (cs : List Check) (a b : Option ℕ) → Find cs a → Find cs b → a ≡ b
one_find facts [] a b p q = p ∙ sym q
one_find facts (c ∷ cs) a b (inl p) (inl q) = one_find facts cs a b p.1 q.1
one_find facts (c ∷ cs) a b (inl p) (inr q) = absurd (passes_or_fails facts c q.0 p.0 q.1)
one_find facts (c ∷ cs) a b (inr p) (inl q) = absurd (passes_or_fails facts c p.0 q.0 p.1)
one_find facts (c ∷ cs) a b (inr p) (inr q) = p.2 ∙ ap (λ (n : ℕ). Some n) (one_failure facts c p.0 q.0 p.1 q.1) ∙ sym q.2

-- Conditions.

same_some : {A : Type 0} (o : Option A) (x y : A) → o ≡ Some x → o ≡ Some y → x ≡ y
same_some o x y e f = cc

one_operand : Facts → (t : Option OperandType) (l : Literal) (x y : Option Operand) → BindsLiteral t l x → BindsLiteral t l y → x ≡ y
one_operand facts None l x y p q = absurd p
one_operand facts (Some t) l x y p q = let e = one_right facts.literals t l p.0 q.0 p.1 q.1 in p.2 ∙ (rw e (sym q.2))

same_atom : (p q : ℕ) (op o : Operator) (x y : Option Operand) → p ≡ q → op ≡ o → x ≡ y → Atom p op x ≡ Atom q o y
same_atom p q op o x y e f g = rw (e, f, g) refl

one_atom : Facts → (columns : List Column) (name : List ℕ) (op : Operator) (given : Given) (p q : ℕ) (o r : Operator) (x y : Option Operand)
    → BindsAtom columns name op given p o x → BindsAtom columns name op given q r y → Atom p o x ≡ Atom q r y
one_atom facts columns name op given p q o r x y a b =
    let k = there (column_named columns name) (λ c. BindsLiteral (operand_type c.kind op given) given.literal x) a.literal in
    let m = of_some (column_named columns name) (λ c. BindsLiteral (operand_type c.kind op given) given.literal y) k.0 k.1 b.literal in
    same_atom p q o r x y (same_some (place_of columns name) p q a.place_is b.place_is) (a.op_is ∙ sym b.op_is) (one_operand facts (operand_type k.0.kind op given) given.literal x y k.2 m)

same_null : (p q : ℕ) (n m : Bool) → p ≡ q → n ≡ m → IsNull p n ≡ IsNull q m
same_null p q n m e f = rw (e, f) refl

same_and : (a b c d : Bound) → a ≡ b → c ≡ d → And a c ≡ And b d
same_and a b c d e f = rw (e, f) refl

same_or : (a b c d : Bound) → a ≡ b → c ≡ d → Or a c ≡ Or b d
same_or a b c d e f = rw (e, f) refl

pub one_bound : Facts → (columns : List Column) (t : trees.Tree) (x y : Bound) → Binds columns t x → Binds columns t y → x ≡ y
one_bound facts columns (trees.And a b) (And x y) (And z w) p q = same_and x z y w (one_bound facts columns a x z p.0 q.0) (one_bound facts columns b y w p.1 q.1)
one_bound facts columns (trees.And a b) (And x y) _ p q = absurd q
one_bound facts columns (trees.And a b) _ _ p q = absurd p
one_bound facts columns (trees.Or a b) (Or x y) (Or z w) p q = same_or x z y w (one_bound facts columns a x z p.0 q.0) (one_bound facts columns b y w p.1 q.1)
one_bound facts columns (trees.Or a b) (Or x y) _ p q = absurd q
one_bound facts columns (trees.Or a b) _ _ p q = absurd p
one_bound facts columns (trees.Not a) (Not x) (Not z) p q = ap (λ (b : Bound). Not b) (one_bound facts columns a x z p q)
one_bound facts columns (trees.Not a) (Not x) _ p q = absurd q
one_bound facts columns (trees.Not a) _ _ p q = absurd p
one_bound facts columns (trees.Atom name op given) (Atom p o x) (Atom q r y) a b = one_atom facts columns name op given p q o r x y a b
one_bound facts columns (trees.Atom name op given) (Atom p o x) _ a b = absurd b
one_bound facts columns (trees.Atom name op given) _ _ a b = absurd a
one_bound facts columns (trees.IsNull name negated) (IsNull p n) (IsNull q m) a b = same_null p q n m (same_some (place_of columns name) p q a.0 b.0) (a.1 ∙ sym b.1)
one_bound facts columns (trees.IsNull name negated) (IsNull p n) _ a b = absurd b
one_bound facts columns (trees.IsNull name negated) _ _ a b = absurd a

pub one_where : Facts → (columns : List Column) (t : Option trees.Tree) (x y : Option Bound) → BindsWhere columns t x → BindsWhere columns t y → x ≡ y
one_where facts columns None None None p q = refl
one_where facts columns None None (Some y) p q = absurd q
one_where facts columns None (Some x) y p q = absurd p
one_where facts columns (Some t) None y p q = absurd p
one_where facts columns (Some t) (Some x) None p q = absurd q
one_where facts columns (Some t) (Some x) (Some y) p q = ap (λ (b : Bound). Some b) (one_bound facts columns t x y p q)

-- Statements.

abbrev index_by : List ℕ → List ℕ → ℕ → Class → ℕ → Index
index_by name table column class parameter = record { name = name; table = table; column = column; class = class; parameter = parameter }

same_index : (i j : Index) → i.name ≡ j.name → i.table ≡ j.table → i.column ≡ j.column → i.class ≡ j.class → i.parameter ≡ j.parameter
    → index_by i.name i.table i.column i.class i.parameter ≡ index_by j.name j.table j.column j.class j.parameter
same_index i j a b c d e = rw (a, b, c, d, e) refl

one_class : (columns : List Column) (column method : List ℕ) (class : Option (List ℕ)) (a b : Class)
    → IsSomeAnd (column_named columns column) (λ c. class_chosen c.kind method class ≡ Some a) → IsSomeAnd (column_named columns column) (λ c. class_chosen c.kind method class ≡ Some b) → a ≡ b
one_class columns column method class a b p q =
    let k = there (column_named columns column) (λ c. class_chosen c.kind method class ≡ Some a) p in
    let m = of_some (column_named columns column) (λ c. class_chosen c.kind method class ≡ Some b) k.0 k.1 q in
    same_some (class_chosen k.0.kind method class) a b k.2 m

one_parameter : (parameter : Option Parameter) (a b : Class) (n m : ℕ) → a ≡ b → parameter_chosen a parameter ≡ Some n → parameter_chosen b parameter ≡ Some m → n ≡ m
one_parameter parameter a b n m e p q = same_some (parameter_chosen b parameter) n m (subst (λ (c : Class). parameter_chosen c parameter ≡ Some n) e p) q

one_index : (i j : Index) (name table method column : List ℕ) (class : Option (List ℕ)) (parameter : Option Parameter) (t : Table)
    → IsNewIndex i name table method column class parameter t → IsNewIndex j name table method column class parameter t → i ≡ j
one_index i j name table method column class parameter t p q =
    let c = one_class t.columns column method class i.class j.class p.class_is q.class_is in
    same_index i j (p.name_is ∙ sym q.name_is) (p.table_is ∙ sym q.table_is) (same_some (place_of t.columns column) i.column j.column p.column_is q.column_is) c
    (one_parameter parameter i.class j.class i.parameter j.parameter c p.parameter_is q.parameter_is)

pub one_effect : Facts → (db : Database) (said : Said) (x y : Stepped) → Does db said x → Does db said y → x ≡ y
one_effect facts db Nothing x y p q = p ∙ sym q
one_effect facts db (CreateTable name columns) x y p q = p ∙ sym q
one_effect facts db (DropTable name) x y p q = p ∙ sym q
one_effect facts db (CreateIndex name table method column class parameter) x y p q =
    let k = there (table_named db table) (Indexes db name table method column class parameter x) p in
    let m = of_some (table_named db table) (Indexes db name table method column class parameter y) k.0 k.1 q in
    let t = k.0 in
    k.2.2 ∙ ap (λ (i : Index). grown (record db { indexes = db.indexes ++ i ∷ [] }) (codes "CREATE INDEX") (growth_of_index i (map (λ row. row.fields) t.rows)))
    (one_index k.2.0 m.0 name table method column class parameter t k.2.1 m.1) ∙ sym m.2
one_effect facts db (DropIndex name) x y p q = p ∙ sym q
one_effect facts db (Insert table listed rows) x y p q =
    let k = there (table_named db table) (Inserts db listed rows x) p in
    let m = of_some (table_named db table) (Inserts db listed rows y) k.0 k.1 q in
    let t = k.0 in
    k.2.2 ∙ ap (λ (added : List (List (Option Datum))). grown (with_table db t.name (with_rows t added)) (codes "INSERT 0 " ++ decimal (length rows)) (growth_of_rows (indexes_on db t.name) added))
    (one_rows facts t.columns (named t.columns listed) rows k.2.0 m.0 k.2.1 m.1) ∙ sym m.2
one_effect facts db (Delete table tree) x y p q =
    let k = there (table_named db table) (Deletes db tree x) p in
    let m = of_some (table_named db table) (Deletes db tree y) k.0 k.1 q in
    let t = k.0 in
    k.2.2 ∙ ap (λ (c : Option Bound). done (with_table db t.name (record t { rows = others c t })) (codes "DELETE " ++ decimal (length (selected c t))))
    (one_where facts t.columns tree k.2.0 m.0 k.2.1 m.1) ∙ sym m.2
one_effect facts db (Select query) x y p q =
    let k = there (table_named db query.table) (Selects db query x) p in
    let m = of_some (table_named db query.table) (Selects db query y) k.0 k.1 q in
    let t = k.0 in
    k.2.2 ∙ ap (λ (c : Option Bound). unchanged db (accepted (selection t query.columns (selected c t))))
    (one_where facts t.columns query.condition k.2.0 m.0 k.2.1 m.1) ∙ sym m.2
one_effect facts db (Explain query) x y p q =
    let k = there (table_named db query.table) (Explains db query x) p in
    let m = of_some (table_named db query.table) (Explains db query y) k.0 k.1 q in
    let t = k.0 in
    k.2.2 ∙ ap (λ (c : Option Bound). unchanged db (accepted (explanation (plan_text (plan_where db t c)) (length (found db t c)) (length (selected c t)))))
    (one_where facts t.columns query.condition k.2.0 m.0 k.2.1 m.1) ∙ sym m.2
one_effect facts db (Vacuum table) x y p q = p ∙ sym q
one_effect facts db Checkpoint x y p q = p ∙ sym q
one_effect facts db Begin x y p q = p ∙ sym q
one_effect facts db Commit x y p q = p ∙ sym q
one_effect facts db Rollback x y p q = p ∙ sym q

-- a fault and none
none_or_some : (a : Option ℕ) (n : ℕ) → a ≡ None → a ≡ Some n → ⊥
none_or_some a n e f = cc

pub found_both : Facts → (cs : List Check) (n : ℕ) → Find cs (Some n) → Find cs None → ⊥
found_both facts cs n p q = none_or_some (Some n) n (one_find facts cs (Some n) None p q) refl

same_number : (n m : ℕ) → Some n ≡ Some m → n ≡ m
same_number n m e = cc

pub one_step : Facts → (db : Database) (said : Said) (x y : Stepped) → Steps db said x → Steps db said y → x ≡ y
one_step facts db said x y (inl p) (inl q) =
    p.2 ∙ ap (λ (n : ℕ). unchanged db (refusal n)) (same_number p.0 q.0 (one_find facts (checks db said) (Some p.0) (Some q.0) p.1 q.1)) ∙ sym q.2
one_step facts db said x y (inl p) (inr q) = absurd (found_both facts (checks db said) p.0 p.1 q.0)
one_step facts db said x y (inr p) (inl q) = absurd (found_both facts (checks db said) q.0 q.1 p.0)
one_step facts db said x y (inr p) (inr q) = one_effect facts db said x y p.1 q.1

-- Turns.

of_seen : Facts → (session : Session) (said : Said) (x y : Turned) → TurnsSeen session said x → TurnsSeen session said y → x ≡ y
of_seen facts session said x y (inl p) (inl q) =
    p.2 ∙ ap (λ (n : ℕ). refused session (refusal n)) (same_number p.0 q.0 (one_find facts (checks (seen session) said) (Some p.0) (Some q.0) p.1 q.1)) ∙ sym q.2
of_seen facts session said x y (inl p) (inr q) = absurd (found_both facts (checks (seen session) said) p.0 p.1 q.0)
of_seen facts session said x y (inr p) (inl q) = absurd (found_both facts (checks (seen session) said) q.0 q.1 p.0)
of_seen facts session said x y (inr p) (inr q) =
    p.3 ∙ ap (λ (s : Stepped). let t : Turned = record { session = with_seen session s.database; reply = s.reply; growth = s.growth } in t) (one_effect facts (seen session) said p.1 q.1 p.2 q.2) ∙ sym q.3

of_idle : Facts → (session : Session) (said : Said) (x y : Turned) → TurnsIdle session said x → TurnsIdle session said y → x ≡ y
of_idle facts session Begin x y p q = p ∙ sym q
of_idle facts session Commit x y p q = p ∙ sym q
of_idle facts session Rollback x y p q = p ∙ sym q
of_idle facts session said x y p q = of_seen facts session said x y p q

of_begun : Facts → (session : Session) (own : Database) (said : Said) (x y : Turned) → TurnsBegun session own said x → TurnsBegun session own said y → x ≡ y
of_begun facts session own Begin x y p q = p ∙ sym q
of_begun facts session own Commit x y p q = p ∙ sym q
of_begun facts session own Rollback x y p q = p ∙ sym q
of_begun facts session own (Vacuum table) x y p q = p ∙ sym q
of_begun facts session own Checkpoint x y p q = p ∙ sym q
of_begun facts session own said x y p q = of_seen facts session said x y p q

of_failed : (session : Session) (said : Said) (x y : Turned) → TurnsFailed session said x → TurnsFailed session said y → x ≡ y
of_failed session Commit x y p q = p ∙ sym q
of_failed session Rollback x y p q = p ∙ sym q
of_failed session said x y p q = p ∙ sym q

of_block : Facts → (block : Block) (session : Session) (said : Said) (x y : Turned) → TurnsIn block session said x → TurnsIn block session said y → x ≡ y
of_block facts idle session said x y p q = of_idle facts session said x y p q
of_block facts (begun own) session said x y p q = of_begun facts session own said x y p q
of_block facts failed session said x y p q = of_failed session said x y p q

of_said : Facts → (session : Session) (said : Said) (x y : Turned) → TurnsSaid session said x → TurnsSaid session said y → x ≡ y
of_said facts session Nothing x y p q = p ∙ sym q
of_said facts session said x y p q = of_block facts session.block session said x y p q

of_reading : Facts → (reading : Option Answer) (session : Session) (x y : Turned) → TurnsBy reading session x → TurnsBy reading session y → x ≡ y
of_reading facts None session x y p q = p ∙ sym q
of_reading facts (Some (says said)) session x y p q = of_said facts session said x y p q
of_reading facts (Some (wrong_at at)) session x y p q = p ∙ sym q
of_reading facts (Some too_deep) session x y p q = p ∙ sym q

pub one_turn : Facts → (session : Session) (piece : List ℕ) (x y : Turned) → Turns session piece x → Turns session piece y → x ≡ y
one_turn facts session piece x y p q = of_reading facts (reading_of piece) session x y p q
