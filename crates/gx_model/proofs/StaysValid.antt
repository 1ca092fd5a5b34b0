-- Every step of a valid database leaves a valid one.
use Rattle.std.proofs.Common.{◌≡◌, inl, inr, ℕ, suc, ◌+◌, ◌≤◌, nat_le, nat_lt, Bool, true, false, not, ◌||◌, cond, List, [], ◌∷◌, ◌++◌, length, map, Option, Some, None, refl, sym, ◌∙◌, ap, subst, arith}
use Rattle.std.specs.Prelude.{find, filter, is_some, is_none, option_and_then, IsSomeAnd}
use Rattle.std.specs.List.{AllByRecursion, filter_map, list_any}
use Rattle.std.specs.Str.{bytes_eq}
use Rattle.std.proofs.lemmas.Bool.Decides.{nat_tests}
use Rattle.std.proofs.lemmas.Slice.Eq.{bytes_eq-Decides}
use Rattle.gx_value.specs.declared.classes.Class.{Class}
use Rattle.gx_value.specs.declared.classes.Method.{Method}
use Rattle.gx_value.specs.declared.fields.Column.{Column}
use Rattle.gx_value.specs.declared.types.ColumnType.{ColumnType}
use Rattle.gx_value.specs.Classes.{method_named}
use Rattle.gx_value.specs.Values.{Datum}
use Rattle.gx_parse.specs.declared.statement.ColumnWord.{ColumnWord}
use Rattle.gx_parse.specs.declared.statement.Given.{Given}
use Rattle.gx_parse.specs.Said.{Said, Nothing, CreateTable, DropTable, CreateIndex, DropIndex, Insert, Delete, Select, Explain, Vacuum, Checkpoint, Begin, Commit, Rollback}
use Rattle.gx_parse.specs.Trees.{Tree}
use Rattle.gx_model.specs.Checks.{Check, Find, fault_where}
use Rattle.gx_model.specs.Classes.{class_among, class_chosen}
use Rattle.gx_model.specs.Database.{Database, Table, Row, Index, IsTable, IsIndex, IsValid, IsRowOf, IsShort, AreDistinct, is_table, table_named, column_named, with_table, without_table, without_index, with_rows, numbered, most_tables, most_columns, most_indexes, end_of_numbers}
use Rattle.gx_model.specs.Faults.{checks, found_checks, type_of, new_column_checks, new_table_checks, insert_checks, list_checks, width_check, rows_checks}
use Rattle.gx_model.specs.Steps.{Stepped, Steps, Does, Inserts, Deletes, Selects, Explains, Indexes, column_of, new_table, with_new_table, others, HasShortNames}
use Rattle.gx_model.specs.Truth.{selects}
use Rattle.gx_model.specs.Values.{named}
use Rattle.gx_model.proofs.Lists.{all_push, all_join, all_found, all_kept, map_join, length_map, length_push, no_longer, any_cons, any_behind, other_way, distinct_push, distinct_kept, rises_join, rises_kept}
use Rattle.gx_model.proofs.NewRows.{passed, passed_behind, all_named, targets_named, AreNew, are_new}
use Rattle.gx_model.proofs.OneTurn.{Facts}
use Rattle.gx_model.proofs.Tables.{there}

abbrev name_of : Table → List ℕ
name_of t = t.name

abbrev word_name : ColumnWord → List ℕ
word_name c = c.name

abbrev column_name : Column → List ℕ
column_name c = c.name

-- A database without indexes is valid where its tables are.
valid_tables : (db : Database) → AllByRecursion IsTable db.tables → AreDistinct (map name_of db.tables) → length db.tables ≤ most_tables → db.indexes ≡ [] → IsValid db
valid_tables db tables names few e =
    let none : 0 ≤ most_indexes = omega arith in
    record {
      tables = tables;
      names = names;
      few = few;
      indexes = subst (λ (is : List Index). AllByRecursion (IsIndex db) is) (sym e) tt;
      index_names = subst (λ (is : List Index). AreDistinct (map (λ i. i.name) is)) (sym e) tt;
      few_indexes = λ name. subst (λ (is : List Index). length (filter (λ i. bytes_eq i.table name) is) ≤ most_indexes) (sym e) none;
      no_index = e;
    }

-- CREATE TABLE

not_there_step : (name : List ℕ) (b : Bool) (t : Table) (rest : Option Table) (ns : List (List ℕ)) → is_table name t ≡ b → (is_some rest ≡ false → list_any (λ n. bytes_eq n name) ns ≡ false)
    → is_some (cond b (Some t) rest) ≡ false → list_any (λ n. bytes_eq n name) (t.name ∷ ns) ≡ false
not_there_step name true t rest ns h r e = cc
not_there_step name false t rest ns h r e = any_cons (λ n. bytes_eq n name) t.name ns h (r e)

not_there : (name : List ℕ) (ts : List Table) → is_some (find (is_table name) ts) ≡ false → list_any (λ n. bytes_eq n name) (map name_of ts) ≡ false
not_there name [] e = refl
not_there name (t ∷ ts) e = not_there_step name (is_table name t) t (find (is_table name) ts) (map name_of ts) refl (not_there name ts) e

-- the columns of words that pass have their names
names_step : (c : ColumnWord) (cs : List ColumnWord) (o : Option ColumnType) → type_of c.kind ≡ o → is_none o ≡ false → map column_name (filter_map column_of cs) ≡ map word_name cs
    → map column_name (filter_map column_of (c ∷ cs)) ≡ map word_name (c ∷ cs)
names_step c cs None h k e = cc
names_step c cs (Some kind) h k e = rw h (ap (λ (ns : List (List ℕ)). c.name ∷ ns) e)

abbrev second : List (List ℕ) → ColumnWord → List ColumnWord → List Check
second before c cs = fault_where 6 (is_none (type_of c.kind)) ∷ new_column_checks (before ++ c.name ∷ []) cs

names_kept : (before : List (List ℕ)) (cs : List ColumnWord) → Find (new_column_checks before cs) None → map column_name (filter_map column_of cs) ≡ map word_name cs
names_kept before [] f = refl
names_kept before (c ∷ cs) f =
    let k = passed (fault_where 5 (list_any (bytes_eq c.name) before)) (second before c cs) f in
    let m = passed (fault_where 6 (is_none (type_of c.kind))) (new_column_checks (before ++ c.name ∷ []) cs) k.1 in
    names_step c cs (type_of c.kind) refl m.0 (names_kept (before ++ c.name ∷ []) cs m.1)

-- none of the names stands before, and they differ

earlier : (before : List (List ℕ)) (n : List ℕ) (cs : List ColumnWord) → AllByRecursion (λ c. list_any (bytes_eq c.name) (before ++ n ∷ []) ≡ false) cs
    → AllByRecursion (λ c. list_any (bytes_eq c.name) before ≡ false) cs × (list_any (bytes_eq n) (map word_name cs) ≡ false)
earlier before n [] h = (tt, refl)
earlier before n (c ∷ cs) h =
    let k = any_behind (bytes_eq c.name) before n h.0 in
    let r = earlier before n cs h.1 in
    ((k.0, r.0), any_cons (bytes_eq n) c.name (map word_name cs) (other_way c.name n k.1) r.1)

differ : (before : List (List ℕ)) (cs : List ColumnWord) → Find (new_column_checks before cs) None
    → AllByRecursion (λ c. list_any (bytes_eq c.name) before ≡ false) cs × AreDistinct (map word_name cs)
differ before [] f = (tt, tt)
differ before (c ∷ cs) f =
    let k = passed (fault_where 5 (list_any (bytes_eq c.name) before)) (second before c cs) f in
    let m = passed (fault_where 6 (is_none (type_of c.kind))) (new_column_checks (before ++ c.name ∷ []) cs) k.1 in
    let r = differ (before ++ c.name ∷ []) cs m.1 in
    let e = earlier before c.name cs r.0 in
    ((k.0, e.0), (e.1, r.1))

limits : (n m : ℕ) → (nat_le most_tables n || nat_lt most_columns m) ≡ false → (suc n ≤ most_tables) × (m ≤ most_columns)
limits n m h = let e = both (nat_le most_tables n) (nat_lt most_columns m) h in (less n e.0, few m e.1)
  where
    both : (a b : Bool) → (a || b) ≡ false → (a ≡ false) × (b ≡ false)
    both true b k = cc
    both false b k = (refl, k)

    less : (k : ℕ) → nat_le most_tables k ≡ false → suc k ≤ most_tables
    less k e = grind (arith, nat_tests)

    few : (k : ℕ) → nat_lt most_columns k ≡ false → k ≤ most_columns
    few k e = grind (arith, nat_tests)

new_is_table : (name : List ℕ) (words : List ColumnWord) → IsShort name → AllByRecursion IsShort (map word_name words) → Find (new_column_checks [] words) None → length words ≤ most_columns
    → IsTable (new_table name words)
new_is_table name words short shorts f few =
    let e : map column_name (filter_map column_of words) ≡ map word_name words = names_kept [] words f in
    let n : length (filter_map column_of words) ≡ length words = sym (length_map column_name (filter_map column_of words)) ∙ ap (λ (ns : List (List ℕ)). length ns) e ∙ length_map word_name words in
    let one : 1 ≤ 1 = omega arith in
    let end : 1 ≤ end_of_numbers = omega arith in
    record {
      short = short;
      short_columns = subst (λ (ns : List (List ℕ)). AllByRecursion IsShort ns) (sym e) shorts;
      columns = subst (λ (ns : List (List ℕ)). AreDistinct ns) (sym e) (differ [] words f).1;
      few = subst (λ (m : ℕ). m ≤ most_columns) (sym n) few;
      numbers = one;
      next = end;
      rows = tt;
    }

created : (db : Database) (name : List ℕ) (words : List ColumnWord) → IsValid db → HasShortNames (CreateTable name words) → Find (new_table_checks db name words) None → IsValid (with_new_table db name words)
created db name words v s f =
    let k = passed (fault_where 3 (is_some (table_named db name))) (fault_where 16 (nat_le most_tables (length db.tables) || nat_lt most_columns (length words)) ∷ new_column_checks [] words) f in
    let m = passed (fault_where 16 (nat_le most_tables (length db.tables) || nat_lt most_columns (length words))) (new_column_checks [] words) k.1 in
    let l = limits (length db.tables) (length words) m.0 in
    let t : Table = new_table name words in
    valid_tables (with_new_table db name words) (all_push IsTable db.tables t v.tables (new_is_table name words s.0 s.1 m.1 l.1))
    (subst (λ (ns : List (List ℕ)). AreDistinct ns) (sym (map_join name_of db.tables (t ∷ []))) (distinct_push (map name_of db.tables) name v.names (not_there name db.tables k.0)))
    (subst (λ (n : ℕ). n ≤ most_tables) (sym (length_push db.tables t)) l.0)
    v.no_index

-- Another table in place of one.

abbrev replaced : List ℕ → Table → Table → Table
replaced name new t = cond (is_table name t) new t

same_names_step : (name : List ℕ) (new t : Table) (b : Bool) → is_table name t ≡ b → new.name ≡ name → (cond b new t).name ≡ t.name
same_names_step name new t true h e = e ∙ sym ((bytes_eq-Decides t.name name).0 h)
same_names_step name new t false h e = refl

same_two : (a b : List ℕ) (xs ys : List (List ℕ)) → a ≡ b → xs ≡ ys → a ∷ xs ≡ b ∷ ys
same_two a b xs ys e f = rw (e, f) refl

same_names : (name : List ℕ) (new : Table) (ts : List Table) → new.name ≡ name → map name_of (map (replaced name new) ts) ≡ map name_of ts
same_names name new [] e = refl
same_names name new (t ∷ ts) e =
    same_two (replaced name new t).name t.name (map name_of (map (replaced name new) ts)) (map name_of ts)
    (same_names_step name new t (is_table name t) refl e) (same_names name new ts e)

either : (b : Bool) (new t : Table) → IsTable new → IsTable t → IsTable (cond b new t)
either true new t h k = h
either false new t h k = k

all_replaced : (name : List ℕ) (new : Table) (ts : List Table) → IsTable new → AllByRecursion IsTable ts → AllByRecursion IsTable (map (replaced name new) ts)
all_replaced name new [] h k = tt
all_replaced name new (t ∷ ts) h k = (either (is_table name t) new t h k.0, all_replaced name new ts h k.1)

exchanged : (db : Database) (name : List ℕ) (new : Table) → IsValid db → IsTable new → new.name ≡ name → IsValid (with_table db name new)
exchanged db name new v h e =
    valid_tables (with_table db name new) (all_replaced name new db.tables h v.tables)
    (subst (λ (ns : List (List ℕ)). AreDistinct ns) (sym (same_names name new db.tables e)) v.names)
    (subst (λ (n : ℕ). n ≤ most_tables) (sym (length_map (replaced name new) db.tables)) v.few)
    v.no_index

-- INSERT

more_rows : (t : Table) (added : List (List (Option Datum))) → IsTable t → AreNew t.columns t.next added → IsTable (with_rows t added)
more_rows t added h n =
    record {
      short = h.short;
      short_columns = h.short_columns;
      columns = h.columns;
      few = h.few;
      numbers = rises_join 1 t.next (t.next + length added) t.rows (numbered t.next added) h.numbers n.rise;
      next = n.below;
      rows = all_join (IsRowOf t.columns) t.rows (numbered t.next added) h.rows n.rows;
    }

inserted : Facts → (db : Database) (name : List ℕ) (listed : Option (List (List ℕ))) (rows : List (List Given)) (s : Stepped) (t : Table) → IsValid db → IsTable t → Find (insert_checks listed rows t) None
    → Inserts db listed rows s t → IsValid s.database
inserted facts db name listed rows s t v h f i =
    let r = passed_behind (list_checks t.columns listed) (width_check t.columns listed rows ∷ rows_checks t.columns (named t.columns listed) t.next rows) f in
    let c = passed (width_check t.columns listed rows) (rows_checks t.columns (named t.columns listed) t.next rows) r in
    let n : AreNew t.columns t.next i.0 = are_new facts t.columns (named t.columns listed) t.next rows i.0 h.next c.1 i.1 (targets_named t.columns listed h.columns) (all_named t.columns h.columns) in
    subst (λ (d : Database). IsValid d) (sym (ap (λ (x : Stepped). x.database) i.2)) (exchanged db t.name (with_rows t i.0) v (more_rows t i.0 h n) refl)

-- DELETE

fewer_rows : (t : Table) (p : Row → Bool) → IsTable t → IsTable (record t { rows = filter p t.rows })
fewer_rows t p h =
    record {
      short = h.short;
      short_columns = h.short_columns;
      columns = h.columns;
      few = h.few;
      numbers = rises_kept p 1 t.next t.rows h.numbers;
      next = h.next;
      rows = all_kept (IsRowOf t.columns) p t.rows h.rows;
    }

deleted : (db : Database) (tree : Option Tree) (s : Stepped) (t : Table) → IsValid db → IsTable t → Deletes db tree s t → IsValid s.database
deleted db tree s t v h d =
    subst (λ (e : Database). IsValid e) (sym (ap (λ (x : Stepped). x.database) d.2))
    (exchanged db t.name (record t { rows = others d.0 t }) v (fewer_rows t (λ row. not (selects d.0 row.fields)) h) refl)

-- DROP TABLE, DROP INDEX

dropped : (db : Database) (name : List ℕ) → IsValid db → IsValid (without_table db name)
dropped db name v =
    let few = no_longer (λ t. not (is_table name t)) db.tables in
    let most = v.few in
    let least : length (filter (λ t. not (is_table name t)) db.tables) ≤ most_tables = omega arith in
    valid_tables (without_table db name) (all_kept IsTable (λ t. not (is_table name t)) db.tables v.tables) (distinct_kept name_of (λ t. not (is_table name t)) db.tables v.names) least
    (ap (λ (is : List Index). filter (λ i. not (bytes_eq i.table name)) is) v.no_index)

index_dropped : (db : Database) (name : List ℕ) → IsValid db → IsValid (without_index db name)
index_dropped db name v = valid_tables (without_index db name) v.tables v.names v.few (ap (λ (is : List Index). filter (λ i. not (bytes_eq i.name name)) is) v.no_index)

-- CREATE INDEX: there is no class to choose.

pub none_chosen : (o : Option Method) (kind : ColumnType) (word : Option (List ℕ)) → option_and_then (λ m. class_among [] m kind word) o ≡ None
none_chosen None kind word = refl
none_chosen (Some m) kind None = refl
none_chosen (Some m) kind (Some w) = refl

no_class : (columns : List Column) (column method : List ℕ) (class : Option (List ℕ)) (chosen : Class) → IsSomeAnd (column_named columns column) (λ c. class_chosen c.kind method class ≡ Some chosen) → ⊥
no_class columns column method class chosen h =
    let k = there (column_named columns column) (λ c. class_chosen c.kind method class ≡ Some chosen) h in
    let e = none_chosen (method_named method) k.0.kind class in
    let g = k.2 in cc

-- No statement is accepted without its checks.

of_table : (db : Database) (name : List ℕ) (t : Table) (more : Table → List Check) → table_named db name ≡ Some t → Find (found_checks (table_named db name) more) None → Find (more t) None
of_table db name t more e f = subst (λ (o : Option Table). Find (found_checks o more) None) e f

other : (db : Database) (s : Stepped) (x : Stepped) → s ≡ x → IsValid x.database → IsValid s.database
other db s x e v = subst (λ (d : Database). IsValid d) (sym (ap (λ (y : Stepped). y.database) e)) v

pub effect_valid : Facts → (db : Database) (said : Said) (s : Stepped) → IsValid db → HasShortNames said → Find (checks db said) None → Does db said s → IsValid s.database
effect_valid facts db Nothing s v n f h = other db s _ h v
effect_valid facts db (CreateTable name columns) s v n f h = other db s _ h (created db name columns v n f)
effect_valid facts db (DropTable name) s v n f h = other db s _ h (dropped db name v)
effect_valid facts db (CreateIndex name table method column class parameter) s v n f h =
    let k = there (table_named db table) (Indexes db name table method column class parameter s) h in
    absurd (no_class k.0.columns column method class k.2.0.class k.2.1.class_is)
effect_valid facts db (DropIndex name) s v n f h = other db s _ h (index_dropped db name v)
effect_valid facts db (Insert table listed rows) s v n f h =
    let k = there (table_named db table) (Inserts db listed rows s) h in
    inserted facts db table listed rows s k.0 v (all_found IsTable (is_table table) db.tables k.0 v.tables k.1) (of_table db table k.0 (insert_checks listed rows) k.1 f) k.2
effect_valid facts db (Delete table tree) s v n f h =
    let k = there (table_named db table) (Deletes db tree s) h in
    deleted db tree s k.0 v (all_found IsTable (is_table table) db.tables k.0 v.tables k.1) k.2
effect_valid facts db (Select q) s v n f h = let k = there (table_named db q.table) (Selects db q s) h in other db s _ k.2.2 v
effect_valid facts db (Explain q) s v n f h = let k = there (table_named db q.table) (Explains db q s) h in other db s _ k.2.2 v
effect_valid facts db (Vacuum table) s v n f h = other db s _ h v
effect_valid facts db Checkpoint s v n f h = other db s _ h v
effect_valid facts db Begin s v n f h = other db s _ h v
effect_valid facts db Commit s v n f h = other db s _ h v
effect_valid facts db Rollback s v n f h = other db s _ h v

pub step_valid : Facts → (db : Database) (said : Said) (s : Stepped) → IsValid db → HasShortNames said → Steps db said s → IsValid s.database
step_valid facts db said s v n (inl h) = other db s _ h.2 v
step_valid facts db said s v n (inr h) = effect_valid facts db said s v n h.0 h.1
