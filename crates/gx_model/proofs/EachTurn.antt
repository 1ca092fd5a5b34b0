-- Each statement has a step, and each piece a turn.
use Rattle.std.proofs.Common.{◌≡◌, inl, inr, ℕ, nat_le, nat_lt, true, false, ◌||◌, ◌&&◌, List, [], ◌∷◌, ◌++◌, length, map, Option, Some, None, refl, sym, ap, subst}
use Rattle.std.specs.Prelude.{is_none, is_some, codes, IsSomeAnd}
use Rattle.std.specs.Fmt.{decimal}
use Rattle.std.specs.List.{list_any}
use Rattle.std.specs.Str.{bytes_eq}
use Rattle.gx_value.specs.declared.classes.Class.{Class}
use Rattle.gx_value.specs.declared.fields.Column.{Column}
use Rattle.gx_value.specs.Classes.{method_named}
use Rattle.gx_value.specs.Values.{Datum}
use Rattle.gx_parse.specs.Answers.{Answer, says, wrong_at, too_deep}
use Rattle.gx_parse.specs.declared.statement.ColumnWord.{ColumnWord}
use Rattle.gx_parse.specs.declared.statement.Given.{Given}
use Rattle.gx_parse.specs.declared.statement.Parameter.{Parameter}
use Rattle.gx_parse.specs.Said.{Said, Query, Nothing, CreateTable, DropTable, CreateIndex, DropIndex, Insert, Delete, Select, Explain, Vacuum, Checkpoint, Begin, Commit, Rollback}
use Rattle.gx_parse.specs.Sound.{HasLiterals}
use Rattle.gx_parse.specs.Trees.{Tree}
use Rattle.gx_model.specs.Checks.{fault_where}
use Rattle.gx_model.specs.Classes.{class_chosen}
use Rattle.gx_model.specs.Conditions.{column_checks, where_checks}
use Rattle.gx_model.specs.Database.{Database, Table, IsTable, IsValid, OfTable, is_table, table_named, index_named, column_named, indexes_on, with_table, with_rows, without_table, without_index, most_tables, most_columns, most_indexes}
use Rattle.gx_model.specs.Faults.{checks, type_of, new_column_checks, new_table_checks, class_checks, new_index_checks, parameter_checks, insert_checks, asked_checks}
use Rattle.gx_model.specs.Growth.{growth_of_rows, pages_each}
use Rattle.gx_model.specs.Plans.{found, plan_where, plan_text}
use Rattle.gx_model.specs.Replies.{accepted, refusal}
use Rattle.gx_model.specs.Steps.{Stepped, Steps, Does, Inserts, Deletes, Selects, Explains, done, with_new_table, others, selected, selection, explanation, grown, unchanged}
use Rattle.gx_model.specs.Totality.{AreTotal}
use Rattle.gx_model.specs.Turns.{Session, Block, idle, begun, failed, AreValid, seen, with_seen, refused, Turned, Turns, TurnsSeen, TurnsIdle, TurnsBegun, TurnsFailed, TurnsIn, TurnsSaid, TurnsBy, reading_of}
use Rattle.gx_model.specs.Values.{named, ReadsRows}
use Rattle.gx_model.proofs.Coming.{Comes, more, join, nothing, tested, column, table, where_comes, BoundWhere}
use Rattle.gx_model.proofs.ComingRows.{insert_comes}
use Rattle.gx_model.proofs.Lists.{all_found}
use Rattle.gx_model.proofs.StaysValid.{none_chosen}

-- an accepted statement does something
abbrev Done : Database → Said → Type 0
Done db said = (stepped : Stepped) × Does db said stepped

of_table : (db : Database) (name : List ℕ) (t : Table) (P : Table → Type 0) → table_named db name ≡ Some t → P t → OfTable db name P
of_table db name t P some has = subst (λ (o : Option Table). IsSomeAnd o P) (sym some) has

-- CREATE TABLE

columns_come : (before : List (List ℕ)) (cs : List ColumnWord) → Comes (Unit {0}) (new_column_checks before cs)
columns_come before [] = nothing tt
columns_come before (c ∷ cs) =
    let twice = list_any (bytes_eq c.name) before in
    let unknown = is_none (type_of c.kind) in
    let rest = new_column_checks (before ++ c.name ∷ []) cs in
    more (new_column_checks before (c ∷ cs)) (λ (h : (twice ≡ false) × ((unknown ≡ false) × Unit {0})). tt)
    (join (fault_where 5 twice ∷ []) (fault_where 6 unknown ∷ rest) (tested 5 twice)
    (λ _. join (fault_where 6 unknown ∷ []) rest (tested 6 unknown) (λ _. columns_come (before ++ c.name ∷ []) cs)))

create_table : (db : Database) (name : List ℕ) (columns : List ColumnWord) → Comes (Done db (CreateTable name columns)) (new_table_checks db name columns)
create_table db name columns =
    let there = is_some (table_named db name) in
    let full = nat_le most_tables (length db.tables) || nat_lt most_columns (length columns) in
    let rest = new_column_checks [] columns in
    more (new_table_checks db name columns) (λ (h : (there ≡ false) × ((full ≡ false) × Unit {0})). (grown (with_new_table db name columns) (codes "CREATE TABLE") pages_each, refl))
    (join (fault_where 3 there ∷ []) (fault_where 16 full ∷ rest) (tested 3 there)
    (λ _. join (fault_where 16 full ∷ []) rest (tested 16 full) (λ _. columns_come [] columns)))

-- CREATE INDEX: no class is chosen.

no_class : (o : Option Class) → o ≡ None → is_none o ≡ false → ⊥
no_class o none some = let h : is_none o ≡ true = ap (λ (p : Option Class). is_none p) none in cc

class_comes : (method : List ℕ) (class : Option (List ℕ)) (parameter : Option Parameter) (c : Column) → Comes ⊥ (class_checks method class parameter c)
class_comes method class parameter c =
    let chosen = class_chosen c.kind method class in
    let other = is_none chosen && (is_some class || is_none (method_named method)) in
    let rest = parameter_checks parameter chosen in
    more (class_checks method class parameter c) (λ (h : (other ≡ false) × ((is_none chosen ≡ false) × ⊥)). h.1.1)
    (join (fault_where 14 other ∷ []) (fault_where 19 (is_none chosen) ∷ rest) (tested 14 other)
    (λ _. join (fault_where 19 (is_none chosen) ∷ []) rest (tested 19 (is_none chosen)) (λ some. absurd (no_class chosen (none_chosen (method_named method) c.kind class) some))))

index_comes : (db : Database) (name method column_name : List ℕ) (class : Option (List ℕ)) (parameter : Option Parameter) (t : Table) → Comes ⊥ (new_index_checks db name method column_name class parameter t)
index_comes db name method column_name class parameter t =
    let there = is_some (index_named db name) in
    let full = nat_le most_indexes (length (indexes_on db t.name)) in
    let rest = column_checks t.columns column_name (class_checks method class parameter) in
    more (new_index_checks db name method column_name class parameter t) (λ (h : (there ≡ false) × ((full ≡ false) × ⊥)). h.1.1)
    (join (fault_where 13 there ∷ []) (fault_where 16 full ∷ rest) (tested 13 there)
    (λ _. join (fault_where 16 full ∷ []) rest (tested 16 full)
    (λ _. column t.columns column_name (class_checks method class parameter) (λ c some. class_comes method class parameter c))))

-- SELECT, EXPLAIN ANALYZE, DELETE

names_come : (t : Table) (names : List (List ℕ)) → Comes (Unit {0}) (map (λ name. fault_where 4 (is_none (column_named t.columns name))) names)
names_come t [] = nothing tt
names_come t (name ∷ names) =
    let missing = is_none (column_named t.columns name) in
    let rest = map (λ n. fault_where 4 (is_none (column_named t.columns n))) names in
    more (fault_where 4 missing ∷ rest) (λ (h : (missing ≡ false) × Unit {0}). tt) (join (fault_where 4 missing ∷ []) rest (tested 4 missing) (λ _. names_come t names))

asked_come : (t : Table) (names : Option (List (List ℕ))) → Comes (Unit {0}) (asked_checks t.columns names)
asked_come t None = nothing tt
asked_come t (Some names) = names_come t names

query_comes : AreTotal → (q : Query) (t : Table) → HasLiterals (Select q) → Comes (BoundWhere t.columns q.condition) (asked_checks t.columns q.columns ++ where_checks t.columns q.condition)
query_comes total q t are =
    more (asked_checks t.columns q.columns ++ where_checks t.columns q.condition) (λ (h : Unit {0} × BoundWhere t.columns q.condition). h.1)
    (join (asked_checks t.columns q.columns) (where_checks t.columns q.condition) (asked_come t q.columns) (λ _. where_comes total t.columns q.condition are))

selects : (db : Database) (q : Query) (t : Table) → table_named db q.table ≡ Some t → BoundWhere t.columns q.condition → Done db (Select q)
selects db q t some bound =
    let s = unchanged db (accepted (selection t q.columns (selected bound.0 t))) in
    (s, of_table db q.table t (Selects db q s) some (bound.0, bound.1, refl))

explains : (db : Database) (q : Query) (t : Table) → table_named db q.table ≡ Some t → BoundWhere t.columns q.condition → Done db (Explain q)
explains db q t some bound =
    let s = unchanged db (accepted (explanation (plan_text (plan_where db t bound.0)) (length (found db t bound.0)) (length (selected bound.0 t)))) in
    (s, of_table db q.table t (Explains db q s) some (bound.0, bound.1, refl))

deletes : (db : Database) (name : List ℕ) (tree : Option Tree) (t : Table) → table_named db name ≡ Some t → BoundWhere t.columns tree → Done db (Delete name tree)
deletes db name tree t some bound =
    let s = done (with_table db t.name (record t { rows = others bound.0 t })) (codes "DELETE " ++ decimal (length (selected bound.0 t))) in
    (s, of_table db name t (Deletes db tree s) some (bound.0, bound.1, refl))

inserts : (db : Database) (name : List ℕ) (listed : Option (List (List ℕ))) (rows : List (List Given)) (t : Table) → table_named db name ≡ Some t → (added : List (List (Option Datum))) × ReadsRows t.columns (named t.columns listed) rows added
    → Done db (Insert name listed rows)
inserts db name listed rows t some read =
    let s = grown (with_table db t.name (with_rows t read.0)) (codes "INSERT 0 " ++ decimal (length rows)) (growth_of_rows (indexes_on db t.name) read.0) in
    (s, of_table db name t (Inserts db listed rows s) some (read.0, read.1, refl))

-- each statement is accepted, or has a fault
comes : AreTotal → (db : Database) (said : Said) → IsValid db → HasLiterals said → Comes (Done db said) (checks db said)
comes total db Nothing valid are = nothing (unchanged db (accepted []), refl)
comes total db (CreateTable name columns) valid are = create_table db name columns
comes total db (DropTable name) valid are = table db name (λ t. []) (λ t some. nothing (done (without_table db name) (codes "DROP TABLE"), refl))
comes total db (CreateIndex name on method column_name class parameter) valid are =
    table db on (new_index_checks db name method column_name class parameter)
    (λ t some. more (new_index_checks db name method column_name class parameter t) (λ (h : ⊥). absurd h) (index_comes db name method column_name class parameter t))
comes total db (DropIndex name) valid are =
    more (checks db (DropIndex name)) (λ (h : is_none (index_named db name) ≡ false). (done (without_index db name) (codes "DROP INDEX"), refl)) (tested 12 (is_none (index_named db name)))
comes total db (Insert name listed rows) valid are =
    table db name (insert_checks listed rows)
    (λ t some. more (insert_checks listed rows t) (inserts db name listed rows t some) (insert_comes total listed rows t are (all_found IsTable (is_table name) db.tables t valid.tables some).columns))
comes total db (Delete name tree) valid are =
    table db name (λ t. where_checks t.columns tree) (λ t some. more (where_checks t.columns tree) (deletes db name tree t some) (where_comes total t.columns tree are))
comes total db (Select q) valid are =
    table db q.table (λ t. asked_checks t.columns q.columns ++ where_checks t.columns q.condition)
    (λ t some. more (asked_checks t.columns q.columns ++ where_checks t.columns q.condition) (selects db q t some) (query_comes total q t are))
comes total db (Explain q) valid are =
    table db q.table (λ t. asked_checks t.columns q.columns ++ where_checks t.columns q.condition)
    (λ t some. more (asked_checks t.columns q.columns ++ where_checks t.columns q.condition) (explains db q t some) (query_comes total q t are))
comes total db (Vacuum name) valid are = table db name (λ t. []) (λ t some. nothing (done db (codes "VACUUM"), refl))
comes total db Checkpoint valid are = nothing (done db (codes "CHECKPOINT"), refl)
comes total db Begin valid are = nothing (done db (codes "BEGIN"), refl)
comes total db Commit valid are = nothing (done db (codes "COMMIT"), refl)
comes total db Rollback valid are = nothing (done db (codes "ROLLBACK"), refl)

step_of : (db : Database) (said : Said) → Comes (Done db said) (checks db said) → (stepped : Stepped) × Steps db said stepped
step_of db said (inl h) = (h.0.0, inr (h.1, h.0.1))
step_of db said (inr h) = (unchanged db (refusal h.0), inl (h.0, h.1, refl))

pub each_step : AreTotal → (db : Database) (said : Said) → IsValid db → HasLiterals said → (stepped : Stepped) × Steps db said stepped
each_step total db said valid are = step_of db said (comes total db said valid are)

-- Turns.

abbrev Has : (Turned → Type 0) → Type 0
Has P = (turned : Turned) × P turned

seen_step : (session : Session) (said : Said) → Comes (Done (seen session) said) (checks (seen session) said) → Has (TurnsSeen session said)
seen_step session said (inl h) =
    (record { session = with_seen session h.0.0.database; reply = h.0.0.reply; growth = h.0.0.growth }, inr (h.1, h.0.0, h.0.1, refl))
seen_step session said (inr h) = (refused session (refusal h.0), inl (h.0, h.1, refl))

module _ (total : AreTotal) (session : Session) (valid : AreValid session) where
  turns_seen : (said : Said) → HasLiterals said → Has (TurnsSeen session said)
  turns_seen said are = seen_step session said (comes total (seen session) said valid.own are)

  turns_idle : (said : Said) → HasLiterals said → Has (TurnsIdle session said)
  turns_idle Begin are = (_, refl)
  turns_idle Commit are = (_, refl)
  turns_idle Rollback are = (_, refl)
  turns_idle said are = turns_seen said are

  turns_begun : (own : Database) (said : Said) → HasLiterals said → Has (TurnsBegun session own said)
  turns_begun own Begin are = (_, refl)
  turns_begun own Commit are = (_, refl)
  turns_begun own Rollback are = (_, refl)
  turns_begun own (Vacuum name) are = (_, refl)
  turns_begun own Checkpoint are = (_, refl)
  turns_begun own said are = turns_seen said are

  turns_failed : (said : Said) → Has (TurnsFailed session said)
  turns_failed Commit = (_, refl)
  turns_failed Rollback = (_, refl)
  turns_failed said = (_, refl)

  turns_in : (block : Block) (said : Said) → HasLiterals said → Has (TurnsIn block session said)
  turns_in idle said are = turns_idle said are
  turns_in (begun own) said are = turns_begun own said are
  turns_in failed said are = turns_failed said

  turns_said : (said : Said) → HasLiterals said → Has (TurnsSaid session said)
  turns_said Nothing are = (_, refl)
  turns_said said are = turns_in session.block said are

  turns_by : (reading : Option Answer) → ((said : Said) → reading ≡ Some (says said) → HasLiterals said) → Has (TurnsBy reading session)
  turns_by None sound = (_, refl)
  turns_by (Some (says said)) sound = turns_said said (sound said refl)
  turns_by (Some (wrong_at at)) sound = (_, refl)
  turns_by (Some too_deep) sound = (_, refl)

pub each_turn : AreTotal → (session : Session) (piece : List ℕ) → AreValid session → ((said : Said) → reading_of piece ≡ Some (says said) → HasLiterals said) → (turned : Turned) × Turns session piece turned
each_turn total session piece valid sound = turns_by total session valid (reading_of piece) sound
