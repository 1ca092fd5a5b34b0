-- What accepted and refused statements leave.
use Rattle.std.proofs.Common.{◌≡◌, inl, inr, ℕ, Bool, false, not, List, ◌++◌, length, Option, Some, None, refl, ◌∙◌, ap, codes}
use Rattle.std.specs.Prelude.{IsSome, ◌↔◌}
use Rattle.std.specs.Fmt.{decimal}
use Rattle.std.specs.List.{flat_map}
use Rattle.gx_value.specs.Values.{Datum}
use Rattle.gx_parse.specs.declared.statement.Given.{Given}
use Rattle.gx_parse.specs.Said.{Said, Query, Nothing, CreateTable, DropTable, CreateIndex, DropIndex, Insert, Delete, Select, Explain, Vacuum, Checkpoint, Begin, Commit, Rollback}
use Rattle.gx_parse.specs.Trees.{Tree}
use Rattle.gx_model.specs.Conditions.{BindsWhere}
use Rattle.gx_model.specs.Database.{Database, Table, Row, IsIn, table_named, with_rows}
use Rattle.gx_model.specs.Replies.{line, row_line}
use Rattle.gx_model.specs.Steps.{Stepped, Steps, Does, Indexes, Inserts, Deletes, Selects, Explains, Accepts, select_all, others, selected, selection}
use Rattle.gx_model.specs.Truth.{Bound, selects}
use Rattle.gx_model.specs.Values.{named, ReadsRows}
use Rattle.gx_model.proofs.Tables.{there, of_some, table_after, kept, stays, not_true, not_false, kept_all}

abbrev fault_in : Stepped → Option ℕ
fault_in s = s.reply.fault

-- an accepted statement has no fault
pub no_fault : (db : Database) (said : Said) (s : Stepped) → Does db said s → s.reply.fault ≡ None
no_fault db Nothing s h = ap fault_in h
no_fault db (CreateTable name columns) s h = ap fault_in h
no_fault db (DropTable name) s h = ap fault_in h
no_fault db (CreateIndex name table method column class parameter) s h = let k = there (table_named db table) (Indexes db name table method column class parameter s) h in ap fault_in k.2.2
no_fault db (DropIndex name) s h = ap fault_in h
no_fault db (Insert table listed rows) s h = let k = there (table_named db table) (Inserts db listed rows s) h in ap fault_in k.2.2
no_fault db (Delete table condition) s h = let k = there (table_named db table) (Deletes db condition s) h in ap fault_in k.2.2
no_fault db (Select q) s h = let k = there (table_named db q.table) (Selects db q s) h in ap fault_in k.2.2
no_fault db (Explain q) s h = let k = there (table_named db q.table) (Explains db q s) h in ap fault_in k.2.2
no_fault db (Vacuum table) s h = ap fault_in h
no_fault db Checkpoint s h = ap fault_in h
no_fault db Begin s h = ap fault_in h
no_fault db Commit s h = ap fault_in h
no_fault db Rollback s h = ap fault_in h

pub some_none : (o : Option ℕ) → o ≡ None → IsSome o → ⊥
some_none None e h = cc
some_none (Some n) e h = cc

none_some : (o : Option ℕ) (n : ℕ) → o ≡ Some n → o ≡ None → ⊥
none_some o n e f = cc

-- a refused statement leaves the database
pub refused_leaves : (db : Database) (said : Said) (s : Stepped) → Steps db said s → IsSome s.reply.fault → s.database ≡ db
refused_leaves db said s (inl h) some = ap (λ (t : Stepped). t.database) h.2
refused_leaves db said s (inr h) some = absurd (some_none s.reply.fault (no_fault db said s h.1) some)

-- what is accepted does what it says
pub accepted_does : (db : Database) (said : Said) (s : Stepped) → Accepts db said s → Does db said s
accepted_does db said s a = by_cases a.steps
  where
    by_cases : Steps db said s → Does db said s
    by_cases (inl h) = absurd (none_some s.reply.fault h.0 (ap fault_in h.2) a.accepted)
    by_cases (inr h) = h.1

pub inserted : (db : Database) (name : List ℕ) (listed : Option (List (List ℕ))) (given : List (List Given)) (s : Stepped) (t : Table)
    → Accepts db (Insert name listed given) s → table_named db name ≡ Some t
    → (added : List (List (Option Datum))) × ReadsRows t.columns (named t.columns listed) given added × (table_named s.database name ≡ Some (with_rows t added))
inserted db name listed given s t a e =
    let k = of_some (table_named db name) (Inserts db listed given s) t e (accepted_does db (Insert name listed given) s a) in
    (k.0, k.1, ap (λ (x : Stepped). table_named x.database name) k.2 ∙ table_after db name t (with_rows t k.0) e refl)

all_selected : (t : Table) → selected None t ≡ t.rows
all_selected t = kept_all t.rows

whole : (t : Table) (condition : Option Bound) → BindsWhere t.columns None condition → selection t None (selected condition t) ≡ flat_map (row_line t.columns t.columns) t.rows ++ line (codes "SELECT " ++ decimal (length t.rows))
whole t None b = ap (λ (rows : List Row). selection t None rows) (all_selected t)
whole t (Some condition) b = absurd b

pub selected_all : (db : Database) (name : List ℕ) (s : Stepped) (t : Table) → table_named db name ≡ Some t → Accepts db (select_all name) s
    → s.reply.bytes ≡ flat_map (row_line t.columns t.columns) t.rows ++ line (codes "SELECT " ++ decimal (length t.rows))
selected_all db name s t e a =
    let q : Query = record { columns = None; table = name; condition = None } in
    let k = of_some (table_named db name) (Selects db q s) t e (accepted_does db (select_all name) s a) in
    ap (λ (x : Stepped). x.reply.bytes) k.2 ∙ whole t k.0 k.1

pub deleted : (db : Database) (name : List ℕ) (tree : Option Tree) (s : Stepped) (t : Table) → Accepts db (Delete name tree) s → table_named db name ≡ Some t
    → (condition : Option Bound) × (rows : List Row) × BindsWhere t.columns tree condition × (table_named s.database name ≡ Some (record t { rows = rows }))
    × ((row : Row) → IsIn row rows ↔ (IsIn row t.rows × (selects condition row.fields ≡ false)))
deleted db name tree s t a e =
    let k = of_some (table_named db name) (Deletes db tree s) t e (accepted_does db (Delete name tree) s a) in
    let rows : List Row = others k.0 t in
    let p : Row → Bool = λ row. not (selects k.0 row.fields) in (
      k.0,
      rows,
      k.1,
      ap (λ (x : Stepped). table_named x.database name) k.2 ∙ table_after db name t (record t { rows = rows }) e refl,
      λ row. (
        λ i. (let m = kept p t.rows row i in (m.0, not_true (selects k.0 row.fields) m.1)),
        λ i. stays p t.rows row i.0 (not_false (selects k.0 row.fields) i.1),
      ),
    )
