-- What a statement does to a database.
use Rattle.std.specs.Prelude.{◌≡◌, ◌⊎◌, ℕ, ◌+◌, ◌*◌, not, List, [], ◌∷◌, ◌++◌, length, map, filter, codes, Option, None, Some, option_map, IsSomeAnd}
use Rattle.std.specs.Fmt.{decimal}
use Rattle.std.specs.List.{flat_map, filter_map, AllByRecursion}
use Rattle.gx_value.specs.Values.{Datum}
use Rattle.gx_parse.specs.declared.statement.ColumnWord.{ColumnWord}
use Rattle.gx_parse.specs.declared.statement.Given.{Given}
use Rattle.gx_parse.specs.declared.statement.Parameter.{Parameter}
use Rattle.gx_parse.specs.Said.{Said, Query, Nothing, CreateTable, DropTable, CreateIndex, DropIndex, Insert, Delete, Select, Explain, Vacuum, Checkpoint, Begin, Commit, Rollback}
use Rattle.gx_parse.specs.Trees.{Tree}
use Rattle.gx_model.specs.Checks.{Find}
use Rattle.gx_model.specs.Classes.{class_chosen, parameter_chosen}
use Rattle.gx_model.specs.Conditions.{BindsWhere}
use Rattle.gx_value.specs.declared.fields.Column.{Column}
use Rattle.gx_model.specs.Database.{Database, Table, Row, Index, OfTable, indexes_on, column_named, place_of, with_table, without_table, without_index, with_rows, IsShort}
use Rattle.gx_model.specs.Faults.{checks, type_of}
use Rattle.gx_model.specs.Growth.{pages_each, growth_of_rows, growth_of_index}
use Rattle.gx_model.specs.Plans.{plan_where, plan_text, found, price_where}
use Rattle.gx_model.specs.Replies.{Reply, line, accepted, refusal, row_line}
use Rattle.gx_model.specs.Truth.{Bound, selects}
use Rattle.gx_model.specs.Values.{named, ReadsRows}

-- the database afterwards, the reply, and how many pages the statement may add
pub record Stepped : Type 0 where
  pub database : Database
  pub reply : Reply
  pub growth : ℕ

-- The statement is accepted with this line, and may add so many pages,
abbrev pub grown : Database → List ℕ → ℕ → Stepped
grown db text pages = record { database = db; reply = accepted (line text); growth = pages }

-- or none.
abbrev pub done : Database → List ℕ → Stepped
done db text = grown db text 0

-- The statement changes nothing, and is answered so.
abbrev pub unchanged : Database → Reply → Stepped
unchanged db reply = record { database = db; reply = reply; growth = 0 }

-- CREATE TABLE: a table without rows, behind the others. Its first row will have the number 1.

abbrev pub column_of : ColumnWord → Option Column
column_of c = option_map (λ kind. record { name = c.name; kind = kind }) (type_of c.kind)

abbrev pub new_table : List ℕ → List ColumnWord → Table
new_table name columns = record { name = name; columns = filter_map column_of columns; next = 1; rows = [] }

abbrev pub with_new_table : Database → List ℕ → List ColumnWord → Database
with_new_table db name columns = record db { tables = db.tables ++ new_table name columns ∷ [] }

-- CREATE INDEX: an index behind the others.

pub record IsNewIndex (index : Index) (name table method column : List ℕ) (class : Option (List ℕ)) (parameter : Option Parameter) (t : Table) : Type 0 where
  pub name_is : index.name ≡ name
  pub table_is : index.table ≡ table
  pub column_is : place_of t.columns column ≡ Some index.column
  pub class_is : IsSomeAnd (column_named t.columns column) (λ c. class_chosen c.kind method class ≡ Some index.class)
  pub parameter_is : parameter_chosen index.class parameter ≡ Some index.parameter

abbrev pub Indexes : Database → List ℕ → List ℕ → List ℕ → List ℕ → Option (List ℕ) → Option Parameter → Stepped → Table → Type 0
Indexes db name table method column class parameter stepped t =
    (index : Index) × IsNewIndex index name table method column class parameter t
    × (stepped ≡ grown (record db { indexes = db.indexes ++ index ∷ [] }) (codes "CREATE INDEX") (growth_of_index index (map (λ row. row.fields) t.rows)))

-- INSERT: rows behind the others, with the next numbers.
abbrev pub Inserts : Database → Option (List (List ℕ)) → List (List Given) → Stepped → Table → Type 0
Inserts db listed rows stepped t =
    (added : List (List (Option Datum))) × ReadsRows t.columns (named t.columns listed) rows added
    × (stepped ≡ grown (with_table db t.name (with_rows t added)) (codes "INSERT 0 " ++ decimal (length rows)) (growth_of_rows (indexes_on db t.name) added))

-- the rows of which a condition is true, and the others
abbrev pub selected : Option Bound → Table → List Row
selected condition t = filter (λ row. selects condition row.fields) t.rows

abbrev pub others : Option Bound → Table → List Row
others condition t = filter (λ row. not (selects condition row.fields)) t.rows

-- DELETE: the rows of which the condition is true go.
abbrev pub Deletes : Database → Option Tree → Stepped → Table → Type 0
Deletes db tree stepped t =
    (condition : Option Bound) × BindsWhere t.columns tree condition
    × (stepped ≡ done (with_table db t.name (record t { rows = others condition t })) (codes "DELETE " ++ decimal (length (selected condition t))))

-- SELECT: a line for each row of which the condition is true, in their order, and how many they are.
abbrev pub selection : Table → Option (List (List ℕ)) → List Row → List ℕ
selection t asked rows = flat_map (row_line t.columns (named t.columns asked)) rows ++ line (codes "SELECT " ++ decimal (length rows))

abbrev pub Selects : Database → Query → Stepped → Table → Type 0
Selects db q stepped t =
    (condition : Option Bound) × BindsWhere t.columns q.condition condition
    × (stepped ≡ unchanged db (accepted (selection t q.columns (selected condition t))))

-- EXPLAIN ANALYZE: the plan, how many rows it finds, and of how many of them the condition is true.
abbrev pub explanation : List ℕ → ℕ → ℕ → List ℕ
explanation by candidates rows =
    line (codes "PLAN " ++ by ++ codes " CANDIDATES " ++ decimal candidates ++ codes " ROWS " ++ decimal rows) ++ line (codes "EXPLAIN")

abbrev pub Explains : Database → Query → Stepped → Table → Type 0
Explains db q stepped t =
    (condition : Option Bound) × BindsWhere t.columns q.condition condition
    × (stepped ≡ unchanged db (accepted (explanation (plan_text (plan_where db t condition)) (length (found db t condition)) (length (selected condition t)))))

-- What an accepted statement does. What belongs to a session does nothing to a database.
abbrev pub Does : Database → Said → Stepped → Type 0
Does db Nothing stepped = stepped ≡ unchanged db (accepted [])
Does db (CreateTable name columns) stepped = stepped ≡ grown (with_new_table db name columns) (codes "CREATE TABLE") pages_each
Does db (DropTable name) stepped = stepped ≡ done (without_table db name) (codes "DROP TABLE")
Does db (CreateIndex name table method column class parameter) stepped =
    OfTable db table (Indexes db name table method column class parameter stepped)
Does db (DropIndex name) stepped = stepped ≡ done (without_index db name) (codes "DROP INDEX")
Does db (Insert table listed rows) stepped = OfTable db table (Inserts db listed rows stepped)
Does db (Delete table condition) stepped = OfTable db table (Deletes db condition stepped)
Does db (Select q) stepped = OfTable db q.table (Selects db q stepped)
Does db (Explain q) stepped = OfTable db q.table (Explains db q stepped)
Does db (Vacuum table) stepped = stepped ≡ done db (codes "VACUUM")
Does db Checkpoint stepped = stepped ≡ done db (codes "CHECKPOINT")
Does db Begin stepped = stepped ≡ done db (codes "BEGIN")
Does db Commit stepped = stepped ≡ done db (codes "COMMIT")
Does db Rollback stepped = stepped ≡ done db (codes "ROLLBACK")

-- A statement whose checks find a fault changes nothing and is answered with the fault's line; another does what it says.
abbrev pub Steps : Database → Said → Stepped → Type 0
Steps db said stepped =
    ((n : ℕ) × Find (checks db said) (Some n) × (stepped ≡ unchanged db (refusal n)))
    ⊎ (Find (checks db said) None × Does db said stepped)

-- The most heap pages that an accepted statement fetches.

abbrev pub QueryCosts : Database → Option Tree → ℕ → Table → Type 0
QueryCosts db tree cost t = (condition : Option Bound) × BindsWhere t.columns tree condition × (cost ≡ price_where db t condition)

abbrev pub CostsTwice : Database → Option Tree → ℕ → Table → Type 0
CostsTwice db tree cost t = (once : ℕ) × QueryCosts db tree once t × (cost ≡ 2 * once)

abbrev pub CostsOf : Database → Said → ℕ → Type 0
CostsOf db (DropTable name) cost = OfTable db name (λ t. cost ≡ t.next + 1)
CostsOf db (CreateIndex name table method column class parameter) cost = OfTable db table (λ t. cost ≡ t.next + 1)
CostsOf db (Delete table tree) cost = OfTable db table (CostsTwice db tree cost)
CostsOf db (Select q) cost = OfTable db q.table (QueryCosts db q.condition cost)
CostsOf db (Explain q) cost = OfTable db q.table (QueryCosts db q.condition cost)
CostsOf db (Vacuum name) cost = OfTable db name (λ t. cost ≡ 2 * (t.next + 1))
CostsOf db _ cost = cost ≡ 0

-- A refused statement fetches none, but an INSERT may always fetch one page for each row and one.
abbrev pub Costs : Database → Said → ℕ → Type 0
Costs db (Insert table listed rows) cost = cost ≡ length rows + 1
Costs db said cost = ((n : ℕ) × Find (checks db said) (Some n) × (cost ≡ 0)) ⊎ (Find (checks db said) None × CostsOf db said cost)

-- SELECT * FROM the table of this name
abbrev pub select_all : List ℕ → Said
select_all name = Select (record { columns = None; table = name; condition = None })

-- the statement is accepted, and does this
pub record Accepts (db : Database) (said : Said) (stepped : Stepped) : Type 0 where
  pub steps : Steps db said stepped
  pub accepted : stepped.reply.fault ≡ None

-- the names that the statement gives have at most 63 bytes
abbrev pub HasShortNames : Said → Type 0
HasShortNames (CreateTable name columns) = IsShort name × AllByRecursion IsShort (map (λ c. c.name) columns)
HasShortNames _ = Unit {0}
