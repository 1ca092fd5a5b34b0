-- Statements, token by token.
use Rattle.std.specs.Prelude.{ℕ, false, if◌then◌else◌, List, codes, Option, Some, None}
use Rattle.std.specs.Str.{bytes_eq}
use Rattle.std.specs.Option.{option_map}
use Rattle.gx_lexer.specs.declared.token.Token.{Token}
use Rattle.gx_lexer.specs.declared.token.Token.TheVariants as token
use Rattle.gx_parse.specs.declared.statement.Parameter.{Parameter}
use Rattle.gx_parse.specs.declared.index.IndexHead.TheVariants as index_head
use Rattle.gx_parse.specs.declared.index.IndexNames.{IndexNames}
use Rattle.gx_parse.specs.declared.index.IndexReader.{IndexReader}
use Rattle.gx_parse.specs.declared.index.IndexReader.TheVariants as index
use Rattle.gx_parse.specs.declared.index.IndexTail.{IndexTail}
use Rattle.gx_parse.specs.declared.index.IndexTail.TheVariants as index_tail
use Rattle.gx_parse.specs.declared.insert.InsertParts.{InsertParts}
use Rattle.gx_parse.specs.declared.insert.InsertReader.{InsertReader}
use Rattle.gx_parse.specs.declared.insert.InsertReader.TheVariants as insert
use Rattle.gx_parse.specs.declared.outcome.Outcome.{Outcome}
use Rattle.gx_parse.specs.declared.outcome.Outcome.TheVariants.{Goes, Wrong}
use Rattle.gx_parse.specs.declared.query.QueryReader.{QueryReader}
use Rattle.gx_parse.specs.declared.query.QueryReader.TheVariants as query
use Rattle.gx_parse.specs.declared.query.Task as tasks
use Rattle.gx_parse.specs.declared.query.Task.TheVariants as task
use Rattle.gx_parse.specs.declared.reader.Head.{Head}
use Rattle.gx_parse.specs.declared.reader.Head.TheVariants as head
use Rattle.gx_parse.specs.declared.reader.Reader.{Reader}
use Rattle.gx_parse.specs.declared.reader.Reader.TheVariants as reader
use Rattle.gx_parse.specs.declared.reader.Verb as verbs
use Rattle.gx_parse.specs.declared.reader.Verb.TheVariants as verb
use Rattle.gx_parse.specs.declared.reader.Word as words
use Rattle.gx_parse.specs.declared.reader.Word.TheVariants as word
use Rattle.gx_parse.specs.declared.table.TableReader.{TableReader}
use Rattle.gx_parse.specs.declared.table.TableReader.TheVariants as table
use Rattle.gx_parse.specs.Conditions.{Standing, standing_of, begun, condition_after, condition_of}
use Rattle.gx_parse.specs.Indexes.{index_after}
use Rattle.gx_parse.specs.Inserts.{insert_after}
use Rattle.gx_parse.specs.Outcomes.{Limits, outcome_map, went}
use Rattle.gx_parse.specs.Queries.{query_after}
use Rattle.gx_parse.specs.Said.{Said, Nothing, CreateTable, DropTable, CreateIndex, DropIndex, Insert, Delete, Select, Explain, Vacuum, Checkpoint, Begin, Commit, Rollback}
use Rattle.gx_parse.specs.Tables.{table_after}
use Rattle.gx_parse.specs.Trees.{Tree}
use Rattle.gx_parse.specs.Words.{is_word, name_in}

-- a statement as far as it is read: up to its condition, or within it
pub data State : Type 0 where
  before : Head → State
  within : tasks.Task → List ℕ → Standing → State

abbrev pub state_of : Reader → State
state_of (reader.Head h) = before h
state_of (reader.Where done table c) = within done table (standing_of c)

abbrev pub started_alone : List ℕ → Option Head
started_alone w =
    if bytes_eq w (codes "vacuum") then Some (head.Verb verb.Vacuum)
    else (if bytes_eq w (codes "checkpoint") then Some (head.Word word.Checkpoint)
    else (if bytes_eq w (codes "begin") then Some (head.Word word.Begin)
    else (if bytes_eq w (codes "commit") then Some (head.Word word.Commit)
    else (if bytes_eq w (codes "rollback") then Some (head.Word word.Rollback)
    else None))))

abbrev pub started_by : List ℕ → Option Head
started_by w =
    if bytes_eq w (codes "create") then Some head.Create
    else (if bytes_eq w (codes "drop") then Some head.Drop
    else (if bytes_eq w (codes "insert") then Some (head.Insert insert.Begun)
    else (if bytes_eq w (codes "delete") then Some (head.Query (query.Task task.Delete))
    else (if bytes_eq w (codes "select") then Some (head.Query (query.Select false))
    else (if bytes_eq w (codes "explain") then Some (head.Query query.Explain)
    else started_alone w)))))

abbrev pub started : Token → Option Head
started (token.Word w) = started_by w
started _ = None

abbrev pub created : Token → Option Head
created t =
    if is_word (codes "table") t then Some (head.Table table.Begun)
    else (if is_word (codes "index") t then Some (head.Index (index.Head index_head.Begun)) else None)

abbrev pub dropped : Token → Option Head
dropped t =
    if is_word (codes "table") t then Some (head.Verb verb.DropTable)
    else (if is_word (codes "index") t then Some (head.Verb verb.DropIndex) else None)

abbrev pub named : verbs.Verb → Token → Option Head
named v t = option_map (λ name. head.Named v name) (name_in t)

abbrev pub head_after : Head → Token → Option Head
head_after head.Start t = started t
head_after head.Create t = created t
head_after head.Drop t = dropped t
head_after (head.Word w) t = None
head_after (head.Verb v) t = named v t
head_after (head.Named v name) t = None
head_after (head.Table r) t = option_map head.Table (table_after r t)
head_after (head.Index r) t = option_map head.Index (index_after r t)
head_after (head.Insert r) t = option_map head.Insert (insert_after r t)
head_after (head.Query r) t = option_map head.Query (query_after r t)

abbrev pub where_after : tasks.Task → List ℕ → Token → Outcome State
where_after done name t = if is_word (codes "where") t then Goes (within done name begun) else Wrong

abbrev pub in_head : Head → Token → Outcome State
in_head h t = outcome_map before (went (head_after h t))

abbrev pub in_condition : Limits → tasks.Task → List ℕ → Standing → Token → Outcome State
in_condition lim done name s t = outcome_map (λ next. within done name next) (condition_after lim s t)

abbrev pub state_after : Limits → State → Token → Outcome State
state_after lim (before (head.Query (query.Named done name))) t = where_after done name t
state_after lim (before h) t = in_head h t
state_after lim (within done name s) t = in_condition lim done name s t

-- What a statement says that ends here, or nothing where it can't.

abbrev pub alone : words.Word → Said
alone word.Checkpoint = Checkpoint
alone word.Begin = Begin
alone word.Commit = Commit
alone word.Rollback = Rollback

abbrev pub about : verbs.Verb → List ℕ → Said
about verb.DropTable name = DropTable name
about verb.DropIndex name = DropIndex name
about verb.Vacuum name = Vacuum name

abbrev pub indexed : IndexNames → Option (List ℕ) → Option Parameter → Said
indexed names class parameter = CreateIndex names.name names.table names.method names.column class parameter

abbrev pub inserted : InsertParts → Said
inserted parts = Insert parts.table parts.columns parts.rows

abbrev pub queried : tasks.Task → List ℕ → Option Tree → Said
queried task.Delete name c = Delete name c
queried (task.Select columns) name c = Select (record { columns = columns; table = name; condition = c })
queried (task.Explain columns) name c = Explain (record { columns = columns; table = name; condition = c })

abbrev pub table_said : TableReader → Option Said
table_said (table.Closed name columns) = Some (CreateTable name columns)
table_said _ = None

abbrev pub tail_said : IndexNames → IndexTail → Option Said
tail_said names (index_tail.Closed class parameter) = Some (indexed names class parameter)
tail_said names _ = None

abbrev pub index_said : IndexReader → Option Said
index_said (index.Head h) = None
index_said (index.Tail names b) = tail_said names b

abbrev pub insert_said : InsertReader → Option Said
insert_said (insert.Closed parts) = Some (inserted parts)
insert_said _ = None

abbrev pub query_said : QueryReader → Option Said
query_said (query.Named done name) = Some (queried done name None)
query_said _ = None

abbrev pub said_by : Head → Option Said
said_by head.Start = Some Nothing
said_by (head.Word w) = Some (alone w)
said_by (head.Named v name) = Some (about v name)
said_by (head.Table r) = table_said r
said_by (head.Index r) = index_said r
said_by (head.Insert r) = insert_said r
said_by (head.Query r) = query_said r
said_by _ = None

abbrev pub said_at : State → Option Said
said_at (before h) = said_by h
said_at (within done name s) = option_map (λ c. queried done name (Some c)) (condition_of s)
