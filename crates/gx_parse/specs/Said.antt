-- Statements as trees: what a statement says, without boxes.
use Rattle.std.specs.Prelude.{ℕ, List, Option}
use Rattle.std.specs.Option.{option_map}
use Rattle.gx_parse.specs.declared.statement.ColumnWord.{ColumnWord}
use Rattle.gx_parse.specs.declared.statement.Given.{Given}
use Rattle.gx_parse.specs.declared.statement.Parameter.{Parameter}
use Rattle.gx_parse.specs.declared.statement.Select as code
use Rattle.gx_parse.specs.declared.statement.Statement.{Statement}
use Rattle.gx_parse.specs.declared.statement.Statement.TheVariants as statement
use Rattle.gx_parse.specs.Trees.{Tree, tree_of}

-- a SELECT; no columns stand for `*`
pub record Query : Type 0 where
  pub columns : Option (List (List ℕ))
  pub table : List ℕ
  pub condition : Option Tree

pub data Said : Type 0 where
  Nothing : Said
  -- the name, and the columns
  CreateTable : List ℕ → List ColumnWord → Said
  DropTable : List ℕ → Said
  -- the name, the table, the method, the column, the class and its parameter
  CreateIndex : List ℕ → List ℕ → List ℕ → List ℕ → Option (List ℕ) → Option Parameter → Said
  DropIndex : List ℕ → Said
  -- the table, the columns and the rows
  Insert : List ℕ → Option (List (List ℕ)) → List (List Given) → Said
  Delete : List ℕ → Option Tree → Said
  Select : Query → Said
  Explain : Query → Said
  Vacuum : List ℕ → Said
  Checkpoint : Said
  Begin : Said
  Commit : Said
  Rollback : Said

abbrev pub query_of : code.Select → Query
query_of s = record { columns = s.columns; table = s.table; condition = option_map tree_of s.condition }

abbrev pub said_of : Statement → Said
said_of statement.Nothing = Nothing
said_of (statement.CreateTable name columns) = CreateTable name columns
said_of (statement.DropTable name) = DropTable name
said_of (statement.CreateIndex name table method column class parameter) = CreateIndex name table method column class parameter
said_of (statement.DropIndex name) = DropIndex name
said_of (statement.Insert table columns rows) = Insert table columns rows
said_of (statement.Delete table condition) = Delete table (option_map tree_of condition)
said_of (statement.Select s) = Select (query_of s)
said_of (statement.Explain s) = Explain (query_of s)
said_of (statement.Vacuum table) = Vacuum table
said_of statement.Checkpoint = Checkpoint
said_of statement.Begin = Begin
said_of statement.Commit = Commit
said_of statement.Rollback = Rollback
