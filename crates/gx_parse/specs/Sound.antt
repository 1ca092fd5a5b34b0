-- What every statement that the grammar says has: its literals are literals, and its names are neither empty nor too long.
use Rattle.std.specs.Prelude.{ℕ, ◌<◌, ◌≤◌, List, length, Option, None, Some}
use Rattle.std.specs.List.{AllByRecursion}
use Rattle.gx_value.specs.Literals.{IsLiteral}
use Rattle.gx_parse.specs.declared.statement.ColumnWord.{ColumnWord}
use Rattle.gx_parse.specs.declared.statement.Given.{Given}
use Rattle.gx_parse.specs.Said.{Said, Query, Nothing, CreateTable, DropTable, CreateIndex, DropIndex, Insert, Delete, Select, Explain, Vacuum, Checkpoint, Begin, Commit, Rollback}
use Rattle.gx_parse.specs.Trees.{Tree, And, Or, Not, Atom, IsNull}

-- Literals.

abbrev pub IsGiven : Given → Type 0
IsGiven given = IsLiteral given.literal

-- each literal of a condition is one
abbrev pub TreeHasLiterals : Tree → Type 0
TreeHasLiterals (And a b) = TreeHasLiterals a × TreeHasLiterals b
TreeHasLiterals (Or a b) = TreeHasLiterals a × TreeHasLiterals b
TreeHasLiterals (Not a) = TreeHasLiterals a
TreeHasLiterals (Atom name op given) = IsGiven given
TreeHasLiterals (IsNull name negated) = Unit {0}

abbrev pub WhereHasLiterals : Option Tree → Type 0
WhereHasLiterals None = Unit {0}
WhereHasLiterals (Some t) = TreeHasLiterals t

-- each row of INSERT has literals alone
abbrev pub RowsHaveLiterals : List (List Given) → Type 0
RowsHaveLiterals rows = AllByRecursion (AllByRecursion IsGiven) rows

abbrev pub HasLiterals : Said → Type 0
HasLiterals (Insert table listed rows) = RowsHaveLiterals rows
HasLiterals (Delete table condition) = WhereHasLiterals condition
HasLiterals (Select q) = WhereHasLiterals q.condition
HasLiterals (Explain q) = WhereHasLiterals q.condition
HasLiterals _ = Unit {0}

-- Names.

-- a name has from 1 to 63 bytes
pub record IsName (name : List ℕ) : Type 0 where
  pub some : 0 < length name
  pub most : length name ≤ 63

abbrev pub HasNames : Said → Type 0
HasNames (CreateTable name columns) = IsName name × AllByRecursion (λ (c : ColumnWord). IsName c.name) columns
HasNames (CreateIndex name table method column class parameter) = IsName name
HasNames _ = Unit {0}

-- The statement has literals for its literals, and names for the names that it gives.
pub record IsSound (said : Said) : Type 0 where
  pub literals : HasLiterals said
  pub names : HasNames said
