-- CREATE TABLE, token by token.
use Rattle.std.specs.Prelude.{ℕ, if◌then◌else◌, List, [], ◌∷◌, ◌++◌, Option, Some, None}
use Rattle.std.specs.Option.{option_map}
use Rattle.gx_lexer.specs.declared.token.Token.{Token}
use Rattle.gx_parse.specs.declared.statement.TypeWord.{TypeWord}
use Rattle.gx_parse.specs.declared.statement.ColumnWord.{ColumnWord}
use Rattle.gx_parse.specs.declared.given.TypeReader.{TypeReader}
use Rattle.gx_parse.specs.declared.given.TypeReader.TheVariants as kind
use Rattle.gx_parse.specs.declared.table.TableReader.{TableReader}
use Rattle.gx_parse.specs.declared.table.TableReader.TheVariants.{Begun, Named, Next, Column, Typed, Closed}
use Rattle.gx_parse.specs.Literals.{type_after, type_of}
use Rattle.gx_parse.specs.Words.{is_open, is_close, is_comma, name_in, word_in}

abbrev pub begun : Token → Option TableReader
begun t = option_map (λ table. Named table) (name_in t)

abbrev pub named : List ℕ → Token → Option TableReader
named table t = if is_open t then Some (Next table []) else None

abbrev pub next : List ℕ → List ColumnWord → Token → Option TableReader
next table columns t = option_map (λ column. Column table columns column) (name_in t)

abbrev pub behind_column : List ℕ → List ColumnWord → List ℕ → Token → Option TableReader
behind_column table columns column t = option_map (λ w. Typed table columns column (kind.Word w)) (word_in t)

abbrev pub type_goes_on : List ℕ → List ColumnWord → List ℕ → TypeReader → Token → Option TableReader
type_goes_on table columns column k t = option_map (λ more. Typed table columns column more) (type_after k t)

abbrev pub behind_type : List ℕ → List ColumnWord → Token → Option TableReader
behind_type table columns t = if is_comma t then Some (Next table columns) else (if is_close t then Some (Closed table columns) else None)

abbrev pub type_ends : List ℕ → List ColumnWord → List ℕ → Token → Option TypeWord → Option TableReader
type_ends table columns column t None = None
type_ends table columns column t (Some k) = behind_type table (columns ++ record { name = column; kind = k } ∷ []) t

abbrev pub typed_on : List ℕ → List ColumnWord → List ℕ → TypeReader → Token → Option TypeReader → Option TableReader
typed_on table columns column k t (Some more) = Some (Typed table columns column more)
typed_on table columns column k t None = type_ends table columns column t (type_of k)

abbrev pub typed : List ℕ → List ColumnWord → List ℕ → TypeReader → Token → Option TableReader
typed table columns column k t = typed_on table columns column k t (type_after k t)

abbrev pub table_after : TableReader → Token → Option TableReader
table_after Begun t = begun t
table_after (Named table) t = named table t
table_after (Next table columns) t = next table columns t
table_after (Column table columns column) t = behind_column table columns column t
table_after (Typed table columns column k) t = typed table columns column k t
table_after (Closed table columns) t = None
