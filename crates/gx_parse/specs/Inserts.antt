-- INSERT, token by token.
use Rattle.std.specs.Prelude.{ℕ, if◌then◌else◌, List, [], ◌∷◌, ◌++◌, codes, Option, Some, None}
use Rattle.std.specs.Option.{option_map}
use Rattle.gx_lexer.specs.declared.token.Token.{Token}
use Rattle.gx_parse.specs.declared.statement.Given as statement
use Rattle.gx_parse.specs.declared.given.GivenReader.{GivenReader}
use Rattle.gx_parse.specs.declared.insert.InsertParts.{InsertParts}
use Rattle.gx_parse.specs.declared.insert.InsertReader.{InsertReader}
use Rattle.gx_parse.specs.declared.insert.InsertReader.TheVariants.{Begun, Into, Named, Next, Listed, Columns, Values, Value, Given, Closed}
use Rattle.gx_parse.specs.Literals.{given_from, given_after, given_of}
use Rattle.gx_parse.specs.Words.{is_word, is_open, is_close, is_comma, name_in}

abbrev pub into : Token → Option InsertReader
into t = if is_word (codes "into") t then Some Into else None

abbrev pub table : Token → Option InsertReader
table t = option_map (λ name. Named name) (name_in t)

abbrev pub values : List ℕ → Option (List (List ℕ)) → Token → Option InsertReader
values name columns t = if is_word (codes "values") t then Some (Values (record { table = name; columns = columns; rows = [] })) else None

abbrev pub behind_table : List ℕ → Token → Option InsertReader
behind_table name t = if is_open t then Some (Next name []) else values name None t

abbrev pub column : List ℕ → List (List ℕ) → Token → Option InsertReader
column name columns t = option_map (λ column. Listed name (columns ++ column ∷ [])) (name_in t)

abbrev pub behind_column : List ℕ → List (List ℕ) → Token → Option InsertReader
behind_column name columns t = if is_comma t then Some (Next name columns) else (if is_close t then Some (Columns name columns) else None)

abbrev pub row : InsertParts → Token → Option InsertReader
row parts t = if is_open t then Some (Value parts []) else None

abbrev pub value : InsertParts → List statement.Given → Token → Option InsertReader
value parts row t = option_map (λ given. Given parts row given) (given_from t)

abbrev pub and_row : InsertParts → List statement.Given → InsertParts
and_row parts row = record { table = parts.table; columns = parts.columns; rows = parts.rows ++ row ∷ [] }

abbrev pub behind_value : InsertParts → List statement.Given → Token → Option InsertReader
behind_value parts row t = if is_comma t then Some (Value parts row) else (if is_close t then Some (Closed (and_row parts row)) else None)

-- behind a literal that ends here, or can't
abbrev pub ends : InsertParts → List statement.Given → Token → Option statement.Given → Option InsertReader
ends parts row t None = None
ends parts row t (Some given) = behind_value parts (row ++ given ∷ []) t

abbrev pub given_on : InsertParts → List statement.Given → GivenReader → Token → Option GivenReader → Option InsertReader
given_on parts row given t (Some next) = Some (Given parts row next)
given_on parts row given t None = ends parts row t (given_of given)

abbrev pub goes_on : InsertParts → List statement.Given → GivenReader → Token → Option InsertReader
goes_on parts row given t = given_on parts row given t (given_after given t)

abbrev pub behind_row : InsertParts → Token → Option InsertReader
behind_row parts t = if is_comma t then Some (Values parts) else None

abbrev pub insert_after : InsertReader → Token → Option InsertReader
insert_after Begun t = into t
insert_after Into t = table t
insert_after (Named name) t = behind_table name t
insert_after (Next name columns) t = column name columns t
insert_after (Listed name columns) t = behind_column name columns t
insert_after (Columns name columns) t = values name (Some columns) t
insert_after (Values parts) t = row parts t
insert_after (Value parts row) t = value parts row t
insert_after (Given parts row given) t = goes_on parts row given t
insert_after (Closed parts) t = behind_row parts t
