-- SELECT, EXPLAIN ANALYZE and DELETE up to their condition, token by token.
use Rattle.std.specs.Prelude.{ℕ, Bool, true, if◌then◌else◌, List, [], ◌∷◌, ◌++◌, codes, Option, Some, None}
use Rattle.std.specs.Option.{option_map}
use Rattle.gx_lexer.specs.declared.token.Token.{Token}
use Rattle.gx_lexer.specs.declared.token.Token.TheVariants as token
use Rattle.gx_parse.specs.declared.query.Task as tasks
use Rattle.gx_parse.specs.declared.query.Task.TheVariants as task_is
use Rattle.gx_parse.specs.declared.query.QueryReader.{QueryReader}
use Rattle.gx_parse.specs.declared.query.QueryReader.TheVariants as query
use Rattle.gx_parse.specs.Words.{is_word, is_comma, name_in}

abbrev pub analyze : Token → Option QueryReader
analyze t = if is_word (codes "analyze") t then Some query.Analyze else None

abbrev pub select : Token → Option QueryReader
select t = if is_word (codes "select") t then Some (query.Select true) else None

abbrev pub task : Bool → Option (List (List ℕ)) → tasks.Task
task explained columns = if explained then task_is.Explain columns else task_is.Select columns

abbrev pub column : Bool → List (List ℕ) → Token → Option QueryReader
column explained columns t = option_map (λ column. query.Listed explained (columns ++ column ∷ [])) (name_in t)

abbrev pub list : Bool → Token → Option QueryReader
list explained token.Star = Some (query.Task (task explained None))
list explained t = column explained [] t

abbrev pub from : tasks.Task → Token → Option QueryReader
from done t = if is_word (codes "from") t then Some (query.From done) else None

abbrev pub behind_column : Bool → List (List ℕ) → Token → Option QueryReader
behind_column explained columns t = if is_comma t then Some (query.Next explained columns) else from (task explained (Some columns)) t

abbrev pub table : tasks.Task → Token → Option QueryReader
table done t = option_map (λ name. query.Named done name) (name_in t)

abbrev pub query_after : QueryReader → Token → Option QueryReader
query_after query.Explain t = analyze t
query_after query.Analyze t = select t
query_after (query.Select explained) t = list explained t
query_after (query.Next explained columns) t = column explained columns t
query_after (query.Listed explained columns) t = behind_column explained columns t
query_after (query.Task done) t = from done t
query_after (query.From done) t = table done t
query_after (query.Named done name) t = None
