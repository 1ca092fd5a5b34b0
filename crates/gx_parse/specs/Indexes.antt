-- CREATE INDEX, token by token.
use Rattle.std.specs.Prelude.{ℕ, if◌then◌else◌, List, Option, Some, None}
use Rattle.std.specs.Option.{option_map}
use Rattle.gx_lexer.specs.declared.token.Token.{Token}
use Rattle.gx_lexer.specs.declared.token.Token.TheVariants as token
use Rattle.gx_parse.specs.declared.statement.Parameter.{Parameter}
use Rattle.gx_parse.specs.declared.index.IndexHead.{IndexHead}
use Rattle.gx_parse.specs.declared.index.IndexHead.TheVariants as head
use Rattle.gx_parse.specs.declared.index.IndexTail.{IndexTail}
use Rattle.gx_parse.specs.declared.index.IndexTail.TheVariants as tail
use Rattle.gx_parse.specs.declared.index.IndexReader.{IndexReader}
use Rattle.gx_parse.specs.declared.index.IndexReader.TheVariants.{Head, Tail}
use Rattle.gx_parse.specs.Words.{is_word, is_open, is_close, is_equal, name_in, word_in, number_in}
use Rattle.std.specs.Prelude.{codes}

abbrev pub on : List ℕ → Token → Option IndexHead
on index t = if is_word (codes "on") t then Some (head.On index) else None

abbrev pub using : List ℕ → List ℕ → Token → Option IndexHead
using index table t = if is_word (codes "using") t then Some (head.Using index table) else None

abbrev pub opened : List ℕ → List ℕ → List ℕ → Token → Option IndexHead
opened index table method t = if is_open t then Some (head.Open index table method) else None

abbrev pub head_after : IndexHead → Token → Option IndexHead
head_after head.Begun t = option_map (λ index. head.Named index) (name_in t)
head_after (head.Named index) t = on index t
head_after (head.On index) t = option_map (λ table. head.Table index table) (name_in t)
head_after (head.Table index table) t = using index table t
head_after (head.Using index table) t = option_map (λ method. head.Method index table method) (word_in t)
head_after (head.Method index table method) t = opened index table method t
head_after (head.Open index table method) t = None

abbrev pub closed : Option (List ℕ) → Option Parameter → Token → Option IndexTail
closed class parameter t = if is_close t then Some (tail.Closed class parameter) else None

abbrev pub behind_column : Token → Option IndexTail
behind_column (token.Word class) = Some (tail.Class class)
behind_column token.Close = Some (tail.Closed None None)
behind_column _ = None

abbrev pub behind_class : List ℕ → Token → Option IndexTail
behind_class class t = if is_open t then Some (tail.Open class) else closed (Some class) None t

abbrev pub equal : List ℕ → List ℕ → Token → Option IndexTail
equal class word t = if is_equal t then Some (tail.Equal class word) else None

abbrev pub given : List ℕ → Parameter → Token → Option IndexTail
given class parameter t = if is_close t then Some (tail.Given class parameter) else None

abbrev pub tail_after : IndexTail → Token → Option IndexTail
tail_after tail.Column t = behind_column t
tail_after (tail.Class class) t = behind_class class t
tail_after (tail.Open class) t = option_map (λ word. tail.Word class word) (word_in t)
tail_after (tail.Word class word) t = equal class word t
tail_after (tail.Equal class word) t = option_map (λ number. tail.Number class (record { word = word; number = number })) (number_in t)
tail_after (tail.Number class parameter) t = given class parameter t
tail_after (tail.Given class parameter) t = closed (Some class) (Some parameter) t
tail_after (tail.Closed class parameter) t = None

abbrev pub column : List ℕ → List ℕ → List ℕ → Token → Option IndexReader
column index table method t =
    option_map (λ column. Tail (record { name = index; table = table; method = method; column = column }) tail.Column) (name_in t)

abbrev pub in_head : IndexHead → Token → Option IndexReader
in_head h t = option_map (λ next. Head next) (head_after h t)

abbrev pub index_after : IndexReader → Token → Option IndexReader
index_after (Head (head.Open index table method)) t = column index table method t
index_after (Head h) t = in_head h t
index_after (Tail names behind) t = option_map (λ next. Tail names next) (tail_after behind t)
