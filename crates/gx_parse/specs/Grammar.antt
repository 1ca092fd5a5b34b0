-- The grammar: which tokens say a statement. What ends in `_then` is the tokens of a part, and others behind it.
--     CREATE TABLE name ( name type {, name type} )
--     DROP TABLE name
--     CREATE INDEX name ON name USING word ( name [class [( word = number )]] )
--     DROP INDEX name
--     INSERT INTO name [( name {, name} )] VALUES row {, row}
--     DELETE FROM name [WHERE cond]
--     SELECT * | name {, name} FROM name [WHERE cond]
--     EXPLAIN ANALYZE select
--     VACUUM name, CHECKPOINT, BEGIN, COMMIT, ROLLBACK
use Rattle.std.specs.Prelude.{◌≡◌, ℕ, ◌+◌, ◌≤◌, suc, Bool, true, false, max, if◌then◌else◌, List, [], ◌∷◌, ◌++◌, map, codes, Option, Some, None}
use Rattle.gx_lexer.specs.declared.token.Token.{Token}
use Rattle.gx_lexer.specs.declared.token.Token.TheVariants as token
use Rattle.gx_value.specs.declared.literal.Form.TheVariants as form
use Rattle.gx_value.specs.declared.literal.Literal.{Literal}
use Rattle.gx_value.specs.declared.operators.Operator.{Operator}
use Rattle.gx_parse.specs.declared.statement.ColumnWord.{ColumnWord}
use Rattle.gx_parse.specs.declared.statement.Given.{Given}
use Rattle.gx_parse.specs.declared.statement.Parameter.{Parameter}
use Rattle.gx_parse.specs.declared.statement.TypeWord.{TypeWord}
use Rattle.gx_parse.specs.Outcomes.{Limits}
use Rattle.gx_parse.specs.Said.{Said, Query, Nothing, CreateTable, DropTable, CreateIndex, DropIndex, Insert, Delete, Select, Explain, Vacuum, Checkpoint, Begin, Commit, Rollback}
use Rattle.gx_parse.specs.Trees as trees
use Rattle.gx_parse.specs.Words.{is_reserved, operator_of}

abbrev pub word : List ℕ → Token
word w = token.Word w

-- a word that can be a name
abbrev pub IsName : List ℕ → Type 0
IsName w = is_reserved w ≡ false

abbrev pub AreNames : List (List ℕ) → Type 0
AreNames [] = Unit {0}
AreNames (n ∷ ns) = IsName n × AreNames ns

-- type = word [ [ ] ]
abbrev pub type_then : TypeWord → List Token → List Token
type_then w rest = word w.word ∷ (if w.list then token.OpenBracket ∷ token.CloseBracket ∷ rest else rest)

-- item = text | number
pub data Item : Type 0 where
  text : List ℕ → Item
  number : List ℕ → Item

abbrev pub item_token : Item → Token
item_token (text t) = token.Text t
item_token (number n) = token.Number n

abbrev pub item_text : Item → List ℕ
item_text (text t) = t
item_text (number n) = n

-- {, item}
abbrev pub more_items : List Item → List Token → List Token
more_items [] rest = rest
more_items (i ∷ is) rest = token.Comma ∷ item_token i ∷ more_items is rest

abbrev pub items_then : List Item → List Token → List Token
items_then [] rest = rest
items_then (i ∷ is) rest = item_token i ∷ more_items is rest

-- literal = (NULL | text | number | ARRAY [ [item {, item}] ]) [:: type]
pub data Bare : Type 0 where
  null : Bare
  one : Item → Bare
  list : List Item → Bare

pub record Phrase : Type 0 where
  pub bare : Bare
  pub cast : Option TypeWord

abbrev pub bare_then : Bare → List Token → List Token
bare_then null rest = word (codes "null") ∷ rest
bare_then (one i) rest = item_token i ∷ rest
bare_then (list is) rest = word (codes "array") ∷ token.OpenBracket ∷ items_then is (token.CloseBracket ∷ rest)

abbrev pub cast_then : Option TypeWord → List Token → List Token
cast_then None rest = rest
cast_then (Some w) rest = token.Cast ∷ type_then w rest

abbrev pub given_then : Phrase → List Token → List Token
given_then p rest = bare_then p.bare (cast_then p.cast rest)

abbrev pub literal_of : Bare → Literal
literal_of null = record { form = form.Null; texts = [] }
literal_of (one (text t)) = record { form = form.Text; texts = t ∷ [] }
literal_of (one (number n)) = record { form = form.Number; texts = n ∷ [] }
literal_of (list is) = record { form = form.List; texts = map item_text is }

abbrev pub given_by : Phrase → Given
given_by p = record { literal = literal_of p.bare; cast = p.cast }

-- A condition as it is written.
--     cond = conj {OR conj}     conj = neg {AND neg}     neg = NOT neg | prim
--     prim = ( cond ) | name operator literal | name IS [NOT] NULL
pub data Cond : Type 0 where
  atom : List ℕ → List ℕ → Phrase → Cond
  is_null : List ℕ → Bool → Cond
  group : Cond → Cond
  negation : Cond → Cond
  conj : Cond → Cond → Cond
  disj : Cond → Cond → Cond

abbrev pub null_then : Bool → List Token → List Token
null_then false rest = word (codes "is") ∷ word (codes "null") ∷ rest
null_then true rest = word (codes "is") ∷ word (codes "not") ∷ word (codes "null") ∷ rest

abbrev pub cond_then : Cond → List Token → List Token
cond_then (atom column sign p) rest = word column ∷ token.Operator sign ∷ given_then p rest
cond_then (is_null column negated) rest = word column ∷ null_then negated rest
cond_then (group c) rest = token.Open ∷ cond_then c (token.Close ∷ rest)
cond_then (negation c) rest = word (codes "not") ∷ cond_then c rest
cond_then (conj c d) rest = cond_then c (word (codes "and") ∷ cond_then d rest)
cond_then (disj c d) rest = cond_then c (word (codes "or") ∷ cond_then d rest)

-- how tightly a condition is bound: 0 for an OR, 1 for an AND, 2 for the others
abbrev pub tightness : Cond → ℕ
tightness (atom column sign p) = 2
tightness (is_null column negated) = 2
tightness (group c) = 2
tightness (negation c) = 2
tightness (conj c d) = 1
tightness (disj c d) = 0

-- The tree that a condition says. Names are names, operators are operators, and what is joined is bound as tightly as the grammar wants it: ANDs and ORs are grouped from the left.
abbrev pub SaysTree : Cond → trees.Tree → Type 0
SaysTree (atom column sign p) t = (op : Operator) × IsName column × (operator_of sign ≡ Some op) × (t ≡ trees.Atom column op (given_by p))
SaysTree (is_null column negated) t = IsName column × (t ≡ trees.IsNull column negated)
SaysTree (group c) t = SaysTree c t
SaysTree (negation c) t = (a : trees.Tree) × SaysTree c a × (2 ≤ tightness c) × (t ≡ trees.Not a)
SaysTree (conj c d) t = (a b : trees.Tree) × SaysTree c a × SaysTree d b × (1 ≤ tightness c) × (2 ≤ tightness d) × (t ≡ trees.And a b)
SaysTree (disj c d) t = (a b : trees.Tree) × SaysTree c a × SaysTree d b × (1 ≤ tightness d) × (t ≡ trees.Or a b)

-- the most parentheses and NOTs that stand open in one another
abbrev pub opens : Cond → ℕ
opens (atom column sign p) = 0
opens (is_null column negated) = 0
opens (group c) = suc (opens c)
opens (negation c) = suc (opens c)
opens (conj c d) = max (opens c) (opens d)
opens (disj c d) = max (opens c) (opens d)

-- the ANDs and ORs
abbrev pub joins : Cond → ℕ
joins (atom column sign p) = 0
joins (is_null column negated) = 0
joins (group c) = joins c
joins (negation c) = joins c
joins (conj c d) = joins c + suc (joins d)
joins (disj c d) = joins c + suc (joins d)

-- [WHERE cond]
abbrev pub IsWhere : Limits → Option trees.Tree → List Token → Type 0
IsWhere lim None tokens = tokens ≡ []
IsWhere lim (Some t) tokens =
    (c : Cond) × (tokens ≡ word (codes "where") ∷ cond_then c []) × SaysTree c t × (opens c ≤ lim.open_most) × (joins c ≤ lim.joins_most)

-- name type
abbrev pub column_then : ColumnWord → List Token → List Token
column_then c rest = word c.name ∷ type_then c.kind rest

abbrev pub more_columns : List ColumnWord → List Token → List Token
more_columns [] rest = rest
more_columns (c ∷ cs) rest = token.Comma ∷ column_then c (more_columns cs rest)

-- name type {, name type}, with these columns
abbrev pub columns_then : List ColumnWord → List Token → List Token
columns_then [] rest = rest
columns_then (c ∷ cs) rest = column_then c (more_columns cs rest)

abbrev pub AreColumns : List ColumnWord → Type 0
AreColumns [] = Unit {0}
AreColumns (c ∷ cs) = IsName c.name × AreColumns cs

-- there is one
abbrev pub HasOne : {A : Type 0} → List A → Type 0
HasOne [] = ⊥
HasOne (x ∷ xs) = Unit {0}

abbrev pub more_names : List (List ℕ) → List Token → List Token
more_names [] rest = rest
more_names (n ∷ ns) rest = token.Comma ∷ word n ∷ more_names ns rest

-- name {, name}
abbrev pub names_then : List (List ℕ) → List Token → List Token
names_then [] rest = rest
names_then (n ∷ ns) rest = word n ∷ more_names ns rest

-- [( name {, name} )]
abbrev pub list_then : Option (List (List ℕ)) → List Token → List Token
list_then None rest = rest
list_then (Some names) rest = token.Open ∷ names_then names (token.Close ∷ rest)

abbrev pub AreListed : Option (List (List ℕ)) → Type 0
AreListed None = Unit {0}
AreListed (Some names) = HasOne names × AreNames names

-- * | name {, name}
abbrev pub select_then : Option (List (List ℕ)) → List Token → List Token
select_then None rest = token.Star ∷ rest
select_then (Some names) rest = names_then names rest

-- row = ( literal {, literal} )
abbrev pub more_givens : List Phrase → List Token → List Token
more_givens [] rest = rest
more_givens (p ∷ ps) rest = token.Comma ∷ given_then p (more_givens ps rest)

abbrev pub givens_then : List Phrase → List Token → List Token
givens_then [] rest = rest
givens_then (p ∷ ps) rest = given_then p (more_givens ps rest)

abbrev pub row_then : List Phrase → List Token → List Token
row_then ps rest = token.Open ∷ givens_then ps (token.Close ∷ rest)

abbrev pub more_rows : List (List Phrase) → List Token → List Token
more_rows [] rest = rest
more_rows (r ∷ rs) rest = token.Comma ∷ row_then r (more_rows rs rest)

-- row {, row}
abbrev pub rows_then : List (List Phrase) → List Token → List Token
rows_then [] rest = rest
rows_then (r ∷ rs) rest = row_then r (more_rows rs rest)

abbrev pub HaveOne : List (List Phrase) → Type 0
HaveOne [] = Unit {0}
HaveOne (r ∷ rs) = HasOne r × HaveOne rs

-- [class [( word = number )]]
abbrev pub class_then : Option (List ℕ) → Option Parameter → List Token → List Token
class_then None p rest = rest
class_then (Some class) None rest = word class ∷ rest
class_then (Some class) (Some p) rest =
    word class ∷ token.Open ∷ word p.word ∷ token.Operator (codes "=") ∷ token.Number p.number ∷ token.Close ∷ rest

-- a parameter stands behind a class
abbrev pub HasClass : Option (List ℕ) → Option Parameter → Type 0
HasClass None (Some p) = ⊥
HasClass class p = Unit {0}

abbrev pub SaysSelect : Limits → List Token → Query → Type 0
SaysSelect lim tokens q =
    (end : List Token) × IsName q.table × AreListed q.columns × IsWhere lim q.condition end
    × (tokens ≡ word (codes "select") ∷ select_then q.columns (word (codes "from") ∷ word q.table ∷ end))

-- The tokens say the statement, and its condition is within these limits.
abbrev pub Says : Limits → List Token → Said → Type 0
Says lim tokens Nothing = tokens ≡ []
Says lim tokens (CreateTable name columns) =
    IsName name × HasOne columns × AreColumns columns
    × (tokens ≡ word (codes "create") ∷ word (codes "table") ∷ word name ∷ token.Open ∷ columns_then columns (token.Close ∷ []))
Says lim tokens (DropTable name) = IsName name × (tokens ≡ word (codes "drop") ∷ word (codes "table") ∷ word name ∷ [])
Says lim tokens (CreateIndex name table method column class parameter) =
    IsName name × IsName table × IsName column × HasClass class parameter
    × (tokens ≡ word (codes "create") ∷ word (codes "index") ∷ word name ∷ word (codes "on") ∷ word table ∷ word (codes "using") ∷ word method
    ∷ token.Open ∷ word column ∷ class_then class parameter (token.Close ∷ []))
Says lim tokens (DropIndex name) = IsName name × (tokens ≡ word (codes "drop") ∷ word (codes "index") ∷ word name ∷ [])
Says lim tokens (Insert table columns rows) =
    (phrases : List (List Phrase)) × IsName table × AreListed columns × HasOne phrases × HaveOne phrases × (rows ≡ map (λ r. map given_by r) phrases)
    × (tokens ≡ word (codes "insert") ∷ word (codes "into") ∷ word table ∷ list_then columns (word (codes "values") ∷ rows_then phrases []))
Says lim tokens (Delete table condition) =
    (end : List Token) × IsName table × IsWhere lim condition end × (tokens ≡ word (codes "delete") ∷ word (codes "from") ∷ word table ∷ end)
Says lim tokens (Select q) = SaysSelect lim tokens q
Says lim tokens (Explain q) = (select : List Token) × SaysSelect lim select q × (tokens ≡ word (codes "explain") ∷ word (codes "analyze") ∷ select)
Says lim tokens (Vacuum table) = IsName table × (tokens ≡ word (codes "vacuum") ∷ word table ∷ [])
Says lim tokens Checkpoint = tokens ≡ word (codes "checkpoint") ∷ []
Says lim tokens Begin = tokens ≡ word (codes "begin") ∷ []
Says lim tokens Commit = tokens ≡ word (codes "commit") ∷ []
Says lim tokens Rollback = tokens ≡ word (codes "rollback") ∷ []

-- some statement goes on with more tokens behind these
abbrev pub Continues : Limits → List Token → Type 0
Continues lim tokens = (more : List Token) × (said : Said) × Says lim (tokens ++ more) said
