-- What tokens say as a statement is read of them.
use Rattle.std.proofs.Common.{◌≡◌, ℕ, ◌+◌, Bool, true, false, cond, List, [], ◌∷◌, ◌++◌, map, codes, Option, Some, None, refl, ◌∙◌, ap, append_assoc, arith}
use Rattle.std.specs.Option.{option_map}
use Rattle.gx_lexer.specs.declared.token.Token.{Token}
use Rattle.gx_lexer.specs.declared.token.Token.TheVariants as token
use Rattle.gx_parse.specs.declared.statement.ColumnWord.{ColumnWord}
use Rattle.gx_parse.specs.declared.statement.Given as statement
use Rattle.gx_parse.specs.declared.statement.Parameter.{Parameter}
use Rattle.gx_parse.specs.declared.given.GivenReader.{GivenReader}
use Rattle.gx_parse.specs.declared.given.TypeReader.{TypeReader}
use Rattle.gx_parse.specs.declared.given.TypeReader.TheVariants as kind
use Rattle.gx_parse.specs.declared.index.IndexNames.{IndexNames}
use Rattle.gx_parse.specs.declared.index.IndexReader.TheVariants as index
use Rattle.gx_parse.specs.declared.index.IndexTail.TheVariants as index_tail
use Rattle.gx_parse.specs.declared.insert.InsertParts.{InsertParts}
use Rattle.gx_parse.specs.declared.insert.InsertReader.TheVariants as insert
use Rattle.gx_parse.specs.declared.query.QueryReader.TheVariants as query
use Rattle.gx_parse.specs.declared.query.Task as tasks
use Rattle.gx_parse.specs.declared.query.Task.TheVariants as task
use Rattle.gx_parse.specs.declared.reader.Head.{Head}
use Rattle.gx_parse.specs.declared.reader.Head.TheVariants as head
use Rattle.gx_parse.specs.declared.outcome.Outcome.{Outcome}
use Rattle.gx_parse.specs.declared.outcome.Outcome.TheVariants.{Goes}
use Rattle.gx_parse.specs.declared.table.TableReader.TheVariants as table
use Rattle.gx_parse.specs.Grammar.{word, IsName, AreNames, Phrase, given_then, given_by, cast_then, literal_of, column_then, more_columns, columns_then, AreColumns, HasOne, more_names, names_then, list_then, AreListed, select_then, more_givens, row_then, more_rows, rows_then, HaveOne, class_then, HasClass, IsWhere, joins, Says}
use Rattle.gx_parse.specs.Inserts.{given_on, ends}
use Rattle.gx_parse.specs.Outcomes.{Limits, outcome_map, went}
use Rattle.gx_parse.specs.Queries.{task as task_by}
use Rattle.gx_parse.specs.Said.{Said, Nothing, CreateTable, DropTable, CreateIndex, DropIndex, Insert, Delete, Select, Explain, Vacuum, Checkpoint, Begin, Commit, Rollback}
use Rattle.gx_parse.specs.States.{State, before, state_after, queried}
use Rattle.gx_parse.specs.Tables.{typed_on}
use Rattle.gx_parse.specs.Trees.{Tree}
use Rattle.gx_parse.proofs.TokenFacts.{name_again}
use Rattle.gx_parse.specs.Runs.{accept, then}
use Rattle.gx_parse.proofs.RunFacts.{step}
use Rattle.gx_parse.proofs.CompleteFacts.{kind_as, kind_run, first_of, behind_first, opened_by, bare_parts, bare_begins, ended_by, given_run, given_is, given_stops, stops, reads}

abbrev in_outcome : Option Head → Outcome State
in_outcome o = outcome_map before (went o)

-- CREATE TABLE

abbrev typed : List ℕ → List ColumnWord → List ℕ → TypeReader → State
typed n cs c k = before (head.Table (table.Typed n cs c k))

abbrev column : List ℕ → List ℕ → Bool → ColumnWord
column c w b = record { name = c; kind = record { word = w; list = b } }

column_run : (lim : Limits) (n : List ℕ) (cs : List ColumnWord) (c w : List ℕ) (b : Bool) (rest : List Token) → IsName c
    → accept lim (before (head.Table (table.Next n cs))) (column_then (column c w b) rest) ≡ accept lim (typed n cs c (kind_as b w)) rest
column_run lim n cs c w b rest h =
    step lim (before (head.Table (table.Next n cs))) (before (head.Table (table.Column n cs c))) (word c) (word w ∷ cond b (token.OpenBracket ∷ token.CloseBracket ∷ rest) rest)
    (ap (λ (o : Option (List ℕ)). in_outcome (option_map head.Table (option_map (λ x. table.Column n cs x) o))) (name_again c h))
    ∙ step lim (before (head.Table (table.Column n cs c))) (typed n cs c (kind.Word w)) (word w) (cond b (token.OpenBracket ∷ token.CloseBracket ∷ rest) rest) refl
    ∙ kind_run lim (λ k. typed n cs c k) (λ k m t e. ap (λ (o : Option TypeReader). in_outcome (option_map head.Table (typed_on n cs c k t o))) e) b w rest

last_column : (lim : Limits) (n : List ℕ) (cs : List ColumnWord) (c w : List ℕ) (b : Bool) → accept lim (typed n cs c (kind_as b w)) (token.Close ∷ []) ≡ Some (CreateTable n (cs ++ column c w b ∷ []))
last_column lim n cs c w true = refl
last_column lim n cs c w false = refl

next_column : (lim : Limits) (n : List ℕ) (cs : List ColumnWord) (c w : List ℕ) (b : Bool) (rest : List Token)
    → accept lim (typed n cs c (kind_as b w)) (token.Comma ∷ rest) ≡ accept lim (before (head.Table (table.Next n (cs ++ column c w b ∷ [])))) rest
next_column lim n cs c w true rest = refl
next_column lim n cs c w false rest = refl

columns_run : (lim : Limits) (n : List ℕ) (done : List ColumnWord) (c : ColumnWord) (cs : List ColumnWord) → IsName c.name → AreColumns cs
    → accept lim (before (head.Table (table.Next n done))) (column_then c (more_columns cs (token.Close ∷ []))) ≡ Some (CreateTable n (done ++ c ∷ cs))
columns_run lim n done c [] h a = column_run lim n done c.name c.kind.word c.kind.list (token.Close ∷ []) h ∙ last_column lim n done c.name c.kind.word c.kind.list
columns_run lim n done c (x ∷ cs) h a =
    column_run lim n done c.name c.kind.word c.kind.list (token.Comma ∷ column_then x (more_columns cs (token.Close ∷ []))) h
    ∙ next_column lim n done c.name c.kind.word c.kind.list (column_then x (more_columns cs (token.Close ∷ [])))
    ∙ columns_run lim n (done ++ c ∷ []) x cs a.0 a.1
    ∙ ap (λ (xs : List ColumnWord). Some (CreateTable n xs)) (append_assoc done (c ∷ []) (x ∷ cs))

table_run : (lim : Limits) (n : List ℕ) (cs : List ColumnWord) → HasOne cs → AreColumns cs
    → accept lim (before (head.Table (table.Next n []))) (columns_then cs (token.Close ∷ [])) ≡ Some (CreateTable n cs)
table_run lim n [] h a = absurd h
table_run lim n (c ∷ cs) h a = columns_run lim n [] c cs a.0 a.1

-- names with commas between them, by what comes before one and behind one
names_run : (lim : Limits) (N L : List (List ℕ) → State) → ((ns : List (List ℕ)) (n : List ℕ) → IsName n → state_after lim (N ns) (word n) ≡ Goes (L (ns ++ n ∷ [])))
    → ((ns : List (List ℕ)) → state_after lim (L ns) token.Comma ≡ Goes (N ns)) → (done : List (List ℕ)) (n : List ℕ) (ns : List (List ℕ)) (rest : List Token) → IsName n → AreNames ns
    → accept lim (N done) (word n ∷ more_names ns rest) ≡ accept lim (L (done ++ n ∷ ns)) rest
names_run lim N L f g done n [] rest h a = step lim (N done) (L (done ++ n ∷ [])) (word n) rest (f done n h)
names_run lim N L f g done n (m ∷ ns) rest h a =
    step lim (N done) (L (done ++ n ∷ [])) (word n) (token.Comma ∷ word m ∷ more_names ns rest) (f done n h)
    ∙ step lim (L (done ++ n ∷ [])) (N (done ++ n ∷ [])) token.Comma (word m ∷ more_names ns rest) (g (done ++ n ∷ []))
    ∙ names_run lim N L f g (done ++ n ∷ []) m ns rest a.0 a.1
    ∙ ap (λ (xs : List (List ℕ)). accept lim (L xs) rest) (append_assoc done (n ∷ []) (m ∷ ns))

all_names : (lim : Limits) (N L : List (List ℕ) → State) → ((ns : List (List ℕ)) (n : List ℕ) → IsName n → state_after lim (N ns) (word n) ≡ Goes (L (ns ++ n ∷ [])))
    → ((ns : List (List ℕ)) → state_after lim (L ns) token.Comma ≡ Goes (N ns)) → (ns : List (List ℕ)) (rest : List Token) → HasOne ns → AreNames ns
    → accept lim (N []) (names_then ns rest) ≡ accept lim (L ns) rest
all_names lim N L f g [] rest h a = absurd h
all_names lim N L f g (n ∷ ns) rest h a = names_run lim N L f g [] n ns rest a.0 a.1

-- INSERT

abbrev value_at : InsertParts → List statement.Given → State
value_at parts row = before (head.Insert (insert.Value parts row))

abbrev given_at : InsertParts → List statement.Given → GivenReader → State
given_at parts row g = before (head.Insert (insert.Given parts row g))

one_given : (lim : Limits) (parts : InsertParts) (row : List statement.Given) (p : Phrase) (rest : List Token)
    → accept lim (value_at parts row) (given_then p rest) ≡ accept lim (given_at parts row (ended_by (literal_of p.bare) p.cast)) rest
one_given lim parts row p rest =
    let more : List Token = behind_first p.bare (cast_then p.cast rest) in
    ap (λ (ts : List Token). accept lim (value_at parts row) ts) (bare_parts p.bare (cast_then p.cast rest))
    ∙ step lim (value_at parts row) (given_at parts row (opened_by p.bare)) (first_of p.bare) more
    (ap (λ (o : Option GivenReader). in_outcome (option_map head.Insert (option_map (λ g. insert.Given parts row g) o))) (bare_begins p.bare))
    ∙ given_run lim (λ g. given_at parts row g) (λ g h t e. ap (λ (o : Option GivenReader). in_outcome (option_map head.Insert (given_on parts row g t o))) e) p rest

given_ends : (lim : Limits) (parts : InsertParts) (row : List statement.Given) (p : Phrase) (t : Token) (rest : List Token) → stops t ≡ true
    → accept lim (given_at parts row (ended_by (literal_of p.bare) p.cast)) (t ∷ rest)
    ≡ then (λ s. accept lim s rest) (in_outcome (option_map head.Insert (ends parts row t (Some (given_by p)))))
given_ends lim parts row p t rest e =
    ap (λ (o : Option GivenReader). then (λ s. accept lim s rest) (in_outcome (option_map head.Insert (given_on parts row (ended_by (literal_of p.bare) p.cast) t o)))) (given_stops (literal_of p.bare) p.cast t e)
    ∙ ap (λ (o : Option statement.Given). then (λ s. accept lim s rest) (in_outcome (option_map head.Insert (ends parts row t o)))) (given_is (literal_of p.bare) p.cast)

abbrev with_row : InsertParts → List statement.Given → InsertParts
with_row parts row = record { table = parts.table; columns = parts.columns; rows = parts.rows ++ row ∷ [] }

givens_run : (lim : Limits) (parts : InsertParts) (row : List statement.Given) (p : Phrase) (ps : List Phrase) (rest : List Token)
    → accept lim (value_at parts row) (given_then p (more_givens ps (token.Close ∷ rest))) ≡ accept lim (before (head.Insert (insert.Closed (with_row parts (row ++ map given_by (p ∷ ps)))))) rest
givens_run lim parts row p [] rest = one_given lim parts row p (token.Close ∷ rest) ∙ given_ends lim parts row p token.Close rest refl
givens_run lim parts row p (q ∷ ps) rest =
    let more : List Token = given_then q (more_givens ps (token.Close ∷ rest)) in
    one_given lim parts row p (token.Comma ∷ more) ∙ given_ends lim parts row p token.Comma more refl
    ∙ givens_run lim parts (row ++ given_by p ∷ []) q ps rest
    ∙ ap (λ (xs : List statement.Given). accept lim (before (head.Insert (insert.Closed (with_row parts xs)))) rest) (append_assoc row (given_by p ∷ []) (map given_by (q ∷ ps)))

row_run : (lim : Limits) (parts : InsertParts) (r : List Phrase) (rest : List Token) → HasOne r
    → accept lim (before (head.Insert (insert.Values parts))) (row_then r rest) ≡ accept lim (before (head.Insert (insert.Closed (with_row parts (map given_by r))))) rest
row_run lim parts [] rest h = absurd h
row_run lim parts (p ∷ ps) rest h = givens_run lim parts [] p ps rest

rows_run : (lim : Limits) (parts : InsertParts) (r : List Phrase) (rs : List (List Phrase)) → HasOne r → HaveOne rs
    → accept lim (before (head.Insert (insert.Values parts))) (row_then r (more_rows rs [])) ≡ Some (Insert parts.table parts.columns (parts.rows ++ map (λ x. map given_by x) (r ∷ rs)))
rows_run lim parts r [] h a = row_run lim parts r [] h
rows_run lim parts r (q ∷ rs) h a =
    row_run lim parts r (token.Comma ∷ row_then q (more_rows rs [])) h
    ∙ rows_run lim (with_row parts (map given_by r)) q rs a.0 a.1
    ∙ ap (λ (xs : List (List statement.Given)). Some (Insert parts.table parts.columns xs)) (append_assoc parts.rows (map given_by r ∷ []) (map (λ x. map given_by x) (q ∷ rs)))

all_rows : (lim : Limits) (n : List ℕ) (columns : Option (List (List ℕ))) (rs : List (List Phrase)) → HasOne rs → HaveOne rs
    → accept lim (before (head.Insert (insert.Values (record { table = n; columns = columns; rows = [] })))) (rows_then rs []) ≡ Some (Insert n columns (map (λ x. map given_by x) rs))
all_rows lim n columns [] h a = absurd h
all_rows lim n columns (r ∷ rs) h a = rows_run lim (record { table = n; columns = columns; rows = [] }) r rs a.0 a.1

list_run : (lim : Limits) (n : List ℕ) (columns : Option (List (List ℕ))) (rest : List Token) → AreListed columns
    → accept lim (before (head.Insert (insert.Named n))) (list_then columns (word (codes "values") ∷ rest))
    ≡ accept lim (before (head.Insert (insert.Values (record { table = n; columns = columns; rows = [] })))) rest
list_run lim n None rest a = refl
list_run lim n (Some ns) rest a =
    all_names lim (λ xs. before (head.Insert (insert.Next n xs))) (λ xs. before (head.Insert (insert.Listed n xs)))
    (λ xs m h. ap (λ (o : Option (List ℕ)). in_outcome (option_map head.Insert (option_map (λ c. insert.Listed n (xs ++ c ∷ [])) o))) (name_again m h))
    (λ xs. refl) ns (token.Close ∷ word (codes "values") ∷ rest) a.0 a.1

-- SELECT, EXPLAIN ANALYZE and DELETE

abbrev named_state : tasks.Task → List ℕ → State
named_state d n = before (head.Query (query.Named d n))

where_run : (lim : Limits) (d : tasks.Task) (n : List ℕ) (c : Option Tree) (end : List Token) → IsWhere lim c end → accept lim (named_state d n) end ≡ Some (queried d n c)
where_run lim d n None end w = ap (λ (ts : List Token). accept lim (named_state d n) ts) w
where_run lim d n (Some t) end w =
    let r = reads lim d n w.0 t w.2 in
    let o = w.3 in
    let j = w.4 in
    let x = r.loosest [] 0 (joins w.0 + 0) [] refl tt (omega arith) refl (omega arith) in
    ap (λ (ts : List Token). accept lim (named_state d n) ts) w.1 ∙ x.2 ∙ ap (λ (y : Option Tree). option_map (λ z. queried d n (Some z)) y) x.1

from_run : (lim : Limits) (d : tasks.Task) (n : List ℕ) (c : Option Tree) (end : List Token) → IsName n → IsWhere lim c end
    → accept lim (before (head.Query (query.Task d))) (word (codes "from") ∷ word n ∷ end) ≡ Some (queried d n c)
from_run lim d n c end h w =
    step lim (before (head.Query (query.From d))) (named_state d n) (word n) end
    (ap (λ (o : Option (List ℕ)). in_outcome (option_map head.Query (option_map (λ x. query.Named d x) o))) (name_again n h))
    ∙ where_run lim d n c end w

abbrev task_of : Bool → Option (List (List ℕ)) → tasks.Task
task_of x columns = task_by x columns

select_run : (lim : Limits) (x : Bool) (columns : Option (List (List ℕ))) (n : List ℕ) (c : Option Tree) (end : List Token) → AreListed columns → IsName n → IsWhere lim c end
    → accept lim (before (head.Query (query.Select x))) (select_then columns (word (codes "from") ∷ word n ∷ end)) ≡ Some (queried (task_of x columns) n c)
select_run lim x None n c end a h w = from_run lim (task_of x None) n c end h w
select_run lim x (Some []) n c end a h w = absurd a.0
select_run lim x (Some (m ∷ ns)) n c end a h w =
    let N = λ (xs : List (List ℕ)). before (head.Query (query.Next x xs)) in
    let L = λ (xs : List (List ℕ)). before (head.Query (query.Listed x xs)) in
    let law : (xs : List (List ℕ)) (q : List ℕ) → IsName q → state_after lim (N xs) (word q) ≡ Goes (L (xs ++ q ∷ [])) =
    λ xs q i. ap (λ (o : Option (List ℕ)). in_outcome (option_map head.Query (option_map (λ y. query.Listed x (xs ++ y ∷ [])) o))) (name_again q i) in
    names_run lim N L law (λ xs. refl) [] m ns (word (codes "from") ∷ word n ∷ end) a.1.0 a.1.1 ∙ from_run lim (task_of x (Some (m ∷ ns))) n c end h w

-- CREATE INDEX

class_run : (lim : Limits) (n : IndexNames) (class : Option (List ℕ)) (p : Option Parameter) → HasClass class p
    → accept lim (before (head.Index (index.Tail n index_tail.Column))) (class_then class p (token.Close ∷ [])) ≡ Some (CreateIndex n.name n.table n.method n.column class p)
class_run lim n None None h = refl
class_run lim n None (Some p) h = absurd h
class_run lim n (Some c) None h = refl
class_run lim n (Some c) (Some p) h = refl

index_run : (lim : Limits) (n t m c : List ℕ) (class : Option (List ℕ)) (p : Option Parameter) → IsName n → IsName t → IsName c → HasClass class p
    → accept lim (before head.Start) (word (codes "create") ∷ word (codes "index") ∷ word n ∷ word (codes "on") ∷ word t ∷ word (codes "using") ∷ word m ∷ token.Open ∷ word c ∷ class_then class p (token.Close ∷ []))
    ≡ Some (CreateIndex n t m c class p)
index_run lim n t m c class p a b d e =
    rw (name_again n a, name_again t b, name_again c d) (class_run lim (record { name = n; table = t; method = m; column = c }) class p e)

pub complete : (lim : Limits) (ts : List Token) (x : Said) → Says lim ts x → accept lim (before head.Start) ts ≡ Some x
complete lim ts Nothing s = rw s refl
complete lim ts (CreateTable n cs) s = rw (s.3, name_again n s.0) (table_run lim n cs s.1 s.2)
complete lim ts (DropTable n) s = rw (s.1, name_again n s.0) refl
complete lim ts (CreateIndex n t m c class p) s = rw (s.4) (index_run lim n t m c class p s.0 s.1 s.2 s.3)
complete lim ts (DropIndex n) s = rw (s.1, name_again n s.0) refl
complete lim ts (Insert n columns rows) s =
    rw (s.6, s.5, name_again n s.1) (list_run lim n columns (rows_then s.0 []) s.2 ∙ all_rows lim n columns s.0 s.3 s.4)
complete lim ts (Delete n c) s = rw (s.3) (from_run lim task.Delete n c s.0 s.1 s.2)
complete lim ts (Select q) s = rw (s.4) (select_run lim false q.columns q.table q.condition s.0 s.2 s.1 s.3)
complete lim ts (Explain q) s = rw (s.2, s.1.4) (select_run lim true q.columns q.table q.condition s.1.0 s.1.2 s.1.1 s.1.3)
complete lim ts (Vacuum n) s = rw (s.1, name_again n s.0) refl
complete lim ts Checkpoint s = rw s refl
complete lim ts Begin s = rw s refl
complete lim ts Commit s = rw s refl
complete lim ts Rollback s = rw s refl
