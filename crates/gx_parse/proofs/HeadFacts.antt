-- What a statement is made of before its condition, as far as it is read.
use Rattle.std.proofs.Common.{◌≡◌, ◌⊎◌, inl, inr, ℕ, Bool, true, false, cond, List, [], ◌∷◌, ◌++◌, map, codes, Option, Some, None, refl, sym, ◌∙◌, ap, subst}
use Rattle.std.specs.Option.{option_map}
use Rattle.gx_lexer.specs.declared.token.Token.{Token}
use Rattle.gx_lexer.specs.declared.token.Token.TheVariants as token
use Rattle.gx_parse.specs.declared.statement.ColumnWord.{ColumnWord}
use Rattle.gx_parse.specs.declared.statement.Given as statement
use Rattle.gx_parse.specs.declared.statement.TypeWord.{TypeWord}
use Rattle.gx_parse.specs.declared.given.GivenReader.{GivenReader}
use Rattle.gx_parse.specs.declared.given.TypeReader.{TypeReader}
use Rattle.gx_parse.specs.declared.given.TypeReader.TheVariants as kind
use Rattle.gx_parse.specs.declared.index.IndexHead.{IndexHead}
use Rattle.gx_parse.specs.declared.index.IndexHead.TheVariants as head
use Rattle.gx_parse.specs.declared.index.IndexNames.{IndexNames}
use Rattle.gx_parse.specs.declared.index.IndexReader.{IndexReader}
use Rattle.gx_parse.specs.declared.index.IndexReader.TheVariants as index
use Rattle.gx_parse.specs.declared.index.IndexTail.{IndexTail}
use Rattle.gx_parse.specs.declared.index.IndexTail.TheVariants as tail
use Rattle.gx_parse.specs.declared.insert.InsertParts.{InsertParts}
use Rattle.gx_parse.specs.declared.insert.InsertReader.{InsertReader}
use Rattle.gx_parse.specs.declared.insert.InsertReader.TheVariants as insert
use Rattle.gx_parse.specs.declared.query.QueryReader.{QueryReader}
use Rattle.gx_parse.specs.declared.query.QueryReader.TheVariants as query
use Rattle.gx_parse.specs.declared.query.Task as tasks
use Rattle.gx_parse.specs.declared.query.Task.TheVariants as task_is
use Rattle.gx_parse.specs.declared.table.TableReader.{TableReader}
use Rattle.gx_parse.specs.declared.table.TableReader.TheVariants as table
use Rattle.gx_parse.specs.Grammar.{word, IsName, AreNames, Phrase, given_then, given_by, column_then, more_columns, columns_then, AreColumns, HasOne, more_names, names_then, list_then, AreListed, select_then, more_givens, givens_then, row_then, more_rows, rows_then, HaveOne, class_then, HasClass}
use Rattle.gx_parse.specs.Indexes.{index_after, head_after, tail_after}
use Rattle.gx_parse.specs.Inserts.{insert_after, given_on, ends, behind_value}
use Rattle.gx_parse.specs.Literals.{type_after, type_of, given_from, given_after, given_of}
use Rattle.gx_parse.specs.Queries.{query_after, task}
use Rattle.gx_parse.specs.Tables.{table_after, typed_on, type_ends}
use Rattle.gx_parse.specs.Words.{is_word, is_open, is_close, is_comma, is_equal, word_in, name_in, number_in}
use Rattle.gx_parse.proofs.TokenFacts.{if_some, map_some, is_word_is, is_equal_is, open_is, close_is, comma_is, word_is, number_is, name_is}
use Rattle.gx_parse.proofs.GivenFacts.{kind_then, kind_steps, kind_ends, GivenReads, given_begins, given_steps, given_ends}

pub either_of : {A : Type 0} (a b : Bool) (x y s : A) → cond a (Some x) (cond b (Some y) None) ≡ Some s → ((a ≡ true) × (x ≡ s)) ⊎ ((b ≡ true) × (y ≡ s))
either_of true b x y s e = inl (refl, cc)
either_of false true x y s e = inr (refl, cc)
either_of false false x y s e = cc

-- CREATE TABLE

abbrev pub table_lead : List ℕ → List Token → List Token
table_lead n rest = word (codes "create") ∷ word (codes "table") ∷ word n ∷ token.Open ∷ rest

abbrev pub next_columns : List ColumnWord → List Token → List Token
next_columns [] rest = rest
next_columns (c ∷ cs) rest = columns_then (c ∷ cs) (token.Comma ∷ rest)

abbrev pub TableReads : List Token → TableReader → List Token → Type 0
TableReads whole table.Begun rest = whole ≡ word (codes "create") ∷ word (codes "table") ∷ rest
TableReads whole (table.Named n) rest = IsName n × (whole ≡ word (codes "create") ∷ word (codes "table") ∷ word n ∷ rest)
TableReads whole (table.Next n cs) rest = IsName n × AreColumns cs × (whole ≡ table_lead n (next_columns cs rest))
TableReads whole (table.Column n cs c) rest = IsName n × AreColumns cs × IsName c × (whole ≡ table_lead n (next_columns cs (word c ∷ rest)))
TableReads whole (table.Typed n cs c k) rest = IsName n × AreColumns cs × IsName c × (whole ≡ table_lead n (next_columns cs (word c ∷ kind_then k rest)))
TableReads whole (table.Closed n cs) rest = IsName n × HasOne cs × AreColumns cs × (whole ≡ table_lead n (columns_then cs (token.Close ∷ rest)))

more_column : (cs : List ColumnWord) (c : ColumnWord) (ts : List Token) → more_columns cs (token.Comma ∷ column_then c ts) ≡ more_columns (cs ++ c ∷ []) ts
more_column [] c ts = refl
more_column (d ∷ cs) c ts = ap (λ (xs : List Token). token.Comma ∷ column_then d xs) (more_column cs c ts)

add_column : (cs : List ColumnWord) (c : ColumnWord) (ts : List Token) → next_columns cs (column_then c ts) ≡ columns_then (cs ++ c ∷ []) ts
add_column [] c ts = refl
add_column (d ∷ cs) c ts = ap (λ (xs : List Token). column_then d xs) (more_column cs c ts)

next_is : (cs : List ColumnWord) (c : ColumnWord) (ts : List Token) → columns_then (cs ++ c ∷ []) (token.Comma ∷ ts) ≡ next_columns (cs ++ c ∷ []) ts
next_is [] c ts = refl
next_is (d ∷ cs) c ts = refl

has_last : {A : Type 0} (xs : List A) (x : A) → HasOne (xs ++ x ∷ [])
has_last [] x = tt
has_last (y ∷ xs) x = tt

and_column : (cs : List ColumnWord) (c : ColumnWord) → AreColumns cs → IsName c.name → AreColumns (cs ++ c ∷ [])
and_column [] c a n = (n, tt)
and_column (d ∷ cs) c a n = (a.0, and_column cs c a.1 n)

behind_column_type : (whole : List Token) (n : List ℕ) (cs : List ColumnWord) (c : ColumnWord) (s : TableReader) (t : Token) (ts : List Token)
    → IsName n → AreColumns cs → IsName c.name → whole ≡ table_lead n (next_columns cs (column_then c (t ∷ ts)))
    → (((is_comma t ≡ true) × (table.Next n (cs ++ c ∷ []) ≡ s)) ⊎ ((is_close t ≡ true) × (table.Closed n (cs ++ c ∷ []) ≡ s))) → TableReads whole s ts
behind_column_type whole n cs c s t ts a b d e (inl h) =
    let P : TableReader → Type 0 = λ x. TableReads whole x ts in
    let k : t ≡ token.Comma = comma_is t h.0 in
    subst P h.1 (
      a,
      and_column cs c b d,
      e ∙ ap (λ (x : Token). table_lead n (next_columns cs (column_then c (x ∷ ts)))) k
          ∙ ap (λ (xs : List Token). table_lead n xs) (add_column cs c (token.Comma ∷ ts) ∙ next_is cs c ts),
    )
behind_column_type whole n cs c s t ts a b d e (inr h) =
    let P : TableReader → Type 0 = λ x. TableReads whole x ts in
    let k : t ≡ token.Close = close_is t h.0 in
    subst P h.1 (
      a,
      has_last cs c,
      and_column cs c b d,
      e ∙ ap (λ (x : Token). table_lead n (next_columns cs (column_then c (x ∷ ts)))) k
          ∙ ap (λ (xs : List Token). table_lead n xs) (add_column cs c (token.Close ∷ ts)),
    )

type_end : (whole : List Token) (n : List ℕ) (cs : List ColumnWord) (c : List ℕ) (k : TypeReader) (s : TableReader) (t : Token) (ts : List Token) (o : Option TypeWord)
    → TableReads whole (table.Typed n cs c k) (t ∷ ts) → type_of k ≡ o → type_ends n cs c t o ≡ Some s → TableReads whole s ts
type_end whole n cs c k s t ts None r f e = cc
type_end whole n cs c k s t ts (Some w) r f e =
    let col : ColumnWord = record { name = c; kind = w } in
    behind_column_type whole n cs col s t ts r.0 r.1 r.2
    (r.3 ∙ ap (λ (xs : List Token). table_lead n (next_columns cs (word c ∷ xs))) (kind_ends k w (t ∷ ts) f))
    (either_of (is_comma t) (is_close t) (table.Next n (cs ++ col ∷ [])) (table.Closed n (cs ++ col ∷ [])) s e)

type_step : (whole : List Token) (n : List ℕ) (cs : List ColumnWord) (c : List ℕ) (k : TypeReader) (s : TableReader) (t : Token) (ts : List Token) (o : Option TypeReader)
    → TableReads whole (table.Typed n cs c k) (t ∷ ts) → type_after k t ≡ o → typed_on n cs c k t o ≡ Some s → TableReads whole s ts
type_step whole n cs c k s t ts (Some m) r f e =
    let P : TableReader → Type 0 = λ x. TableReads whole x ts in
    let q : table.Typed n cs c m ≡ s = cc in
    subst P q (r.0, r.1, r.2, r.3 ∙ ap (λ (xs : List Token). table_lead n (next_columns cs (word c ∷ xs))) (kind_steps k m t ts f))
type_step whole n cs c k s t ts None r f e = type_end whole n cs c k s t ts (type_of k) r refl e

pub table_steps : (whole : List Token) (r s : TableReader) (t : Token) (ts : List Token) → TableReads whole r (t ∷ ts) → table_after r t ≡ Some s → TableReads whole s ts
table_steps whole table.Begun s t ts r e =
    let P : TableReader → Type 0 = λ x. TableReads whole x ts in
    let m = map_some (λ n. table.Named n) (name_in t) s e in
    let k = name_is t m.0 m.1 in
    subst P m.2 (k.1, r ∙ ap (λ (x : Token). word (codes "create") ∷ word (codes "table") ∷ x ∷ ts) k.0)
table_steps whole (table.Named n) s t ts r e =
    let P : TableReader → Type 0 = λ x. TableReads whole x ts in
    let m = if_some (is_open t) (table.Next n []) s e in
    subst P m.1 (r.0, tt, r.1 ∙ ap (λ (x : Token). word (codes "create") ∷ word (codes "table") ∷ word n ∷ x ∷ ts) (open_is t m.0))
table_steps whole (table.Next n cs) s t ts r e =
    let P : TableReader → Type 0 = λ x. TableReads whole x ts in
    let m = map_some (λ c. table.Column n cs c) (name_in t) s e in
    let k = name_is t m.0 m.1 in
    subst P m.2 (r.0, r.1, k.1, r.2 ∙ ap (λ (x : Token). table_lead n (next_columns cs (x ∷ ts))) k.0)
table_steps whole (table.Column n cs c) s t ts r e =
    let P : TableReader → Type 0 = λ x. TableReads whole x ts in
    let m = map_some (λ w. table.Typed n cs c (kind.Word w)) (word_in t) s e in
    subst P m.2 (r.0, r.1, r.2, r.3 ∙ ap (λ (x : Token). table_lead n (next_columns cs (word c ∷ x ∷ ts))) (word_is t m.0 m.1))
table_steps whole (table.Typed n cs c k) s t ts r e = type_step whole n cs c k s t ts (type_after k t) r refl e
table_steps whole (table.Closed n cs) s t ts r e = cc

-- CREATE INDEX

abbrev pub HeadReads : List Token → IndexHead → List Token → Type 0
HeadReads whole head.Begun rest = whole ≡ word (codes "create") ∷ word (codes "index") ∷ rest
HeadReads whole (head.Named i) rest = IsName i × (whole ≡ word (codes "create") ∷ word (codes "index") ∷ word i ∷ rest)
HeadReads whole (head.On i) rest = IsName i × (whole ≡ word (codes "create") ∷ word (codes "index") ∷ word i ∷ word (codes "on") ∷ rest)
HeadReads whole (head.Table i t) rest = IsName i × IsName t × (whole ≡ word (codes "create") ∷ word (codes "index") ∷ word i ∷ word (codes "on") ∷ word t ∷ rest)
HeadReads whole (head.Using i t) rest =
    IsName i × IsName t × (whole ≡ word (codes "create") ∷ word (codes "index") ∷ word i ∷ word (codes "on") ∷ word t ∷ word (codes "using") ∷ rest)
HeadReads whole (head.Method i t m) rest =
    IsName i × IsName t × (whole ≡ word (codes "create") ∷ word (codes "index") ∷ word i ∷ word (codes "on") ∷ word t ∷ word (codes "using") ∷ word m ∷ rest)
HeadReads whole (head.Open i t m) rest =
    IsName i × IsName t × (whole ≡ word (codes "create") ∷ word (codes "index") ∷ word i ∷ word (codes "on") ∷ word t ∷ word (codes "using") ∷ word m ∷ token.Open ∷ rest)

abbrev pub index_lead : IndexNames → List Token → List Token
index_lead n rest =
    word (codes "create") ∷ word (codes "index") ∷ word n.name ∷ word (codes "on") ∷ word n.table ∷ word (codes "using") ∷ word n.method ∷ token.Open ∷ word n.column ∷ rest

abbrev pub TailThen : IndexTail → List Token → List Token
TailThen tail.Column rest = rest
TailThen (tail.Class c) rest = word c ∷ rest
TailThen (tail.Open c) rest = word c ∷ token.Open ∷ rest
TailThen (tail.Word c w) rest = word c ∷ token.Open ∷ word w ∷ rest
TailThen (tail.Equal c w) rest = word c ∷ token.Open ∷ word w ∷ token.Operator (codes "=") ∷ rest
TailThen (tail.Number c p) rest = word c ∷ token.Open ∷ word p.word ∷ token.Operator (codes "=") ∷ token.Number p.number ∷ rest
TailThen (tail.Given c p) rest = class_then (Some c) (Some p) rest
TailThen (tail.Closed c p) rest = class_then c p (token.Close ∷ rest)

abbrev pub TailRight : IndexTail → Type 0
TailRight (tail.Closed c p) = HasClass c p
TailRight _ = Unit {0}

abbrev pub IndexReads : List Token → IndexReader → List Token → Type 0
IndexReads whole (index.Head h) rest = HeadReads whole h rest
IndexReads whole (index.Tail n b) rest = IsName n.name × IsName n.table × IsName n.column × TailRight b × (whole ≡ index_lead n (TailThen b rest))

head_steps : (whole : List Token) (r s : IndexHead) (t : Token) (ts : List Token) → HeadReads whole r (t ∷ ts) → head_after r t ≡ Some s → HeadReads whole s ts
head_steps whole head.Begun s t ts r e =
    let P : IndexHead → Type 0 = λ x. HeadReads whole x ts in
    let m = map_some (λ n. head.Named n) (name_in t) s e in
    let k = name_is t m.0 m.1 in
    subst P m.2 (k.1, r ∙ ap (λ (x : Token). word (codes "create") ∷ word (codes "index") ∷ x ∷ ts) k.0)
head_steps whole (head.Named i) s t ts r e =
    let P : IndexHead → Type 0 = λ x. HeadReads whole x ts in
    let m = if_some (is_word (codes "on") t) (head.On i) s e in
    subst P m.1 (r.0, r.1 ∙ ap (λ (x : Token). word (codes "create") ∷ word (codes "index") ∷ word i ∷ x ∷ ts) (is_word_is (codes "on") t m.0))
head_steps whole (head.On i) s t ts r e =
    let P : IndexHead → Type 0 = λ x. HeadReads whole x ts in
    let m = map_some (λ n. head.Table i n) (name_in t) s e in
    let k = name_is t m.0 m.1 in
    subst P m.2 (r.0, k.1, r.1 ∙ ap (λ (x : Token). word (codes "create") ∷ word (codes "index") ∷ word i ∷ word (codes "on") ∷ x ∷ ts) k.0)
head_steps whole (head.Table i n) s t ts r e =
    let P : IndexHead → Type 0 = λ x. HeadReads whole x ts in
    let m = if_some (is_word (codes "using") t) (head.Using i n) s e in
    subst P m.1 (r.0, r.1, r.2 ∙ ap (λ (x : Token). word (codes "create") ∷ word (codes "index") ∷ word i ∷ word (codes "on") ∷ word n ∷ x ∷ ts) (is_word_is (codes "using") t m.0))
head_steps whole (head.Using i n) s t ts r e =
    let P : IndexHead → Type 0 = λ x. HeadReads whole x ts in
    let m = map_some (λ w. head.Method i n w) (word_in t) s e in
    subst P m.2 (r.0, r.1, r.2 ∙ ap (λ (x : Token). word (codes "create") ∷ word (codes "index") ∷ word i ∷ word (codes "on") ∷ word n ∷ word (codes "using") ∷ x ∷ ts) (word_is t m.0 m.1))
head_steps whole (head.Method i n w) s t ts r e =
    let P : IndexHead → Type 0 = λ x. HeadReads whole x ts in
    let m = if_some (is_open t) (head.Open i n w) s e in
    subst P m.1 (r.0, r.1, r.2 ∙ ap (λ (x : Token). word (codes "create") ∷ word (codes "index") ∷ word i ∷ word (codes "on") ∷ word n ∷ word (codes "using") ∷ word w ∷ x ∷ ts) (open_is t m.0))
head_steps whole (head.Open i n w) s t ts r e = cc

-- a token more behind the column
record TailSteps (b c : IndexTail) (t : Token) (ts : List Token) : Type 0 where
  then : TailThen b (t ∷ ts) ≡ TailThen c ts
  right : TailRight c

tail_along : (b c d : IndexTail) (t : Token) (ts : List Token) → c ≡ d → TailSteps b c t ts → TailSteps b d t ts
tail_along b c d t ts e s = let P : IndexTail → Type 0 = λ x. TailSteps b x t ts in subst P e s

tail_steps : (b c : IndexTail) (t : Token) (ts : List Token) → TailRight b → tail_after b t ≡ Some c → TailSteps b c t ts
tail_steps tail.Column c (token.Word w) ts r e = let s : tail.Class w ≡ c = cc in tail_along tail.Column (tail.Class w) c (token.Word w) ts s (record { then = refl; right = tt })
tail_steps tail.Column c token.Close ts r e = let s : tail.Closed None None ≡ c = cc in tail_along tail.Column (tail.Closed None None) c token.Close ts s (record { then = refl; right = tt })
tail_steps tail.Column c t ts r e = cc
tail_steps (tail.Class w) c t ts r e = either (either_of (is_open t) (is_close t) (tail.Open w) (tail.Closed (Some w) None) c e)
  where
    either : ((is_open t ≡ true) × (tail.Open w ≡ c)) ⊎ ((is_close t ≡ true) × (tail.Closed (Some w) None ≡ c)) → TailSteps (tail.Class w) c t ts
    either (inl h) = tail_along (tail.Class w) (tail.Open w) c t ts h.1 (record { then = ap (λ (x : Token). word w ∷ x ∷ ts) (open_is t h.0); right = tt })
    either (inr h) = tail_along (tail.Class w) (tail.Closed (Some w) None) c t ts h.1 (record { then = ap (λ (x : Token). word w ∷ x ∷ ts) (close_is t h.0); right = tt })
tail_steps (tail.Open w) c t ts r e =
    let m = map_some (λ x. tail.Word w x) (word_in t) c e in
    tail_along (tail.Open w) (tail.Word w m.0) c t ts m.2 (record { then = ap (λ (x : Token). word w ∷ token.Open ∷ x ∷ ts) (word_is t m.0 m.1); right = tt })
tail_steps (tail.Word w p) c t ts r e =
    let m = if_some (is_equal t) (tail.Equal w p) c e in
    tail_along (tail.Word w p) (tail.Equal w p) c t ts m.1 (record { then = ap (λ (x : Token). word w ∷ token.Open ∷ word p ∷ x ∷ ts) (is_equal_is t m.0); right = tt })
tail_steps (tail.Equal w p) c t ts r e =
    let m = map_some (λ n. tail.Number w (record { word = p; number = n })) (number_in t) c e in
    tail_along (tail.Equal w p) (tail.Number w (record { word = p; number = m.0 })) c t ts m.2
    (record { then = ap (λ (x : Token). word w ∷ token.Open ∷ word p ∷ token.Operator (codes "=") ∷ x ∷ ts) (number_is t m.0 m.1); right = tt })
tail_steps (tail.Number w p) c t ts r e =
    let m = if_some (is_close t) (tail.Given w p) c e in
    tail_along (tail.Number w p) (tail.Given w p) c t ts m.1
    (record { then = ap (λ (x : Token). word w ∷ token.Open ∷ word p.word ∷ token.Operator (codes "=") ∷ token.Number p.number ∷ x ∷ ts) (close_is t m.0); right = tt })
tail_steps (tail.Given w p) c t ts r e =
    let m = if_some (is_close t) (tail.Closed (Some w) (Some p)) c e in
    tail_along (tail.Given w p) (tail.Closed (Some w) (Some p)) c t ts m.1
    (record { then = ap (λ (x : Token). class_then (Some w) (Some p) (x ∷ ts)) (close_is t m.0); right = tt })
tail_steps (tail.Closed w p) c t ts r e = cc

in_head : (whole : List Token) (h : IndexHead) (s : IndexReader) (t : Token) (ts : List Token) → HeadReads whole h (t ∷ ts) → option_map (λ x. index.Head x) (head_after h t) ≡ Some s → IndexReads whole s ts
in_head whole h s t ts r e =
    let P : IndexReader → Type 0 = λ x. IndexReads whole x ts in
    let m = map_some (λ x. index.Head x) (head_after h t) s e in
    subst P m.2 (head_steps whole h m.0 t ts r m.1)

pub index_steps : (whole : List Token) (r s : IndexReader) (t : Token) (ts : List Token) → IndexReads whole r (t ∷ ts) → index_after r t ≡ Some s → IndexReads whole s ts
index_steps whole (index.Head (head.Open i n m)) s t ts r e =
    let P : IndexReader → Type 0 = λ x. IndexReads whole x ts in
    let h = map_some (λ c. index.Tail (record { name = i; table = n; method = m; column = c }) tail.Column) (name_in t) s e in
    let k = name_is t h.0 h.1 in
    subst P h.2 (r.0, r.1, k.1, tt, r.2 ∙ ap (λ (x : Token). word (codes "create") ∷ word (codes "index") ∷ word i ∷ word (codes "on") ∷ word n ∷ word (codes "using") ∷ word m ∷ token.Open ∷ x ∷ ts) k.0)
index_steps whole (index.Head head.Begun) s t ts r e = in_head whole head.Begun s t ts r e
index_steps whole (index.Head (head.Named i)) s t ts r e = in_head whole (head.Named i) s t ts r e
index_steps whole (index.Head (head.On i)) s t ts r e = in_head whole (head.On i) s t ts r e
index_steps whole (index.Head (head.Table i n)) s t ts r e = in_head whole (head.Table i n) s t ts r e
index_steps whole (index.Head (head.Using i n)) s t ts r e = in_head whole (head.Using i n) s t ts r e
index_steps whole (index.Head (head.Method i n m)) s t ts r e = in_head whole (head.Method i n m) s t ts r e
index_steps whole (index.Tail n b) s t ts r e =
    let P : IndexReader → Type 0 = λ x. IndexReads whole x ts in
    let m = map_some (λ x. index.Tail n x) (tail_after b t) s e in
    let k = tail_steps b m.0 t ts r.3 m.1 in
    subst P m.2 (r.0, r.1, r.2, k.right, r.4 ∙ ap (λ (xs : List Token). index_lead n xs) k.then)

-- SELECT, EXPLAIN ANALYZE and DELETE

abbrev pub next_names : List (List ℕ) → List Token → List Token
next_names [] rest = rest
next_names (n ∷ ns) rest = names_then (n ∷ ns) (token.Comma ∷ rest)

more_name : (ns : List (List ℕ)) (n : List ℕ) (ts : List Token) → more_names ns (token.Comma ∷ word n ∷ ts) ≡ more_names (ns ++ n ∷ []) ts
more_name [] n ts = refl
more_name (m ∷ ns) n ts = ap (λ (xs : List Token). token.Comma ∷ word m ∷ xs) (more_name ns n ts)

add_name : (ns : List (List ℕ)) (n : List ℕ) (ts : List Token) → next_names ns (word n ∷ ts) ≡ names_then (ns ++ n ∷ []) ts
add_name [] n ts = refl
add_name (m ∷ ns) n ts = ap (λ (xs : List Token). word m ∷ xs) (more_name ns n ts)

names_next : (ns : List (List ℕ)) (ts : List Token) → HasOne ns → names_then ns (token.Comma ∷ ts) ≡ next_names ns ts
names_next [] ts h = absurd h
names_next (n ∷ ns) ts h = refl

and_name : (ns : List (List ℕ)) (n : List ℕ) → AreNames ns → IsName n → AreNames (ns ++ n ∷ [])
and_name [] n a h = (h, tt)
and_name (m ∷ ns) n a h = (a.0, and_name ns n a.1 h)

abbrev pub select_lead : Bool → List Token → List Token
select_lead false rest = word (codes "select") ∷ rest
select_lead true rest = word (codes "explain") ∷ word (codes "analyze") ∷ word (codes "select") ∷ rest

abbrev pub task_then : tasks.Task → List Token → List Token
task_then task_is.Delete rest = word (codes "delete") ∷ rest
task_then (task_is.Select columns) rest = select_lead false (select_then columns rest)
task_then (task_is.Explain columns) rest = select_lead true (select_then columns rest)

abbrev pub TaskRight : tasks.Task → Type 0
TaskRight task_is.Delete = Unit {0}
TaskRight (task_is.Select columns) = AreListed columns
TaskRight (task_is.Explain columns) = AreListed columns

abbrev pub QueryReads : List Token → QueryReader → List Token → Type 0
QueryReads whole query.Explain rest = whole ≡ word (codes "explain") ∷ rest
QueryReads whole query.Analyze rest = whole ≡ word (codes "explain") ∷ word (codes "analyze") ∷ rest
QueryReads whole (query.Select x) rest = whole ≡ select_lead x rest
QueryReads whole (query.Next x ns) rest = AreNames ns × (whole ≡ select_lead x (next_names ns rest))
QueryReads whole (query.Listed x ns) rest = HasOne ns × AreNames ns × (whole ≡ select_lead x (names_then ns rest))
QueryReads whole (query.Task d) rest = TaskRight d × (whole ≡ task_then d rest)
QueryReads whole (query.From d) rest = TaskRight d × (whole ≡ task_then d (word (codes "from") ∷ rest))
QueryReads whole (query.Named d n) rest = TaskRight d × IsName n × (whole ≡ task_then d (word (codes "from") ∷ word n ∷ rest))

listed_right : (x : Bool) (columns : Option (List (List ℕ))) → AreListed columns → TaskRight (task x columns)
listed_right true columns a = a
listed_right false columns a = a

listed_then : (x : Bool) (columns : Option (List (List ℕ))) (ts : List Token) → select_lead x (select_then columns ts) ≡ task_then (task x columns) ts
listed_then true columns ts = refl
listed_then false columns ts = refl

add_listed : (whole : List Token) (x : Bool) (ns : List (List ℕ)) (s : QueryReader) (t : Token) (ts : List Token)
    → AreNames ns → whole ≡ select_lead x (next_names ns (t ∷ ts)) → option_map (λ n. query.Listed x (ns ++ n ∷ [])) (name_in t) ≡ Some s → QueryReads whole s ts
add_listed whole x ns s t ts a r e =
    let P : QueryReader → Type 0 = λ q. QueryReads whole q ts in
    let m = map_some (λ n. query.Listed x (ns ++ n ∷ [])) (name_in t) s e in
    let k = name_is t m.0 m.1 in
    subst P m.2 (has_last ns m.0, and_name ns m.0 a k.1, r ∙ ap (λ (y : Token). select_lead x (next_names ns (y ∷ ts))) k.0 ∙ ap (λ (xs : List Token). select_lead x xs) (add_name ns m.0 ts))

from_task : (whole : List Token) (d : tasks.Task) (s : QueryReader) (t : Token) (ts : List Token) → TaskRight d → whole ≡ task_then d (t ∷ ts)
    → cond (is_word (codes "from") t) (Some (query.From d)) None ≡ Some s → QueryReads whole s ts
from_task whole d s t ts a r e =
    let P : QueryReader → Type 0 = λ q. QueryReads whole q ts in
    let m = if_some (is_word (codes "from") t) (query.From d) s e in
    subst P m.1 (a, r ∙ ap (λ (y : Token). task_then d (y ∷ ts)) (is_word_is (codes "from") t m.0))

pub query_steps : (whole : List Token) (r s : QueryReader) (t : Token) (ts : List Token) → QueryReads whole r (t ∷ ts) → query_after r t ≡ Some s → QueryReads whole s ts
query_steps whole query.Explain s t ts r e =
    let P : QueryReader → Type 0 = λ q. QueryReads whole q ts in
    let m = if_some (is_word (codes "analyze") t) query.Analyze s e in
    subst P m.1 (r ∙ ap (λ (y : Token). word (codes "explain") ∷ y ∷ ts) (is_word_is (codes "analyze") t m.0))
query_steps whole query.Analyze s t ts r e =
    let P : QueryReader → Type 0 = λ q. QueryReads whole q ts in
    let m = if_some (is_word (codes "select") t) (query.Select true) s e in
    subst P m.1 (r ∙ ap (λ (y : Token). word (codes "explain") ∷ word (codes "analyze") ∷ y ∷ ts) (is_word_is (codes "select") t m.0))
query_steps whole (query.Select x) s token.Star ts r e =
    let P : QueryReader → Type 0 = λ q. QueryReads whole q ts in
    let q : query.Task (task x None) ≡ s = cc in
    subst P q (listed_right x None tt, r ∙ listed_then x None ts)
query_steps whole (query.Select x) s (token.Word w) ts r e = add_listed whole x [] s (token.Word w) ts tt r e
query_steps whole (query.Select x) s t ts r e = cc
query_steps whole (query.Next x ns) s t ts r e = add_listed whole x ns s t ts r.0 r.1 e
query_steps whole (query.Listed x ns) s t ts r e = either (is_comma t) refl e
  where
    either : (b : Bool) → is_comma t ≡ b → cond b (Some (query.Next x ns)) (cond (is_word (codes "from") t) (Some (query.From (task x (Some ns)))) None) ≡ Some s → QueryReads whole s ts
    either true f g =
        let P : QueryReader → Type 0 = λ q. QueryReads whole q ts in
        let q : query.Next x ns ≡ s = cc in
        subst P q (r.1, r.2 ∙ ap (λ (y : Token). select_lead x (names_then ns (y ∷ ts))) (comma_is t f) ∙ ap (λ (xs : List Token). select_lead x xs) (names_next ns ts r.0))
    either false f g = from_task whole (task x (Some ns)) s t ts (listed_right x (Some ns) (r.0, r.1)) (r.2 ∙ listed_then x (Some ns) (t ∷ ts)) g
query_steps whole (query.Task d) s t ts r e = from_task whole d s t ts r.0 r.1 e
query_steps whole (query.From d) s t ts r e =
    let P : QueryReader → Type 0 = λ q. QueryReads whole q ts in
    let m = map_some (λ n. query.Named d n) (name_in t) s e in
    let k = name_is t m.0 m.1 in
    subst P m.2 (r.0, k.1, r.1 ∙ ap (λ (y : Token). task_then d (word (codes "from") ∷ y ∷ ts)) k.0)
query_steps whole (query.Named d n) s t ts r e = cc

-- INSERT

abbrev pub insert_lead : List ℕ → Option (List (List ℕ)) → List Token → List Token
insert_lead n columns rest = word (codes "insert") ∷ word (codes "into") ∷ word n ∷ list_then columns (word (codes "values") ∷ rest)

abbrev pub next_givens : List Phrase → List Token → List Token
next_givens [] rest = rest
next_givens (p ∷ ps) rest = givens_then (p ∷ ps) (token.Comma ∷ rest)

abbrev pub next_rows : List (List Phrase) → List Token → List Token
next_rows [] rest = rest
next_rows (r ∷ rs) rest = rows_then (r ∷ rs) (token.Comma ∷ rest)

abbrev rows_of : List (List Phrase) → List (List statement.Given)
rows_of phrases = map (λ r. map given_by r) phrases

-- the parts of an INSERT, with its rows as they are written
pub record Parts (parts : InsertParts) (phrases : List (List Phrase)) : Type 0 where
  pub name : IsName parts.table
  pub listed : AreListed parts.columns
  pub have : HaveOne phrases
  pub rows : parts.rows ≡ rows_of phrases

abbrev pub in_row : InsertParts → List (List Phrase) → List Phrase → List Token → List Token
in_row parts phrases ps rest = insert_lead parts.table parts.columns (next_rows phrases (token.Open ∷ next_givens ps rest))

abbrev pub InsertReads : List Token → InsertReader → List Token → Type 0
InsertReads whole insert.Begun rest = whole ≡ word (codes "insert") ∷ rest
InsertReads whole insert.Into rest = whole ≡ word (codes "insert") ∷ word (codes "into") ∷ rest
InsertReads whole (insert.Named n) rest = IsName n × (whole ≡ word (codes "insert") ∷ word (codes "into") ∷ word n ∷ rest)
InsertReads whole (insert.Next n ns) rest = IsName n × AreNames ns × (whole ≡ word (codes "insert") ∷ word (codes "into") ∷ word n ∷ token.Open ∷ next_names ns rest)
InsertReads whole (insert.Listed n ns) rest = IsName n × HasOne ns × AreNames ns × (whole ≡ word (codes "insert") ∷ word (codes "into") ∷ word n ∷ token.Open ∷ names_then ns rest)
InsertReads whole (insert.Columns n ns) rest =
    IsName n × HasOne ns × AreNames ns × (whole ≡ word (codes "insert") ∷ word (codes "into") ∷ word n ∷ token.Open ∷ names_then ns (token.Close ∷ rest))
InsertReads whole (insert.Values parts) rest = (phrases : List (List Phrase)) × Parts parts phrases × (whole ≡ insert_lead parts.table parts.columns (next_rows phrases rest))
InsertReads whole (insert.Value parts row) rest =
    (phrases : List (List Phrase)) × (ps : List Phrase) × Parts parts phrases × (row ≡ map given_by ps) × (whole ≡ in_row parts phrases ps rest)
InsertReads whole (insert.Given parts row g) rest =
    (phrases : List (List Phrase)) × (ps : List Phrase) × Parts parts phrases × (row ≡ map given_by ps) × GivenReads whole (λ xs. in_row parts phrases ps xs) g rest
InsertReads whole (insert.Closed parts) rest =
    (phrases : List (List Phrase)) × HasOne phrases × Parts parts phrases × (whole ≡ insert_lead parts.table parts.columns (rows_then phrases rest))

more_given : (ps : List Phrase) (p : Phrase) (ts : List Token) → more_givens ps (token.Comma ∷ given_then p ts) ≡ more_givens (ps ++ p ∷ []) ts
more_given [] p ts = refl
more_given (q ∷ ps) p ts = ap (λ (xs : List Token). token.Comma ∷ given_then q xs) (more_given ps p ts)

add_given : (ps : List Phrase) (p : Phrase) (ts : List Token) → next_givens ps (given_then p ts) ≡ givens_then (ps ++ p ∷ []) ts
add_given [] p ts = refl
add_given (q ∷ ps) p ts = ap (λ (xs : List Token). given_then q xs) (more_given ps p ts)

given_next : (ps : List Phrase) (p : Phrase) (ts : List Token) → givens_then (ps ++ p ∷ []) (token.Comma ∷ ts) ≡ next_givens (ps ++ p ∷ []) ts
given_next [] p ts = refl
given_next (q ∷ ps) p ts = refl

more_row : (rs : List (List Phrase)) (r : List Phrase) (ts : List Token) → more_rows rs (token.Comma ∷ row_then r ts) ≡ more_rows (rs ++ r ∷ []) ts
more_row [] r ts = refl
more_row (q ∷ rs) r ts = ap (λ (xs : List Token). token.Comma ∷ row_then q xs) (more_row rs r ts)

add_row : (rs : List (List Phrase)) (r : List Phrase) (ts : List Token) → next_rows rs (row_then r ts) ≡ rows_then (rs ++ r ∷ []) ts
add_row [] r ts = refl
add_row (q ∷ rs) r ts = ap (λ (xs : List Token). row_then q xs) (more_row rs r ts)

rows_next : (rs : List (List Phrase)) (ts : List Token) → HasOne rs → rows_then rs (token.Comma ∷ ts) ≡ next_rows rs ts
rows_next [] ts h = absurd h
rows_next (r ∷ rs) ts h = refl

and_have : (rs : List (List Phrase)) (r : List Phrase) → HaveOne rs → HasOne r → HaveOne (rs ++ r ∷ [])
and_have [] r a h = (h, tt)
and_have (q ∷ rs) r a h = (a.0, and_have rs r a.1 h)

map_given : (ps : List Phrase) (p : Phrase) → map given_by (ps ++ p ∷ []) ≡ map given_by ps ++ given_by p ∷ []
map_given [] p = refl
map_given (q ∷ ps) p = ap (λ (xs : List statement.Given). given_by q ∷ xs) (map_given ps p)

map_rows : (rs : List (List Phrase)) (r : List Phrase) → rows_of (rs ++ r ∷ []) ≡ rows_of rs ++ map given_by r ∷ []
map_rows [] r = refl
map_rows (q ∷ rs) r = ap (λ (xs : List (List statement.Given)). map given_by q ∷ xs) (map_rows rs r)

values_begin : (whole : List Token) (n : List ℕ) (columns : Option (List (List ℕ))) (s : InsertReader) (t : Token) (ts : List Token) → IsName n → AreListed columns
    → whole ≡ word (codes "insert") ∷ word (codes "into") ∷ word n ∷ list_then columns (t ∷ ts)
    → cond (is_word (codes "values") t) (Some (insert.Values (record { table = n; columns = columns; rows = [] }))) None ≡ Some s → InsertReads whole s ts
values_begin whole n columns s t ts a b r e =
    let P : InsertReader → Type 0 = λ q. InsertReads whole q ts in
    let m = if_some (is_word (codes "values") t) (insert.Values (record { table = n; columns = columns; rows = [] })) s e in
    subst P m.1 (
      [],
      record { name = a; listed = b; have = tt; rows = refl },
      r ∙ ap (λ (y : Token). word (codes "insert") ∷ word (codes "into") ∷ word n ∷ list_then columns (y ∷ ts)) (is_word_is (codes "values") t m.0),
    )

value_ends : (whole : List Token) (parts : InsertParts) (row : List statement.Given) (v : statement.Given) (phrases : List (List Phrase)) (ps : List Phrase) (p : Phrase) (s : InsertReader) (t : Token) (ts : List Token)
    → Parts parts phrases → row ≡ map given_by ps → v ≡ given_by p → whole ≡ in_row parts phrases ps (given_then p (t ∷ ts))
    → behind_value parts (row ++ v ∷ []) t ≡ Some s → InsertReads whole s ts
value_ends whole parts row v phrases ps p s t ts a f g w e =
    let longer : row ++ v ∷ [] ≡ map given_by (ps ++ p ∷ []) =
    ap (λ (xs : List statement.Given). xs ++ v ∷ []) f ∙ ap (λ (x : statement.Given). map given_by ps ++ x ∷ []) g ∙ sym (map_given ps p) in
    let lead = λ (xs : List Token). insert_lead parts.table parts.columns (next_rows phrases (token.Open ∷ xs)) in
    let u : whole ≡ lead (givens_then (ps ++ p ∷ []) (t ∷ ts)) = w ∙ ap lead (add_given ps p (t ∷ ts)) in
    either longer u (either_of (is_comma t) (is_close t) (insert.Value parts (row ++ v ∷ [])) (insert.Closed (record { table = parts.table; columns = parts.columns; rows = parts.rows ++ (row ++ v ∷ []) ∷ [] })) s e)
  where
    either : row ++ v ∷ [] ≡ map given_by (ps ++ p ∷ []) → whole ≡ insert_lead parts.table parts.columns (next_rows phrases (token.Open ∷ givens_then (ps ++ p ∷ []) (t ∷ ts)))
        → ((is_comma t ≡ true) × (insert.Value parts (row ++ v ∷ []) ≡ s)) ⊎ ((is_close t ≡ true) × (insert.Closed (record { table = parts.table; columns = parts.columns; rows = parts.rows ++ (row ++ v ∷ []) ∷ [] }) ≡ s))
        → InsertReads whole s ts
    either longer u (inl h) =
        let P : InsertReader → Type 0 = λ q. InsertReads whole q ts in
        let lead = λ (xs : List Token). insert_lead parts.table parts.columns (next_rows phrases (token.Open ∷ xs)) in
        subst P h.1 (phrases, ps ++ p ∷ [], a, longer, u ∙ ap (λ (y : Token). lead (givens_then (ps ++ p ∷ []) (y ∷ ts))) (comma_is t h.0) ∙ ap lead (given_next ps p ts))
    either longer u (inr h) =
        let P : InsertReader → Type 0 = λ q. InsertReads whole q ts in
        let r : List Phrase = ps ++ p ∷ [] in
        let lead = λ (xs : List Token). insert_lead parts.table parts.columns xs in
        let rows_are : parts.rows ++ (row ++ v ∷ []) ∷ [] ≡ rows_of (phrases ++ r ∷ []) =
        ap (λ (xs : List (List statement.Given)). xs ++ (row ++ v ∷ []) ∷ []) a.rows ∙ ap (λ (x : List statement.Given). rows_of phrases ++ x ∷ []) longer ∙ sym (map_rows phrases r) in
        subst P h.1 (
          phrases ++ r ∷ [],
          has_last phrases r,
          record { name = a.name; listed = a.listed; have = and_have phrases r a.have (has_last ps p); rows = rows_are },
          u ∙ ap (λ (y : Token). lead (next_rows phrases (token.Open ∷ givens_then r (y ∷ ts)))) (close_is t h.0) ∙ ap lead (add_row phrases r ts),
        )

given_on_step : (whole : List Token) (parts : InsertParts) (row : List statement.Given) (g : GivenReader) (s : InsertReader) (t : Token) (ts : List Token) (o : Option GivenReader) (v : Option statement.Given)
    → InsertReads whole (insert.Given parts row g) (t ∷ ts) → given_after g t ≡ o → given_of g ≡ v
    → given_on parts row g t o ≡ Some s → InsertReads whole s ts
given_on_step whole parts row g s t ts (Some h) v r f k e =
    let P : InsertReader → Type 0 = λ q. InsertReads whole q ts in
    let q : insert.Given parts row h ≡ s = cc in
    subst P q (r.0, r.1, r.2, r.3, given_steps whole (λ xs. in_row parts r.0 r.1 xs) g h t ts r.4 f)
given_on_step whole parts row g s t ts None None r f k e =
    let n : ends parts row t None ≡ Some s = (rw k at e) in cc
given_on_step whole parts row g s t ts None (Some v) r f k e =
    let n : behind_value parts (row ++ v ∷ []) t ≡ Some s = (rw k at e) in
    let d = given_ends whole (λ xs. in_row parts r.0 r.1 xs) g v (t ∷ ts) r.4 k in
    value_ends whole parts row v r.0 r.1 d.phrase s t ts r.2 r.3 d.value d.parts n

pub insert_steps : (whole : List Token) (r s : InsertReader) (t : Token) (ts : List Token) → InsertReads whole r (t ∷ ts) → insert_after r t ≡ Some s → InsertReads whole s ts
insert_steps whole insert.Begun s t ts r e =
    let P : InsertReader → Type 0 = λ q. InsertReads whole q ts in
    let m = if_some (is_word (codes "into") t) insert.Into s e in
    subst P m.1 (r ∙ ap (λ (y : Token). word (codes "insert") ∷ y ∷ ts) (is_word_is (codes "into") t m.0))
insert_steps whole insert.Into s t ts r e =
    let P : InsertReader → Type 0 = λ q. InsertReads whole q ts in
    let m = map_some (λ n. insert.Named n) (name_in t) s e in
    let k = name_is t m.0 m.1 in
    subst P m.2 (k.1, r ∙ ap (λ (y : Token). word (codes "insert") ∷ word (codes "into") ∷ y ∷ ts) k.0)
insert_steps whole (insert.Named n) s t ts r e = either (is_open t) refl e
  where
    either : (b : Bool) → is_open t ≡ b → cond b (Some (insert.Next n [])) (cond (is_word (codes "values") t) (Some (insert.Values (record { table = n; columns = None; rows = [] }))) None) ≡ Some s → InsertReads whole s ts
    either true f g =
        let P : InsertReader → Type 0 = λ q. InsertReads whole q ts in
        let q : insert.Next n [] ≡ s = cc in
        subst P q (r.0, tt, r.1 ∙ ap (λ (y : Token). word (codes "insert") ∷ word (codes "into") ∷ word n ∷ y ∷ ts) (open_is t f))
    either false f g = values_begin whole n None s t ts r.0 tt r.1 g
insert_steps whole (insert.Next n ns) s t ts r e =
    let P : InsertReader → Type 0 = λ q. InsertReads whole q ts in
    let m = map_some (λ c. insert.Listed n (ns ++ c ∷ [])) (name_in t) s e in
    let k = name_is t m.0 m.1 in
    let lead = λ (xs : List Token). word (codes "insert") ∷ word (codes "into") ∷ word n ∷ token.Open ∷ xs in
    subst P m.2 (r.0, has_last ns m.0, and_name ns m.0 r.1 k.1, r.2 ∙ ap (λ (y : Token). lead (next_names ns (y ∷ ts))) k.0 ∙ ap lead (add_name ns m.0 ts))
insert_steps whole (insert.Listed n ns) s t ts r e = either (either_of (is_comma t) (is_close t) (insert.Next n ns) (insert.Columns n ns) s e)
  where
    either : ((is_comma t ≡ true) × (insert.Next n ns ≡ s)) ⊎ ((is_close t ≡ true) × (insert.Columns n ns ≡ s)) → InsertReads whole s ts
    either (inl h) =
        let P : InsertReader → Type 0 = λ q. InsertReads whole q ts in
        let lead = λ (xs : List Token). word (codes "insert") ∷ word (codes "into") ∷ word n ∷ token.Open ∷ xs in
        subst P h.1 (r.0, r.2, r.3 ∙ ap (λ (y : Token). lead (names_then ns (y ∷ ts))) (comma_is t h.0) ∙ ap lead (names_next ns ts r.1))
    either (inr h) =
        let P : InsertReader → Type 0 = λ q. InsertReads whole q ts in
        let lead = λ (xs : List Token). word (codes "insert") ∷ word (codes "into") ∷ word n ∷ token.Open ∷ xs in
        subst P h.1 (r.0, r.1, r.2, r.3 ∙ ap (λ (y : Token). lead (names_then ns (y ∷ ts))) (close_is t h.0))
insert_steps whole (insert.Columns n ns) s t ts r e = values_begin whole n (Some ns) s t ts r.0 (r.1, r.2) r.3 e
insert_steps whole (insert.Values parts) s t ts r e =
    let P : InsertReader → Type 0 = λ q. InsertReads whole q ts in
    let m = if_some (is_open t) (insert.Value parts []) s e in
    subst P m.1 (r.0, [], r.1, refl, r.2 ∙ ap (λ (y : Token). insert_lead parts.table parts.columns (next_rows r.0 (y ∷ ts))) (open_is t m.0))
insert_steps whole (insert.Value parts row) s t ts r e =
    let P : InsertReader → Type 0 = λ q. InsertReads whole q ts in
    let m = map_some (λ g. insert.Given parts row g) (given_from t) s e in
    subst P m.2 (r.0, r.1, r.2, r.3, given_begins whole (λ xs. in_row parts r.0 r.1 xs) m.0 t ts m.1 r.4)
insert_steps whole (insert.Given parts row g) s t ts r e = given_on_step whole parts row g s t ts (given_after g t) (given_of g) r refl refl e
insert_steps whole (insert.Closed parts) s t ts r e =
    let P : InsertReader → Type 0 = λ q. InsertReads whole q ts in
    let m = if_some (is_comma t) (insert.Values parts) s e in
    let lead = λ (xs : List Token). insert_lead parts.table parts.columns xs in
    subst P m.1 (r.0, r.2, r.3 ∙ ap (λ (y : Token). lead (rows_then r.0 (y ∷ ts))) (comma_is t m.0) ∙ ap lead (rows_next r.0 ts r.1))
