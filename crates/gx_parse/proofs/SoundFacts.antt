-- What is read of tokens is what they say.
use Rattle.std.proofs.Common.{◌≡◌, ◌⊎◌, inl, inr, ℕ, Bool, true, false, cond, List, [], ◌∷◌, codes, Option, Some, None, refl, sym, ◌∙◌, ap, subst}
use Rattle.std.specs.Str.{bytes_eq}
use Rattle.gx_lexer.specs.declared.token.Token.{Token}
use Rattle.gx_lexer.specs.declared.token.Token.TheVariants as token
use Rattle.gx_parse.specs.declared.index.IndexHead.TheVariants as index_head
use Rattle.gx_parse.specs.declared.index.IndexNames.{IndexNames}
use Rattle.gx_parse.specs.declared.index.IndexReader.{IndexReader}
use Rattle.gx_parse.specs.declared.index.IndexReader.TheVariants as index
use Rattle.gx_parse.specs.declared.index.IndexTail.{IndexTail}
use Rattle.gx_parse.specs.declared.index.IndexTail.TheVariants as index_tail
use Rattle.gx_parse.specs.declared.insert.InsertReader.TheVariants as insert
use Rattle.gx_parse.specs.declared.outcome.Outcome.{Outcome}
use Rattle.gx_parse.specs.declared.outcome.Outcome.TheVariants.{Goes, Wrong, Deep}
use Rattle.gx_parse.specs.declared.query.QueryReader.TheVariants as query
use Rattle.gx_parse.specs.declared.query.Task as tasks
use Rattle.gx_parse.specs.declared.query.Task.TheVariants as task
use Rattle.gx_parse.specs.declared.reader.Head.{Head}
use Rattle.gx_parse.specs.declared.reader.Head.TheVariants as head
use Rattle.gx_parse.specs.declared.reader.Verb as verbs
use Rattle.gx_parse.specs.declared.reader.Verb.TheVariants as verb
use Rattle.gx_parse.specs.declared.reader.Word as words
use Rattle.gx_parse.specs.declared.reader.Word.TheVariants as word_is
use Rattle.gx_parse.specs.declared.table.TableReader.{TableReader}
use Rattle.gx_parse.specs.declared.table.TableReader.TheVariants as table
use Rattle.gx_parse.specs.Conditions.{Standing, begun, condition_after, condition_of}
use Rattle.gx_parse.specs.Grammar.{word, IsName, Says, IsWhere, select_then, cond_then}
use Rattle.gx_parse.specs.Outcomes.{Limits, outcome_map, went}
use Rattle.gx_parse.specs.Said.{Said, Nothing, CreateTable}
use Rattle.gx_parse.specs.States.{State, before, within, head_after, state_after, started, started_by, said_at, said_by, alone, about, queried, table_said, index_said, tail_said, indexed, inserted}
use Rattle.gx_parse.specs.Indexes.{index_after}
use Rattle.gx_parse.specs.Inserts.{insert_after}
use Rattle.gx_parse.specs.Queries.{query_after}
use Rattle.gx_parse.specs.Tables.{table_after}
use Rattle.gx_parse.specs.Trees.{Tree}
use Rattle.gx_parse.specs.Words.{is_word, name_in}
use Rattle.gx_parse.proofs.TokenFacts.{same, map_some, is_word_is, name_is}
use Rattle.gx_parse.proofs.HeadFacts.{either_of, TableReads, table_steps, IndexReads, index_steps, QueryReads, query_steps, InsertReads, insert_steps, task_then, TaskRight}
use Rattle.gx_parse.proofs.CondFacts.{CondReads, cond_begins, cond_steps, cond_ends}
use Rattle.gx_parse.specs.Runs.{accept}
use Rattle.gx_parse.proofs.RunFacts.{goes_from}

abbrev pub word_text : words.Word → List ℕ
word_text word_is.Checkpoint = codes "checkpoint"
word_text word_is.Begin = codes "begin"
word_text word_is.Commit = codes "commit"
word_text word_is.Rollback = codes "rollback"

abbrev pub verb_then : verbs.Verb → List Token → List Token
verb_then verb.DropTable rest = word (codes "drop") ∷ word (codes "table") ∷ rest
verb_then verb.DropIndex rest = word (codes "drop") ∷ word (codes "index") ∷ rest
verb_then verb.Vacuum rest = word (codes "vacuum") ∷ rest

abbrev pub HeadReads : List Token → Head → List Token → Type 0
HeadReads whole head.Start rest = whole ≡ rest
HeadReads whole head.Create rest = whole ≡ word (codes "create") ∷ rest
HeadReads whole head.Drop rest = whole ≡ word (codes "drop") ∷ rest
HeadReads whole (head.Word w) rest = whole ≡ word (word_text w) ∷ rest
HeadReads whole (head.Verb v) rest = whole ≡ verb_then v rest
HeadReads whole (head.Named v n) rest = IsName n × (whole ≡ verb_then v (word n ∷ rest))
HeadReads whole (head.Table r) rest = TableReads whole r rest
HeadReads whole (head.Index r) rest = IndexReads whole r rest
HeadReads whole (head.Insert r) rest = InsertReads whole r rest
HeadReads whole (head.Query r) rest = QueryReads whole r rest

abbrev pub where_lead : tasks.Task → List ℕ → List Token → List Token
where_lead d n rest = task_then d (word (codes "from") ∷ word n ∷ word (codes "where") ∷ rest)

abbrev pub Reads : Limits → List Token → State → List Token → Type 0
Reads lim whole (before h) rest = HeadReads whole h rest
Reads lim whole (within d n s) rest = TaskRight d × IsName n × CondReads lim whole (λ xs. where_lead d n xs) s rest

-- the first word
started_is : (whole : List Token) (w : List ℕ) (h : Head) (ts : List Token) → whole ≡ word w ∷ ts → started_by w ≡ Some h → HeadReads whole h ts
started_is whole w h ts r e =
    tests (bytes_eq w (codes "create")) (bytes_eq w (codes "drop")) (bytes_eq w (codes "insert")) (bytes_eq w (codes "delete")) (bytes_eq w (codes "select")) (bytes_eq w (codes "explain"))
    (bytes_eq w (codes "vacuum")) (bytes_eq w (codes "checkpoint")) (bytes_eq w (codes "begin")) (bytes_eq w (codes "commit")) (bytes_eq w (codes "rollback"))
    refl refl refl refl refl refl refl refl refl refl refl e
  where
    found : (v : List ℕ) (g : Head) → bytes_eq w v ≡ true → Some g ≡ Some h → HeadReads (word v ∷ ts) g ts → HeadReads whole h ts
    found v g f k x =
        let P : Head → Type 0 = λ y. HeadReads (word v ∷ ts) y ts in
        let Q : List Token → Type 0 = λ y. HeadReads y h ts in
        let s : g ≡ h = cc in
        subst Q (sym (r ∙ ap (λ (y : List ℕ). word y ∷ ts) (same w v f))) (subst P s x)

    tests : (a b c d e2 f g i j k l : Bool) → bytes_eq w (codes "create") ≡ a → bytes_eq w (codes "drop") ≡ b → bytes_eq w (codes "insert") ≡ c → bytes_eq w (codes "delete") ≡ d
        → bytes_eq w (codes "select") ≡ e2 → bytes_eq w (codes "explain") ≡ f → bytes_eq w (codes "vacuum") ≡ g → bytes_eq w (codes "checkpoint") ≡ i → bytes_eq w (codes "begin") ≡ j
        → bytes_eq w (codes "commit") ≡ k → bytes_eq w (codes "rollback") ≡ l
        → cond a (Some head.Create) (cond b (Some head.Drop) (cond c (Some (head.Insert insert.Begun)) (cond d (Some (head.Query (query.Task task.Delete))) (cond e2 (Some (head.Query (query.Select false)))
        (cond f (Some (head.Query query.Explain)) (cond g (Some (head.Verb verb.Vacuum)) (cond i (Some (head.Word word_is.Checkpoint)) (cond j (Some (head.Word word_is.Begin))
        (cond k (Some (head.Word word_is.Commit)) (cond l (Some (head.Word word_is.Rollback)) None)))))))))) ≡ Some h → HeadReads whole h ts
    tests true b c d e2 f g i j k l ea eb ec ed ee ef eg ei ej ek el x = found (codes "create") head.Create ea x refl
    tests false true c d e2 f g i j k l ea eb ec ed ee ef eg ei ej ek el x = found (codes "drop") head.Drop eb x refl
    tests false false true d e2 f g i j k l ea eb ec ed ee ef eg ei ej ek el x = found (codes "insert") (head.Insert insert.Begun) ec x refl
    tests false false false true e2 f g i j k l ea eb ec ed ee ef eg ei ej ek el x = found (codes "delete") (head.Query (query.Task task.Delete)) ed x (tt, refl)
    tests false false false false true f g i j k l ea eb ec ed ee ef eg ei ej ek el x = found (codes "select") (head.Query (query.Select false)) ee x refl
    tests false false false false false true g i j k l ea eb ec ed ee ef eg ei ej ek el x = found (codes "explain") (head.Query query.Explain) ef x refl
    tests false false false false false false true i j k l ea eb ec ed ee ef eg ei ej ek el x = found (codes "vacuum") (head.Verb verb.Vacuum) eg x refl
    tests false false false false false false false true j k l ea eb ec ed ee ef eg ei ej ek el x = found (codes "checkpoint") (head.Word word_is.Checkpoint) ei x refl
    tests false false false false false false false false true k l ea eb ec ed ee ef eg ei ej ek el x = found (codes "begin") (head.Word word_is.Begin) ej x refl
    tests false false false false false false false false false true l ea eb ec ed ee ef eg ei ej ek el x = found (codes "commit") (head.Word word_is.Commit) ek x refl
    tests false false false false false false false false false false true ea eb ec ed ee ef eg ei ej ek el x = found (codes "rollback") (head.Word word_is.Rollback) el x refl
    tests false false false false false false false false false false false ea eb ec ed ee ef eg ei ej ek el x = cc

start_step : (whole : List Token) (h : Head) (t : Token) (ts : List Token) → whole ≡ t ∷ ts → started t ≡ Some h → HeadReads whole h ts
start_step whole h (token.Word w) ts r e = started_is whole w h ts r e
start_step whole h t ts r e = cc

head_steps : (whole : List Token) (g h : Head) (t : Token) (ts : List Token) → HeadReads whole g (t ∷ ts) → head_after g t ≡ Some h → HeadReads whole h ts
head_steps whole head.Start h t ts r e = start_step whole h t ts r e
head_steps whole head.Create h t ts r e = either (either_of (is_word (codes "table") t) (is_word (codes "index") t) (head.Table table.Begun) (head.Index (index.Head index_head.Begun)) h e)
  where
    either : ((is_word (codes "table") t ≡ true) × (head.Table table.Begun ≡ h)) ⊎ ((is_word (codes "index") t ≡ true) × (head.Index (index.Head index_head.Begun) ≡ h)) → HeadReads whole h ts
    either (inl k) =
        let P : Head → Type 0 = λ y. HeadReads whole y ts in
        subst P k.1 (r ∙ ap (λ (y : Token). word (codes "create") ∷ y ∷ ts) (is_word_is (codes "table") t k.0))
    either (inr k) =
        let P : Head → Type 0 = λ y. HeadReads whole y ts in
        subst P k.1 (r ∙ ap (λ (y : Token). word (codes "create") ∷ y ∷ ts) (is_word_is (codes "index") t k.0))
head_steps whole head.Drop h t ts r e = either (either_of (is_word (codes "table") t) (is_word (codes "index") t) (head.Verb verb.DropTable) (head.Verb verb.DropIndex) h e)
  where
    either : ((is_word (codes "table") t ≡ true) × (head.Verb verb.DropTable ≡ h)) ⊎ ((is_word (codes "index") t ≡ true) × (head.Verb verb.DropIndex ≡ h)) → HeadReads whole h ts
    either (inl k) =
        let P : Head → Type 0 = λ y. HeadReads whole y ts in
        subst P k.1 (r ∙ ap (λ (y : Token). word (codes "drop") ∷ y ∷ ts) (is_word_is (codes "table") t k.0))
    either (inr k) =
        let P : Head → Type 0 = λ y. HeadReads whole y ts in
        subst P k.1 (r ∙ ap (λ (y : Token). word (codes "drop") ∷ y ∷ ts) (is_word_is (codes "index") t k.0))
head_steps whole (head.Word w) h t ts r e = cc
head_steps whole (head.Verb v) h t ts r e =
    let P : Head → Type 0 = λ y. HeadReads whole y ts in
    let m = map_some (λ n. head.Named v n) (name_in t) h e in
    let k = name_is t m.0 m.1 in
    subst P m.2 (k.1, r ∙ ap (λ (y : Token). verb_then v (y ∷ ts)) k.0)
head_steps whole (head.Named v n) h t ts r e = cc
head_steps whole (head.Table x) h t ts r e =
    let P : Head → Type 0 = λ y. HeadReads whole y ts in
    let m = map_some (λ y. head.Table y) (table_after x t) h e in
    subst P m.2 (table_steps whole x m.0 t ts r m.1)
head_steps whole (head.Index x) h t ts r e =
    let P : Head → Type 0 = λ y. HeadReads whole y ts in
    let m = map_some (λ y. head.Index y) (index_after x t) h e in
    subst P m.2 (index_steps whole x m.0 t ts r m.1)
head_steps whole (head.Insert x) h t ts r e =
    let P : Head → Type 0 = λ y. HeadReads whole y ts in
    let m = map_some (λ y. head.Insert y) (insert_after x t) h e in
    subst P m.2 (insert_steps whole x m.0 t ts r m.1)
head_steps whole (head.Query x) h t ts r e =
    let P : Head → Type 0 = λ y. HeadReads whole y ts in
    let m = map_some (λ y. head.Query y) (query_after x t) h e in
    subst P m.2 (query_steps whole x m.0 t ts r m.1)

before_goes : (o : Option Head) (s : State) → outcome_map before (went o) ≡ Goes s → (h : Head) × (o ≡ Some h) × (before h ≡ s)
before_goes None s e = cc
before_goes (Some h) s e = (h, refl, cc)

within_goes : (d : tasks.Task) (n : List ℕ) (o : Outcome Standing) (s : State) → outcome_map (λ x. within d n x) o ≡ Goes s → (x : Standing) × (o ≡ Goes x) × (within d n x ≡ s)
within_goes d n (Goes x) s e = (x, refl, cc)
within_goes d n Wrong s e = cc
within_goes d n Deep s e = cc

where_goes : (lim : Limits) (whole : List Token) (d : tasks.Task) (n : List ℕ) (b : Bool) (s : State) (t : Token) (ts : List Token)
    → QueryReads whole (query.Named d n) (t ∷ ts) → is_word (codes "where") t ≡ b → cond b (Goes (within d n begun)) Wrong ≡ Goes s → Reads lim whole s ts
where_goes lim whole d n false s t ts r f e = cc
where_goes lim whole d n true s t ts r f e =
    let P : State → Type 0 = λ y. Reads lim whole y ts in
    let q : within d n begun ≡ s = cc in
    subst P q (r.0, r.1, cond_begins lim whole (λ xs. where_lead d n xs) ts (r.2 ∙ ap (λ (y : Token). task_then d (word (codes "from") ∷ word n ∷ y ∷ ts)) (is_word_is (codes "where") t f)))

in_head : (lim : Limits) (whole : List Token) (h : Head) (s : State) (t : Token) (ts : List Token) → HeadReads whole h (t ∷ ts) → outcome_map before (went (head_after h t)) ≡ Goes s → Reads lim whole s ts
in_head lim whole h s t ts r e =
    let P : State → Type 0 = λ y. Reads lim whole y ts in
    let m = before_goes (head_after h t) s e in
    subst P m.2 (head_steps whole h m.0 t ts r m.1)

pub state_steps : (lim : Limits) (whole : List Token) (s next : State) (t : Token) (ts : List Token) → Reads lim whole s (t ∷ ts) → state_after lim s t ≡ Goes next → Reads lim whole next ts
state_steps lim whole (before (head.Query (query.Named d n))) next t ts r e = where_goes lim whole d n (is_word (codes "where") t) next t ts r refl e
state_steps lim whole (before (head.Query query.Explain)) next t ts r e = in_head lim whole (head.Query query.Explain) next t ts r e
state_steps lim whole (before (head.Query query.Analyze)) next t ts r e = in_head lim whole (head.Query query.Analyze) next t ts r e
state_steps lim whole (before (head.Query (query.Select x))) next t ts r e = in_head lim whole (head.Query (query.Select x)) next t ts r e
state_steps lim whole (before (head.Query (query.Next x ns))) next t ts r e = in_head lim whole (head.Query (query.Next x ns)) next t ts r e
state_steps lim whole (before (head.Query (query.Listed x ns))) next t ts r e = in_head lim whole (head.Query (query.Listed x ns)) next t ts r e
state_steps lim whole (before (head.Query (query.Task d))) next t ts r e = in_head lim whole (head.Query (query.Task d)) next t ts r e
state_steps lim whole (before (head.Query (query.From d))) next t ts r e = in_head lim whole (head.Query (query.From d)) next t ts r e
state_steps lim whole (before head.Start) next t ts r e = in_head lim whole head.Start next t ts r e
state_steps lim whole (before head.Create) next t ts r e = in_head lim whole head.Create next t ts r e
state_steps lim whole (before head.Drop) next t ts r e = in_head lim whole head.Drop next t ts r e
state_steps lim whole (before (head.Word w)) next t ts r e = in_head lim whole (head.Word w) next t ts r e
state_steps lim whole (before (head.Verb v)) next t ts r e = in_head lim whole (head.Verb v) next t ts r e
state_steps lim whole (before (head.Named v n)) next t ts r e = in_head lim whole (head.Named v n) next t ts r e
state_steps lim whole (before (head.Table x)) next t ts r e = in_head lim whole (head.Table x) next t ts r e
state_steps lim whole (before (head.Index x)) next t ts r e = in_head lim whole (head.Index x) next t ts r e
state_steps lim whole (before (head.Insert x)) next t ts r e = in_head lim whole (head.Insert x) next t ts r e
state_steps lim whole (within d n s) next t ts r e =
    let P : State → Type 0 = λ y. Reads lim whole y ts in
    let m = within_goes d n (condition_after lim s t) next e in
    subst P m.2 (r.0, r.1, cond_steps lim whole (λ xs. where_lead d n xs) s m.0 t ts r.2 m.1)

-- a whole statement

said_same : (x y : Said) → Some x ≡ Some y → x ≡ y
said_same x y e = cc

queries : (lim : Limits) (whole end : List Token) (d : tasks.Task) (n : List ℕ) (c : Option Tree) → TaskRight d → IsName n → IsWhere lim c end → whole ≡ task_then d (word (codes "from") ∷ word n ∷ end)
    → Says lim whole (queried d n c)
queries lim whole end task.Delete n c a b w p = (end, b, w, p)
queries lim whole end (task.Select columns) n c a b w p = (end, b, a, w, p)
queries lim whole end (task.Explain columns) n c a b w p =
    (word (codes "select") ∷ select_then columns (word (codes "from") ∷ word n ∷ end), (end, b, a, w, refl), p)

alone_says : (lim : Limits) (whole : List Token) (w : words.Word) → whole ≡ word (word_text w) ∷ [] → Says lim whole (alone w)
alone_says lim whole word_is.Checkpoint p = p
alone_says lim whole word_is.Begin p = p
alone_says lim whole word_is.Commit p = p
alone_says lim whole word_is.Rollback p = p

about_says : (lim : Limits) (whole : List Token) (v : verbs.Verb) (n : List ℕ) → IsName n → whole ≡ verb_then v (word n ∷ []) → Says lim whole (about v n)
about_says lim whole verb.DropTable n a p = (a, p)
about_says lim whole verb.DropIndex n a p = (a, p)
about_says lim whole verb.Vacuum n a p = (a, p)

table_ends : (lim : Limits) (whole : List Token) (r : TableReader) (x : Said) → TableReads whole r [] → table_said r ≡ Some x → Says lim whole x
table_ends lim whole (table.Closed n cs) x r e =
    let P : Said → Type 0 = λ y. Says lim whole y in
    subst P (said_same (CreateTable n cs) x e) r
table_ends lim whole r x q e = cc

tail_ends : (lim : Limits) (whole : List Token) (n : IndexNames) (b : IndexTail) (x : Said) → IndexReads whole (index.Tail n b) [] → tail_said n b ≡ Some x → Says lim whole x
tail_ends lim whole n (index_tail.Closed c p) x r e =
    let P : Said → Type 0 = λ y. Says lim whole y in
    subst P (said_same (indexed n c p) x e) r
tail_ends lim whole n b x r e = cc

index_ends : (lim : Limits) (whole : List Token) (r : IndexReader) (x : Said) → IndexReads whole r [] → index_said r ≡ Some x → Says lim whole x
index_ends lim whole (index.Head h) x r e = cc
index_ends lim whole (index.Tail n b) x r e = tail_ends lim whole n b x r e

head_ends : (lim : Limits) (whole : List Token) (h : Head) (x : Said) → HeadReads whole h [] → said_by h ≡ Some x → Says lim whole x
head_ends lim whole head.Start x r e = let P : Said → Type 0 = λ y. Says lim whole y in subst P (said_same Nothing x e) r
head_ends lim whole (head.Word w) x r e = let P : Said → Type 0 = λ y. Says lim whole y in subst P (said_same (alone w) x e) (alone_says lim whole w r)
head_ends lim whole (head.Named v n) x r e = let P : Said → Type 0 = λ y. Says lim whole y in subst P (said_same (about v n) x e) (about_says lim whole v n r.0 r.1)
head_ends lim whole (head.Table q) x r e = table_ends lim whole q x r e
head_ends lim whole (head.Index q) x r e = index_ends lim whole q x r e
head_ends lim whole (head.Insert (insert.Closed parts)) x r e =
    let P : Said → Type 0 = λ y. Says lim whole y in
    subst P (said_same (inserted parts) x e) (r.0, r.2.name, r.2.listed, r.1, r.2.have, r.2.rows, r.3)
head_ends lim whole (head.Query (query.Named d n)) x r e =
    let P : Said → Type 0 = λ y. Says lim whole y in
    subst P (said_same (queried d n None) x e) (queries lim whole [] d n None r.0 r.1 refl r.2)
head_ends lim whole h x r e = cc

state_ends : (lim : Limits) (whole : List Token) (s : State) (x : Said) → Reads lim whole s [] → said_at s ≡ Some x → Says lim whole x
state_ends lim whole (before h) x r e = head_ends lim whole h x r e
state_ends lim whole (within d n s) x r e =
    let P : Said → Type 0 = λ y. Says lim whole y in
    let m = map_some (λ c. queried d n (Some c)) (condition_of s) x e in
    let k = cond_ends lim whole (λ xs. where_lead d n xs) s m.0 r.2 m.1 in
    subst P m.2 (queries lim whole (word (codes "where") ∷ cond_then k.cond []) d n (Some m.0) r.0 r.1 (k.cond, refl, k.says, k.opens_within, k.joins_within) k.parts)

pub reads_on : (lim : Limits) (whole : List Token) (s : State) (ts : List Token) (x : Said) → Reads lim whole s ts → accept lim s ts ≡ Some x → Says lim whole x
reads_on lim whole s [] x r e = state_ends lim whole s x r e
reads_on lim whole s (t ∷ ts) x r e =
    let m = goes_from (λ next. accept lim next ts) (state_after lim s t) x e in
    reads_on lim whole m.0 ts x (state_steps lim whole s m.0 t ts r m.1) m.2

-- what is read of tokens is what they say
pub sound : (lim : Limits) (ts : List Token) (x : Said) → accept lim (before head.Start) ts ≡ Some x → Says lim ts x
sound lim ts x e = reads_on lim ts (before head.Start) ts x refl e
