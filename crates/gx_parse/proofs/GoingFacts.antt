-- Whatever is read so far, some statement goes on with it.
use Rattle.std.proofs.Common.{◌≡◌, ℕ, Bool, true, false, cond, List, [], ◌∷◌, codes, Option, Some, None, is_some, refl, ◌∙◌, ap}
use Rattle.std.specs.Option.{option_map}
use Rattle.gx_lexer.specs.declared.token.Token.{Token}
use Rattle.gx_lexer.specs.declared.token.Token.TheVariants as token
use Rattle.gx_value.specs.declared.literal.Literal.{Literal}
use Rattle.gx_value.specs.declared.operators.Operator.{Operator}
use Rattle.gx_parse.specs.declared.given.GivenReader.{GivenReader}
use Rattle.gx_parse.specs.declared.given.GivenReader.TheVariants as given
use Rattle.gx_parse.specs.declared.given.TypeReader.TheVariants as kind
use Rattle.gx_parse.specs.declared.condition.Part.{Part}
use Rattle.gx_parse.specs.declared.condition.Part.TheVariants as part
use Rattle.gx_parse.specs.declared.index.IndexHead.TheVariants as index_head
use Rattle.gx_parse.specs.declared.index.IndexReader.{IndexReader}
use Rattle.gx_parse.specs.declared.index.IndexReader.TheVariants as index
use Rattle.gx_parse.specs.declared.index.IndexTail.TheVariants as tail
use Rattle.gx_parse.specs.declared.insert.InsertReader.{InsertReader}
use Rattle.gx_parse.specs.declared.insert.InsertReader.TheVariants as insert
use Rattle.gx_parse.specs.declared.query.QueryReader.{QueryReader}
use Rattle.gx_parse.specs.declared.query.QueryReader.TheVariants as query
use Rattle.gx_parse.specs.declared.query.Task as tasks
use Rattle.gx_parse.specs.declared.reader.Head.{Head}
use Rattle.gx_parse.specs.declared.reader.Head.TheVariants as head
use Rattle.gx_parse.specs.declared.table.TableReader.{TableReader}
use Rattle.gx_parse.specs.declared.table.TableReader.TheVariants as table
use Rattle.gx_parse.specs.Conditions.{closed_on, and_operand}
use Rattle.gx_parse.specs.Grammar.{word}
use Rattle.gx_parse.specs.Nests.{Group, Frame, Nest, is_negated, with_operand, joined, total_of, settled, settle_closed}
use Rattle.gx_parse.specs.Outcomes.{Limits, outcome_map}
use Rattle.gx_parse.specs.Said.{Said}
use Rattle.gx_parse.specs.States.{State, before, within, queried}
use Rattle.gx_parse.specs.Trees as trees
use Rattle.gx_parse.proofs.CondFacts.{PartReads}
use Rattle.gx_parse.specs.Runs.{accept, then}
use Rattle.gx_parse.proofs.SoundFacts.{Reads, where_lead}

-- tokens with which the statement ends
abbrev pub Goes : Limits → State → Type 0
Goes lim s = (more : List Token) × (is_some (accept lim s more) ≡ true)

abbrev a : Token
a = word (codes "a")

-- Conditions: what is open is closed.

abbrev closes : List Frame → List Token
closes [] = []
closes (f ∷ fs) = cond f.negated (closes fs) (token.Close ∷ closes fs)

abbrev at : tasks.Task → List ℕ → Nest → Part → State
at d n nest p = within d n (record { nest = nest; part = p })

total_some : (o : Option trees.Tree) (y : trees.Tree) → (z : trees.Tree) × (total_of o (Some y) ≡ Some z)
total_some None y = (y, refl)
total_some (Some x) y = (trees.Or x y, refl)

abbrev close_all : Limits → tasks.Task → List ℕ → List Token → Option Nest → Option Said
close_all lim d m ts o = then (λ s. accept lim s ts) (outcome_map (λ next. within d m next) (closed_on o))

settled_run : (lim : Limits) (d : tasks.Task) (m : List ℕ) (fs : List Frame) (g : Group) (k : ℕ) (t : trees.Tree) → is_some (accept lim (at d m (settled fs g k t) part.Joint) (closes fs)) ≡ true
settled_run lim d m [] g k t =
    let z = total_some g.sum (joined g.product t) in
    ap (λ (o : Option trees.Tree). is_some (option_map (λ c. queried d m (Some c)) o)) z.1
settled_run lim d m (f ∷ fs) g k t = by_not f.negated (settled_run lim d m fs f.group k (trees.Not t)) (λ z. settled_run lim d m fs f.group k z)
  where
    by_not : (b : Bool) → is_some (accept lim (at d m (settled fs f.group k (trees.Not t)) part.Joint) (closes fs)) ≡ true
        → ((z : trees.Tree) → is_some (accept lim (at d m (settled fs f.group k z) part.Joint) (closes fs)) ≡ true)
        → is_some (accept lim (at d m (cond b (settled fs f.group k (trees.Not t)) (record { frames = f ∷ fs; group = with_operand g t; joins = k })) part.Joint) (cond b (closes fs) (token.Close ∷ closes fs))) ≡ true
    by_not true x y = x
    by_not false x y =
        let z = total_some g.sum (joined g.product t) in
        ap (λ (o : Option trees.Tree). is_some (close_all lim d m (closes fs) (settle_closed (f ∷ fs) k o))) z.1 ∙ y z.0

joint_run : (lim : Limits) (d : tasks.Task) (m : List ℕ) (fs : List Frame) (sum product : Option trees.Tree) (k : ℕ) (t : trees.Tree) → product ≡ Some t → is_negated fs ≡ false
    → is_some (accept lim (at d m (record { frames = fs; group = record { sum = sum; product = product }; joins = k }) part.Joint) (closes fs)) ≡ true
joint_run lim d m [] sum product k t e n =
    let z = total_some sum t in
    ap (λ (o : Option trees.Tree). is_some (option_map (λ c. queried d m (Some c)) (total_of sum o))) e ∙ ap (λ (o : Option trees.Tree). is_some (option_map (λ c. queried d m (Some c)) o)) z.1
joint_run lim d m (f ∷ fs) sum product k t e n =
    let z = total_some sum t in
    ap (λ (b : Bool). is_some (accept lim (at d m (record { frames = f ∷ fs; group = record { sum = sum; product = product }; joins = k }) part.Joint) (cond b (closes fs) (token.Close ∷ closes fs)))) n
    ∙ ap (λ (o : Option trees.Tree). is_some (close_all lim d m (closes fs) (settle_closed (f ∷ fs) k (total_of sum o)))) e
    ∙ ap (λ (o : Option trees.Tree). is_some (close_all lim d m (closes fs) (settle_closed (f ∷ fs) k o))) z.1
    ∙ settled_run lim d m fs f.group k z.0

-- a literal that is whole before what is closed
abbrev WholeNext : Limits → tasks.Task → List ℕ → Nest → List ℕ → Operator → GivenReader → List Token → Type 0
WholeNext lim d m n c op g ts = is_some (accept lim (at d m n (part.Literal c op g)) ts) ≡ true

whole_run : (lim : Limits) (d : tasks.Task) (m : List ℕ) (n : Nest) (c : List ℕ) (op : Operator) (g : GivenReader) (t : trees.Tree) (ts : List Token)
    → ((us : List Token) → accept lim (at d m n (part.Literal c op g)) (token.Close ∷ us) ≡ accept lim (at d m (and_operand n t) part.Joint) (token.Close ∷ us))
    → accept lim (at d m n (part.Literal c op g)) [] ≡ accept lim (at d m (and_operand n t) part.Joint) []
    → (fs : List Frame) → accept lim (at d m n (part.Literal c op g)) (closes fs) ≡ accept lim (at d m (and_operand n t) part.Joint) (closes fs)
whole_run lim d m n c op g t ts f e [] = e
whole_run lim d m n c op g t ts f e (x ∷ fs) = by_not x.negated (whole_run lim d m n c op g t ts f e fs)
  where
    by_not : (b : Bool) → accept lim (at d m n (part.Literal c op g)) (closes fs) ≡ accept lim (at d m (and_operand n t) part.Joint) (closes fs)
        → accept lim (at d m n (part.Literal c op g)) (cond b (closes fs) (token.Close ∷ closes fs)) ≡ accept lim (at d m (and_operand n t) part.Joint) (cond b (closes fs) (token.Close ∷ closes fs))
    by_not true h = h
    by_not false h = f (closes fs)

then_closes : (lim : Limits) (d : tasks.Task) (m : List ℕ) (n : Nest) (c : List ℕ) (op : Operator) (g : GivenReader) (t : trees.Tree)
    → accept lim (at d m n (part.Literal c op g)) (closes n.frames) ≡ accept lim (at d m (and_operand n t) part.Joint) (closes n.frames)
    → is_some (accept lim (at d m n (part.Literal c op g)) (closes n.frames)) ≡ true
then_closes lim d m n c op g t e = ap (λ (o : Option Said). is_some o) e ∙ settled_run lim d m n.frames n.group n.joins t

literal_whole : (lim : Limits) (d : tasks.Task) (m : List ℕ) (n : Nest) (c : List ℕ) (op : Operator) (l : Literal) → is_some (accept lim (at d m n (part.Literal c op (given.Whole l))) (closes n.frames)) ≡ true
literal_whole lim d m n c op l =
    let t : trees.Tree = trees.Atom c op (record { literal = l; cast = None }) in
    then_closes lim d m n c op (given.Whole l) t (whole_run lim d m n c op (given.Whole l) t [] (λ us. refl) refl n.frames)

literal_word : (lim : Limits) (d : tasks.Task) (m : List ℕ) (n : Nest) (c : List ℕ) (op : Operator) (l : Literal) (w : List ℕ)
    → is_some (accept lim (at d m n (part.Literal c op (given.Typed l (kind.Word w)))) (closes n.frames)) ≡ true
literal_word lim d m n c op l w =
    let t : trees.Tree = trees.Atom c op (record { literal = l; cast = Some (record { word = w; list = false }) }) in
    then_closes lim d m n c op (given.Typed l (kind.Word w)) t (whole_run lim d m n c op (given.Typed l (kind.Word w)) t [] (λ us. refl) refl n.frames)

literal_list : (lim : Limits) (d : tasks.Task) (m : List ℕ) (n : Nest) (c : List ℕ) (op : Operator) (l : Literal) (w : List ℕ)
    → is_some (accept lim (at d m n (part.Literal c op (given.Typed l (kind.List w)))) (closes n.frames)) ≡ true
literal_list lim d m n c op l w =
    let t : trees.Tree = trees.Atom c op (record { literal = l; cast = Some (record { word = w; list = true }) }) in
    then_closes lim d m n c op (given.Typed l (kind.List w)) t (whole_run lim d m n c op (given.Typed l (kind.List w)) t [] (λ us. refl) refl n.frames)

literal_goes : (lim : Limits) (d : tasks.Task) (m : List ℕ) (n : Nest) (c : List ℕ) (op : Operator) (g : GivenReader) → Goes lim (at d m n (part.Literal c op g))
literal_goes lim d m n c op given.Array = (token.OpenBracket ∷ token.CloseBracket ∷ closes n.frames, literal_whole lim d m n c op _)
literal_goes lim d m n c op (given.First texts) = (token.CloseBracket ∷ closes n.frames, literal_whole lim d m n c op _)
literal_goes lim d m n c op (given.Next texts) = (token.Text [] ∷ token.CloseBracket ∷ closes n.frames, literal_whole lim d m n c op _)
literal_goes lim d m n c op (given.Element texts) = (token.CloseBracket ∷ closes n.frames, literal_whole lim d m n c op _)
literal_goes lim d m n c op (given.Whole l) = (closes n.frames, literal_whole lim d m n c op l)
literal_goes lim d m n c op (given.Cast l) = (a ∷ closes n.frames, literal_word lim d m n c op l (codes "a"))
literal_goes lim d m n c op (given.Typed l (kind.Word w)) = (closes n.frames, literal_word lim d m n c op l w)
literal_goes lim d m n c op (given.Typed l (kind.Bracket w)) = (token.CloseBracket ∷ closes n.frames, literal_list lim d m n c op l w)
literal_goes lim d m n c op (given.Typed l (kind.List w)) = (closes n.frames, literal_list lim d m n c op l w)

part_goes : (lim : Limits) (whole : List Token) (lead : List Token → List Token) (d : tasks.Task) (m : List ℕ) (n : Nest) (p : Part) (rest : List Token)
    → PartReads lim whole lead n p rest → Goes lim (at d m n p)
part_goes lim whole lead d m n part.Operand rest r = (a ∷ word (codes "is") ∷ word (codes "null") ∷ closes n.frames, settled_run lim d m n.frames n.group n.joins (trees.IsNull (codes "a") false))
part_goes lim whole lead d m n (part.Column c) rest r = (word (codes "is") ∷ word (codes "null") ∷ closes n.frames, settled_run lim d m n.frames n.group n.joins (trees.IsNull c false))
part_goes lim whole lead d m n (part.Sign c op) rest r = (token.Text [] ∷ closes n.frames, literal_whole lim d m n c op _)
part_goes lim whole lead d m n (part.Literal c op g) rest r = literal_goes lim d m n c op g
part_goes lim whole lead d m n (part.Is c) rest r = (word (codes "null") ∷ closes n.frames, settled_run lim d m n.frames n.group n.joins (trees.IsNull c false))
part_goes lim whole lead d m n (part.IsNot c) rest r = (word (codes "null") ∷ closes n.frames, settled_run lim d m n.frames n.group n.joins (trees.IsNull c true))
part_goes lim whole lead d m n part.Joint rest j = (closes n.frames, joint_run lim d m n.frames n.group.sum n.group.product n.joins j.tree j.product j.top)

-- Statements up to their condition.

table_goes : (lim : Limits) (r : TableReader) → Goes lim (before (head.Table r))
table_goes lim table.Begun = (a ∷ token.Open ∷ a ∷ a ∷ token.Close ∷ [], refl)
table_goes lim (table.Named n) = (token.Open ∷ a ∷ a ∷ token.Close ∷ [], refl)
table_goes lim (table.Next n cs) = (a ∷ a ∷ token.Close ∷ [], refl)
table_goes lim (table.Column n cs c) = (a ∷ token.Close ∷ [], refl)
table_goes lim (table.Typed n cs c (kind.Word w)) = (token.Close ∷ [], refl)
table_goes lim (table.Typed n cs c (kind.Bracket w)) = (token.CloseBracket ∷ token.Close ∷ [], refl)
table_goes lim (table.Typed n cs c (kind.List w)) = (token.Close ∷ [], refl)
table_goes lim (table.Closed n cs) = ([], refl)

index_goes : (lim : Limits) (r : IndexReader) → Goes lim (before (head.Index r))
index_goes lim (index.Head index_head.Begun) = (a ∷ word (codes "on") ∷ a ∷ word (codes "using") ∷ a ∷ token.Open ∷ a ∷ token.Close ∷ [], refl)
index_goes lim (index.Head (index_head.Named n)) = (word (codes "on") ∷ a ∷ word (codes "using") ∷ a ∷ token.Open ∷ a ∷ token.Close ∷ [], refl)
index_goes lim (index.Head (index_head.On n)) = (a ∷ word (codes "using") ∷ a ∷ token.Open ∷ a ∷ token.Close ∷ [], refl)
index_goes lim (index.Head (index_head.Table n t)) = (word (codes "using") ∷ a ∷ token.Open ∷ a ∷ token.Close ∷ [], refl)
index_goes lim (index.Head (index_head.Using n t)) = (a ∷ token.Open ∷ a ∷ token.Close ∷ [], refl)
index_goes lim (index.Head (index_head.Method n t m)) = (token.Open ∷ a ∷ token.Close ∷ [], refl)
index_goes lim (index.Head (index_head.Open n t m)) = (a ∷ token.Close ∷ [], refl)
index_goes lim (index.Tail n tail.Column) = (token.Close ∷ [], refl)
index_goes lim (index.Tail n (tail.Class c)) = (token.Close ∷ [], refl)
index_goes lim (index.Tail n (tail.Open c)) = (a ∷ token.Operator (codes "=") ∷ token.Number [] ∷ token.Close ∷ token.Close ∷ [], refl)
index_goes lim (index.Tail n (tail.Word c w)) = (token.Operator (codes "=") ∷ token.Number [] ∷ token.Close ∷ token.Close ∷ [], refl)
index_goes lim (index.Tail n (tail.Equal c w)) = (token.Number [] ∷ token.Close ∷ token.Close ∷ [], refl)
index_goes lim (index.Tail n (tail.Number c p)) = (token.Close ∷ token.Close ∷ [], refl)
index_goes lim (index.Tail n (tail.Given c p)) = (token.Close ∷ [], refl)
index_goes lim (index.Tail n (tail.Closed c p)) = ([], refl)

insert_goes : (lim : Limits) (r : InsertReader) → Goes lim (before (head.Insert r))
insert_goes lim insert.Begun = (word (codes "into") ∷ a ∷ word (codes "values") ∷ token.Open ∷ token.Text [] ∷ token.Close ∷ [], refl)
insert_goes lim insert.Into = (a ∷ word (codes "values") ∷ token.Open ∷ token.Text [] ∷ token.Close ∷ [], refl)
insert_goes lim (insert.Named n) = (word (codes "values") ∷ token.Open ∷ token.Text [] ∷ token.Close ∷ [], refl)
insert_goes lim (insert.Next n ns) = (a ∷ token.Close ∷ word (codes "values") ∷ token.Open ∷ token.Text [] ∷ token.Close ∷ [], refl)
insert_goes lim (insert.Listed n ns) = (token.Close ∷ word (codes "values") ∷ token.Open ∷ token.Text [] ∷ token.Close ∷ [], refl)
insert_goes lim (insert.Columns n ns) = (word (codes "values") ∷ token.Open ∷ token.Text [] ∷ token.Close ∷ [], refl)
insert_goes lim (insert.Values p) = (token.Open ∷ token.Text [] ∷ token.Close ∷ [], refl)
insert_goes lim (insert.Value p row) = (token.Text [] ∷ token.Close ∷ [], refl)
insert_goes lim (insert.Given p row given.Array) = (token.OpenBracket ∷ token.CloseBracket ∷ token.Close ∷ [], refl)
insert_goes lim (insert.Given p row (given.First texts)) = (token.CloseBracket ∷ token.Close ∷ [], refl)
insert_goes lim (insert.Given p row (given.Next texts)) = (token.Text [] ∷ token.CloseBracket ∷ token.Close ∷ [], refl)
insert_goes lim (insert.Given p row (given.Element texts)) = (token.CloseBracket ∷ token.Close ∷ [], refl)
insert_goes lim (insert.Given p row (given.Whole l)) = (token.Close ∷ [], refl)
insert_goes lim (insert.Given p row (given.Cast l)) = (a ∷ token.Close ∷ [], refl)
insert_goes lim (insert.Given p row (given.Typed l (kind.Word w))) = (token.Close ∷ [], refl)
insert_goes lim (insert.Given p row (given.Typed l (kind.Bracket w))) = (token.CloseBracket ∷ token.Close ∷ [], refl)
insert_goes lim (insert.Given p row (given.Typed l (kind.List w))) = (token.Close ∷ [], refl)
insert_goes lim (insert.Closed p) = ([], refl)

query_goes : (lim : Limits) (r : QueryReader) → Goes lim (before (head.Query r))
query_goes lim query.Explain = (word (codes "analyze") ∷ word (codes "select") ∷ token.Star ∷ word (codes "from") ∷ a ∷ [], refl)
query_goes lim query.Analyze = (word (codes "select") ∷ token.Star ∷ word (codes "from") ∷ a ∷ [], refl)
query_goes lim (query.Select x) = (token.Star ∷ word (codes "from") ∷ a ∷ [], refl)
query_goes lim (query.Next x ns) = (a ∷ word (codes "from") ∷ a ∷ [], refl)
query_goes lim (query.Listed x ns) = (word (codes "from") ∷ a ∷ [], refl)
query_goes lim (query.Task d) = (word (codes "from") ∷ a ∷ [], refl)
query_goes lim (query.From d) = (a ∷ [], refl)
query_goes lim (query.Named d n) = ([], refl)

head_goes : (lim : Limits) (h : Head) → Goes lim (before h)
head_goes lim head.Start = ([], refl)
head_goes lim head.Create = (word (codes "table") ∷ a ∷ token.Open ∷ a ∷ a ∷ token.Close ∷ [], refl)
head_goes lim head.Drop = (word (codes "table") ∷ a ∷ [], refl)
head_goes lim (head.Word w) = ([], refl)
head_goes lim (head.Verb v) = (a ∷ [], refl)
head_goes lim (head.Named v n) = ([], refl)
head_goes lim (head.Table r) = table_goes lim r
head_goes lim (head.Index r) = index_goes lim r
head_goes lim (head.Insert r) = insert_goes lim r
head_goes lim (head.Query r) = query_goes lim r

pub state_goes : (lim : Limits) (whole : List Token) (s : State) (rest : List Token) → Reads lim whole s rest → Goes lim s
state_goes lim whole (before h) rest r = head_goes lim h
state_goes lim whole (within d n s) rest r = part_goes lim whole (λ xs. where_lead d n xs) d n s.nest s.part rest r.2
