-- What tokens say is read of them.
use Rattle.std.proofs.Common.{◌≡◌, ℕ, ◌+◌, ◌<◌, ◌≤◌, Bool, true, false, ◌||◌, max, cond, nat_lt, List, [], ◌∷◌, ◌++◌, length, map, codes, Option, Some, None, refl, sym, ◌∙◌, ap, subst, append_assoc, arith}
use Rattle.std.specs.Str.{bytes_eq}
use Rattle.std.specs.Option.{option_map}
use Rattle.std.proofs.lemmas.Bool.Decides.{nat_tests}
use Rattle.std.proofs.lemmas.List.{append-nil}
use Rattle.gx_lexer.specs.declared.token.Token.{Token}
use Rattle.gx_lexer.specs.declared.token.Token.TheVariants as token
use Rattle.gx_value.specs.declared.literal.Form.TheVariants as form
use Rattle.gx_value.specs.declared.literal.Literal.{Literal}
use Rattle.gx_value.specs.declared.operators.Operator.{Operator}
use Rattle.gx_parse.specs.declared.statement.Given as statement
use Rattle.gx_parse.specs.declared.statement.TypeWord.{TypeWord}
use Rattle.gx_parse.specs.declared.given.TypeReader.{TypeReader}
use Rattle.gx_parse.specs.declared.given.TypeReader.TheVariants as kind
use Rattle.gx_parse.specs.declared.given.GivenReader.{GivenReader}
use Rattle.gx_parse.specs.declared.given.GivenReader.TheVariants as given
use Rattle.gx_parse.specs.declared.condition.Part.TheVariants as part
use Rattle.gx_parse.specs.declared.outcome.Outcome.{Outcome}
use Rattle.gx_parse.specs.declared.outcome.Outcome.TheVariants.{Goes, Deep}
use Rattle.gx_parse.specs.declared.query.Task as tasks
use Rattle.gx_parse.specs.declared.condition.Part.{Part}
use Rattle.gx_parse.specs.Conditions.{Standing, open_after, closed_on, on, and_operand, named_after, signed_after, given_on, literal_on, behind_literal, ended_in}
use Rattle.gx_parse.specs.Grammar.{word, IsName, type_then, Item, item_token, item_text, more_items, items_then, Bare, Phrase, bare_then, cast_then, given_then, literal_of, given_by, Cond, cond_then, tightness, SaysTree, opens, joins}
use Rattle.gx_parse.specs.Grammar.Item.{text, number}
use Rattle.gx_parse.specs.Grammar.Bare.{null, one, list}
use Rattle.gx_parse.specs.Grammar.Cond.{atom, is_null, group, negation, conj, disj}
use Rattle.gx_parse.specs.Literals.{type_after, type_of, given_from, given_after, given_of}
use Rattle.gx_parse.specs.Nests.{Group, Frame, Nest, no_group, is_negated, with_operand, total, opened, settled, settle_closed, and_behind, or_behind}
use Rattle.gx_parse.specs.Outcomes.{Limits, outcome_map}
use Rattle.gx_parse.specs.States.{State, within, state_after, queried}
use Rattle.gx_parse.specs.Trees as trees
use Rattle.gx_parse.specs.Words.{is_clause, is_other_reserved, is_word, name_in, operator_of}
use Rattle.gx_parse.proofs.TokenFacts.{name_again}
use Rattle.gx_parse.specs.Runs.{accept, then}
use Rattle.gx_parse.proofs.RunFacts.{step}

-- A type.

abbrev pub kind_as : Bool → List ℕ → TypeReader
kind_as true w = kind.List w
kind_as false w = kind.Word w

pub type_as : (b : Bool) (w : List ℕ) → type_of (kind_as b w) ≡ Some (record { word = w; list = b })
type_as true w = refl
type_as false w = refl

pub kind_run : (lim : Limits) (E : TypeReader → State) → ((k m : TypeReader) (t : Token) → type_after k t ≡ Some m → state_after lim (E k) t ≡ Goes (E m))
    → (b : Bool) (w : List ℕ) (rest : List Token) → accept lim (E (kind.Word w)) (cond b (token.OpenBracket ∷ token.CloseBracket ∷ rest) rest) ≡ accept lim (E (kind_as b w)) rest
kind_run lim E law true w rest =
    step lim (E (kind.Word w)) (E (kind.Bracket w)) token.OpenBracket (token.CloseBracket ∷ rest) (law (kind.Word w) (kind.Bracket w) token.OpenBracket refl)
    ∙ step lim (E (kind.Bracket w)) (E (kind.List w)) token.CloseBracket rest (law (kind.Bracket w) (kind.List w) token.CloseBracket refl)
kind_run lim E law false w rest = refl

-- A literal.

abbrev pub first_of : Bare → Token
first_of null = word (codes "null")
first_of (one i) = item_token i
first_of (list is) = word (codes "array")

abbrev pub behind_first : Bare → List Token → List Token
behind_first null rest = rest
behind_first (one i) rest = rest
behind_first (list is) rest = token.OpenBracket ∷ items_then is (token.CloseBracket ∷ rest)

abbrev pub opened_by : Bare → GivenReader
opened_by (list is) = given.Array
opened_by b = given.Whole (literal_of b)

pub bare_parts : (b : Bare) (rest : List Token) → bare_then b rest ≡ first_of b ∷ behind_first b rest
bare_parts null rest = refl
bare_parts (one i) rest = refl
bare_parts (list is) rest = refl

pub bare_begins : (b : Bare) → given_from (first_of b) ≡ Some (opened_by b)
bare_begins null = refl
bare_begins (one (text t)) = refl
bare_begins (one (number n)) = refl
bare_begins (list is) = refl

abbrev Law : Limits → (GivenReader → State) → Type 0
Law lim E = (g h : GivenReader) (t : Token) → given_after g t ≡ Some h → state_after lim (E g) t ≡ Goes (E h)

item_next : (texts : List (List ℕ)) (i : Item) → given_after (given.Next texts) (item_token i) ≡ Some (given.Element (texts ++ item_text i ∷ []))
item_next texts (text t) = refl
item_next texts (number n) = refl

item_first : (i : Item) → given_after (given.First []) (item_token i) ≡ Some (given.Element (item_text i ∷ []))
item_first (text t) = refl
item_first (number n) = refl

abbrev list_of : List (List ℕ) → GivenReader
list_of texts = given.Whole (record { form = form.List; texts = texts })

items_run : (lim : Limits) (E : GivenReader → State) → Law lim E → (texts : List (List ℕ)) (is : List Item) (rest : List Token)
    → accept lim (E (given.Element texts)) (more_items is (token.CloseBracket ∷ rest)) ≡ accept lim (E (list_of (texts ++ map item_text is))) rest
items_run lim E law texts [] rest =
    step lim (E (given.Element texts)) (E (list_of texts)) token.CloseBracket rest (law (given.Element texts) (list_of texts) token.CloseBracket refl)
    ∙ ap (λ (xs : List (List ℕ)). accept lim (E (list_of xs)) rest) (sym (append-nil texts))
items_run lim E law texts (i ∷ is) rest =
    let more : List Token = more_items is (token.CloseBracket ∷ rest) in
    step lim (E (given.Element texts)) (E (given.Next texts)) token.Comma (item_token i ∷ more) (law (given.Element texts) (given.Next texts) token.Comma refl)
    ∙ step lim (E (given.Next texts)) (E (given.Element (texts ++ item_text i ∷ []))) (item_token i) more (law (given.Next texts) (given.Element (texts ++ item_text i ∷ [])) (item_token i) (item_next texts i))
    ∙ items_run lim E law (texts ++ item_text i ∷ []) is rest
    ∙ ap (λ (xs : List (List ℕ)). accept lim (E (list_of xs)) rest) (append_assoc texts (item_text i ∷ []) (map item_text is))

list_run : (lim : Limits) (E : GivenReader → State) → Law lim E → (is : List Item) (rest : List Token)
    → accept lim (E (given.First [])) (items_then is (token.CloseBracket ∷ rest)) ≡ accept lim (E (list_of (map item_text is))) rest
list_run lim E law [] rest = step lim (E (given.First [])) (E (list_of [])) token.CloseBracket rest (law (given.First []) (list_of []) token.CloseBracket refl)
list_run lim E law (i ∷ is) rest =
    let more : List Token = more_items is (token.CloseBracket ∷ rest) in
    step lim (E (given.First [])) (E (given.Element (item_text i ∷ []))) (item_token i) more (law (given.First []) (given.Element (item_text i ∷ [])) (item_token i) (item_first i))
    ∙ items_run lim E law (item_text i ∷ []) is rest

bare_run : (lim : Limits) (E : GivenReader → State) → Law lim E → (b : Bare) (rest : List Token) → accept lim (E (opened_by b)) (behind_first b rest) ≡ accept lim (E (given.Whole (literal_of b))) rest
bare_run lim E law null rest = refl
bare_run lim E law (one i) rest = refl
bare_run lim E law (list is) rest =
    step lim (E given.Array) (E (given.First [])) token.OpenBracket (items_then is (token.CloseBracket ∷ rest)) (law given.Array (given.First []) token.OpenBracket refl)
    ∙ list_run lim E law is rest

abbrev pub ended_by : Literal → Option TypeWord → GivenReader
ended_by l None = given.Whole l
ended_by l (Some w) = given.Typed l (kind_as w.list w.word)

cast_run : (lim : Limits) (E : GivenReader → State) → Law lim E → (l : Literal) (c : Option TypeWord) (rest : List Token)
    → accept lim (E (given.Whole l)) (cast_then c rest) ≡ accept lim (E (ended_by l c)) rest
cast_run lim E law l None rest = refl
cast_run lim E law l (Some w) rest =
    step lim (E (given.Whole l)) (E (given.Cast l)) token.Cast (type_then w rest) (law (given.Whole l) (given.Cast l) token.Cast refl)
    ∙ step lim (E (given.Cast l)) (E (given.Typed l (kind.Word w.word))) (word w.word) (cond w.list (token.OpenBracket ∷ token.CloseBracket ∷ rest) rest) (law (given.Cast l) (given.Typed l (kind.Word w.word)) (word w.word) refl)
    ∙ kind_run lim (λ k. E (given.Typed l k)) (λ k m t e. law (given.Typed l k) (given.Typed l m) t (ap (λ (o : Option TypeReader). option_map (λ next. given.Typed l next) o) e)) w.list w.word rest

-- the literal behind its first token
pub given_run : (lim : Limits) (E : GivenReader → State) → Law lim E → (p : Phrase) (rest : List Token)
    → accept lim (E (opened_by p.bare)) (behind_first p.bare (cast_then p.cast rest)) ≡ accept lim (E (ended_by (literal_of p.bare) p.cast)) rest
given_run lim E law p rest = bare_run lim E law p.bare (cast_then p.cast rest) ∙ cast_run lim E law (literal_of p.bare) p.cast rest

pub given_is : (l : Literal) (c : Option TypeWord) → given_of (ended_by l c) ≡ Some (record { literal = l; cast = c })
given_is l None = refl
given_is l (Some w) = ap (λ (o : Option TypeWord). option_map (λ x. record { literal = l; cast = Some x }) o) (type_as w.list w.word)

-- tokens that no literal goes on with
abbrev pub stops : Token → Bool
stops (token.Word w) = true
stops token.Close = true
stops token.Comma = true
stops _ = false

kind_stops : (b : Bool) (w : List ℕ) (t : Token) → stops t ≡ true → type_after (kind_as b w) t ≡ None
kind_stops true w (token.Word x) e = refl
kind_stops true w token.Close e = refl
kind_stops true w token.Comma e = refl
kind_stops true w t e = cc
kind_stops false w (token.Word x) e = refl
kind_stops false w token.Close e = refl
kind_stops false w token.Comma e = refl
kind_stops false w t e = cc

pub given_stops : (l : Literal) (c : Option TypeWord) (t : Token) → stops t ≡ true → given_after (ended_by l c) t ≡ None
given_stops l None (token.Word x) e = refl
given_stops l None token.Close e = refl
given_stops l None token.Comma e = refl
given_stops l None t e = cc
given_stops l (Some w) t e = ap (λ (o : Option TypeReader). option_map (λ next. given.Typed l next) o) (kind_stops w.list w.word t e)

-- A condition.

abbrev pub at : tasks.Task → List ℕ → Nest → Part → State
at d n nest p = within d n (record { nest = nest; part = p })

-- what follows an operand
abbrev pub Follows : List Token → Type 0
Follows [] = Unit {0}
Follows (t ∷ ts) = stops t ≡ true

or_false : (p q : Bool) → (p || q) ≡ false → (p ≡ false) × (q ≡ false)
or_false true q e = cc
or_false false q e = (refl, e)

-- a name isn't NOT
not_not : (c : List ℕ) → IsName c → is_word (codes "not") (word c) ≡ false
not_not c h =
    let a = or_false (is_clause c) (is_other_reserved c) h in
    let b = or_false (bytes_eq c (codes "and") || bytes_eq c (codes "array") || bytes_eq c (codes "is") || bytes_eq c (codes "not") || bytes_eq c (codes "null")) (bytes_eq c (codes "or")) a.1 in
    let d = or_false (bytes_eq c (codes "and") || bytes_eq c (codes "array") || bytes_eq c (codes "is") || bytes_eq c (codes "not")) (bytes_eq c (codes "null")) b.0 in
    (or_false (bytes_eq c (codes "and") || bytes_eq c (codes "array") || bytes_eq c (codes "is")) (bytes_eq c (codes "not")) d.0).1

abbrev outcome_in : tasks.Task → List ℕ → Outcome Standing → Outcome State
outcome_in d n o = outcome_map (λ next. within d n next) o

name_step : (lim : Limits) (d : tasks.Task) (m : List ℕ) (n : Nest) (c : List ℕ) (rest : List Token) → IsName c
    → accept lim (at d m n part.Operand) (word c ∷ rest) ≡ accept lim (at d m n (part.Column c)) rest
name_step lim d m n c rest h =
    step lim (at d m n part.Operand) (at d m n (part.Column c)) (word c) rest
    (ap (λ (b : Bool). outcome_in d m (cond b (open_after lim n true) (named_after n (name_in (word c))))) (not_not c h)
    ∙ ap (λ (o : Option (List ℕ)). outcome_in d m (named_after n o)) (name_again c h))

-- a literal that ends before these tokens
ends_given : (lim : Limits) (d : tasks.Task) (m : List ℕ) (n : Nest) (c : List ℕ) (op : Operator) (l : Literal) (k : Option TypeWord) (rest : List Token) → Follows rest
    → accept lim (at d m n (part.Literal c op (ended_by l k))) rest ≡ accept lim (at d m (and_operand n (trees.Atom c op (record { literal = l; cast = k }))) part.Joint) rest
ends_given lim d m n c op l k [] f = ap (λ (o : Option statement.Given). option_map (λ t. queried d m (Some t)) (ended_in n c op o)) (given_is l k)
ends_given lim d m n c op l k (t ∷ ts) f =
    ap (λ (o : Outcome Standing). then (λ s. accept lim s ts) (outcome_in d m o))
    (ap (λ (o : Option GivenReader). literal_on lim n c op (ended_by l k) t o) (given_stops l k t f)
    ∙ ap (λ (o : Option statement.Given). behind_literal lim n c op t o) (given_is l k))

atom_run : (lim : Limits) (d : tasks.Task) (m : List ℕ) (n : Nest) (c sign : List ℕ) (op : Operator) (p : Phrase) (rest : List Token) → IsName c → operator_of sign ≡ Some op → Follows rest
    → accept lim (at d m n part.Operand) (cond_then (atom c sign p) rest) ≡ accept lim (at d m (and_operand n (trees.Atom c op (given_by p))) part.Joint) rest
atom_run lim d m n c sign op p rest h o f =
    let E = λ (g : GivenReader). at d m n (part.Literal c op g) in
    let law : Law lim E = λ g x t e. ap (λ (y : Option GivenReader). outcome_in d m (literal_on lim n c op g t y)) e in
    let more : List Token = behind_first p.bare (cast_then p.cast rest) in
    name_step lim d m n c (token.Operator sign ∷ given_then p rest) h
    ∙ step lim (at d m n (part.Column c)) (at d m n (part.Sign c op)) (token.Operator sign) (given_then p rest) (ap (λ (y : Option Operator). outcome_in d m (signed_after n c y)) o)
    ∙ ap (λ (ts : List Token). accept lim (at d m n (part.Sign c op)) ts) (bare_parts p.bare (cast_then p.cast rest))
    ∙ step lim (at d m n (part.Sign c op)) (E (opened_by p.bare)) (first_of p.bare) more (ap (λ (y : Option GivenReader). outcome_in d m (given_on n c op y)) (bare_begins p.bare))
    ∙ given_run lim E law p rest
    ∙ ends_given lim d m n c op (literal_of p.bare) p.cast rest f

null_run : (lim : Limits) (d : tasks.Task) (m : List ℕ) (n : Nest) (c : List ℕ) (negated : Bool) (rest : List Token) → IsName c
    → accept lim (at d m n part.Operand) (cond_then (is_null c negated) rest) ≡ accept lim (at d m (and_operand n (trees.IsNull c negated)) part.Joint) rest
null_run lim d m n c false rest h = name_step lim d m n c (word (codes "is") ∷ word (codes "null") ∷ rest) h
null_run lim d m n c true rest h = name_step lim d m n c (word (codes "is") ∷ word (codes "not") ∷ word (codes "null") ∷ rest) h

lt_true : (a b : ℕ) → a < b → nat_lt a b ≡ true
lt_true a b l = grind (arith, nat_tests)

open_step : (lim : Limits) (d : tasks.Task) (m : List ℕ) (n : Nest) (negated : Bool) (rest : List Token) → length n.frames < lim.open_most
    → then (λ s. accept lim s rest) (outcome_in d m (open_after lim n negated)) ≡ accept lim (at d m (opened n negated) part.Operand) rest
open_step lim d m n negated rest l = ap (λ (b : Bool). then (λ s. accept lim s rest) (outcome_in d m (cond b (on (opened n negated) part.Operand) Deep))) (lt_true (length n.frames) lim.open_most l)

and_step : (lim : Limits) (d : tasks.Task) (m : List ℕ) (n : Nest) (rest : List Token) → n.joins < lim.joins_most
    → accept lim (at d m n part.Joint) (word (codes "and") ∷ rest) ≡ accept lim (at d m (and_behind n) part.Operand) rest
and_step lim d m n rest l = ap (λ (b : Bool). then (λ s. accept lim s rest) (outcome_in d m (cond b (on (and_behind n) part.Operand) Deep))) (lt_true n.joins lim.joins_most l)

or_step : (lim : Limits) (d : tasks.Task) (m : List ℕ) (n : Nest) (rest : List Token) → n.joins < lim.joins_most
    → accept lim (at d m n part.Joint) (word (codes "or") ∷ rest) ≡ accept lim (at d m (or_behind n) part.Operand) rest
or_step lim d m n rest l = ap (λ (b : Bool). then (λ s. accept lim s rest) (outcome_in d m (cond b (on (or_behind n) part.Operand) Deep))) (lt_true n.joins lim.joins_most l)

-- what is proved of a condition: read as an operand, behind an OR, and behind a parenthesis or WHERE
pub record Read (lim : Limits) (d : tasks.Task) (m : List ℕ) (c : Cond) (t : trees.Tree) : Type 0 where
  pub tight : 2 ≤ tightness c → (n : Nest) (k : ℕ) (rest : List Token) → Follows rest → opens c + length n.frames ≤ lim.open_most → k ≡ joins c + n.joins → k ≤ lim.joins_most
      → accept lim (at d m n part.Operand) (cond_then c rest) ≡ accept lim (at d m (settled n.frames n.group k t) part.Joint) rest
  pub looser : 1 ≤ tightness c → (fs : List Frame) (sum : Option trees.Tree) (j k : ℕ) (rest : List Token) → is_negated fs ≡ false → Follows rest → opens c + length fs ≤ lim.open_most → k ≡ joins c + j → k ≤ lim.joins_most
      → accept lim (at d m (record { frames = fs; group = record { sum = sum; product = None }; joins = j }) part.Operand) (cond_then c rest)
      ≡ accept lim (at d m (record { frames = fs; group = record { sum = sum; product = Some t }; joins = k }) part.Joint) rest
  pub loosest : (fs : List Frame) (j k : ℕ) (rest : List Token) → is_negated fs ≡ false → Follows rest → opens c + length fs ≤ lim.open_most → k ≡ joins c + j → k ≤ lim.joins_most
      → (g : Group) × (total g ≡ Some t)
      × (accept lim (at d m (record { frames = fs; group = no_group; joins = j }) part.Operand) (cond_then c rest) ≡ accept lim (at d m (record { frames = fs; group = g; joins = k }) part.Joint) rest)

-- behind what is no NOT an operand is joined at once
joined_now : (fs : List Frame) (g : Group) (k : ℕ) (t : trees.Tree) → is_negated fs ≡ false → settled fs g k t ≡ record { frames = fs; group = with_operand g t; joins = k }
joined_now [] g k t e = refl
joined_now (f ∷ fs) g k t e = by_not f.negated e
  where
    by_not : (b : Bool) → b ≡ false → cond b (settled fs f.group k (trees.Not t)) (record { frames = f ∷ fs; group = with_operand g t; joins = k }) ≡ record { frames = f ∷ fs; group = with_operand g t; joins = k }
    by_not true h = cc
    by_not false h = refl

abbrev Tight : Limits → tasks.Task → List ℕ → Cond → trees.Tree → Type 0
Tight lim d m c t =
    (n : Nest) (k : ℕ) (rest : List Token) → Follows rest → opens c + length n.frames ≤ lim.open_most → k ≡ joins c + n.joins → k ≤ lim.joins_most
    → accept lim (at d m n part.Operand) (cond_then c rest) ≡ accept lim (at d m (settled n.frames n.group k t) part.Joint) rest

abbrev Looser : Limits → tasks.Task → List ℕ → Cond → trees.Tree → Type 0
Looser lim d m c t =
    (fs : List Frame) (sum : Option trees.Tree) (j k : ℕ) (rest : List Token) → is_negated fs ≡ false → Follows rest → opens c + length fs ≤ lim.open_most → k ≡ joins c + j → k ≤ lim.joins_most
    → accept lim (at d m (record { frames = fs; group = record { sum = sum; product = None }; joins = j }) part.Operand) (cond_then c rest)
    ≡ accept lim (at d m (record { frames = fs; group = record { sum = sum; product = Some t }; joins = k }) part.Joint) rest

from_tight : (lim : Limits) (d : tasks.Task) (m : List ℕ) (c : Cond) (t : trees.Tree) → Tight lim d m c t → Looser lim d m c t
from_tight lim d m c t h = λ fs sum j k rest e f o q w.
    h (record { frames = fs; group = record { sum = sum; product = None }; joins = j }) k rest f o q w
    ∙ ap (λ (x : Nest). accept lim (at d m x part.Joint) rest) (joined_now fs (record { sum = sum; product = None }) k t e)

abbrev Loosest : Limits → tasks.Task → List ℕ → Cond → trees.Tree → Type 0
Loosest lim d m c t =
    (fs : List Frame) (j k : ℕ) (rest : List Token) → is_negated fs ≡ false → Follows rest → opens c + length fs ≤ lim.open_most → k ≡ joins c + j → k ≤ lim.joins_most
    → (g : Group) × (total g ≡ Some t)
    × (accept lim (at d m (record { frames = fs; group = no_group; joins = j }) part.Operand) (cond_then c rest) ≡ accept lim (at d m (record { frames = fs; group = g; joins = k }) part.Joint) rest)

from_looser : (lim : Limits) (d : tasks.Task) (m : List ℕ) (c : Cond) (t : trees.Tree) → Looser lim d m c t → Loosest lim d m c t
from_looser lim d m c t h = λ fs j k rest e f o q w. (record { sum = None; product = Some t }, refl, h fs None j k rest e f o q w)

all_read : (lim : Limits) (d : tasks.Task) (m : List ℕ) (c : Cond) (t : trees.Tree) → Tight lim d m c t → Read lim d m c t
all_read lim d m c t h = record { tight = λ l. h; looser = λ l. from_tight lim d m c t h; loosest = from_looser lim d m c t (from_tight lim d m c t h) }

left_max : (a b k m : ℕ) → max a b + k ≤ m → a + k ≤ m
left_max a b k m l = grind (arith)

right_max : (a b k m : ℕ) → max a b + k ≤ m → b + k ≤ m
right_max a b k m l = grind (arith)

plain_count : (lim : Limits) (d : tasks.Task) (m : List ℕ) (n : Nest) (k : ℕ) (t : trees.Tree) (rest : List Token) → k ≡ 0 + n.joins
    → accept lim (at d m (and_operand n t) part.Joint) rest ≡ accept lim (at d m (settled n.frames n.group k t) part.Joint) rest
plain_count lim d m n k t rest e = let q : n.joins ≡ k = omega arith in ap (λ (x : ℕ). accept lim (at d m (settled n.frames n.group x t) part.Joint) rest) q

group_closes : (lim : Limits) (d : tasks.Task) (m : List ℕ) (n : Nest) (g : Group) (k : ℕ) (t : trees.Tree) (rest : List Token) → total g ≡ Some t
    → accept lim (at d m (record { frames = record { group = n.group; negated = false } ∷ n.frames; group = g; joins = k }) part.Joint) (token.Close ∷ rest)
    ≡ accept lim (at d m (settled n.frames n.group k t) part.Joint) rest
group_closes lim d m n g k t rest e =
    ap (λ (o : Option trees.Tree). then (λ s. accept lim s rest) (outcome_in d m (closed_on (settle_closed (record { group = n.group; negated = false } ∷ n.frames) k o)))) e

along : (lim : Limits) (d : tasks.Task) (m : List ℕ) (c : Cond) (t u : trees.Tree) → t ≡ u → Read lim d m c t → Read lim d m c u
along lim d m c t u e r = let P : trees.Tree → Type 0 = λ x. Read lim d m c x in subst P e r

pub reads : (lim : Limits) (d : tasks.Task) (m : List ℕ) (c : Cond) (t : trees.Tree) → SaysTree c t → Read lim d m c t
reads lim d m (atom c sign p) t s =
    along lim d m (atom c sign p) (trees.Atom c s.0 (given_by p)) t (sym s.3)
    (all_read lim d m (atom c sign p) (trees.Atom c s.0 (given_by p))
    (λ n k rest f o q w. atom_run lim d m n c sign s.0 p rest s.1 s.2 f ∙ plain_count lim d m n k (trees.Atom c s.0 (given_by p)) rest q))
reads lim d m (is_null c negated) t s =
    along lim d m (is_null c negated) (trees.IsNull c negated) t (sym s.1)
    (all_read lim d m (is_null c negated) (trees.IsNull c negated)
    (λ n k rest f o q w. null_run lim d m n c negated rest s.0 ∙ plain_count lim d m n k (trees.IsNull c negated) rest q))
reads lim d m (group c) t s =
    let r = reads lim d m c t s in
    all_read lim d m (group c) t
    (λ n k rest f o q w.
    let fs : List Frame = record { group = n.group; negated = false } ∷ n.frames in
    let x = r.loosest fs n.joins k (token.Close ∷ rest) refl refl (omega arith) q w in
    open_step lim d m n false (cond_then c (token.Close ∷ rest)) (omega arith) ∙ x.2 ∙ group_closes lim d m n x.0 k t rest x.1)
reads lim d m (negation c) t s =
    let r = reads lim d m c s.0 s.1 in
    along lim d m (negation c) (trees.Not s.0) t (sym s.3)
    (all_read lim d m (negation c) (trees.Not s.0)
    (λ n k rest f o q w. open_step lim d m n true (cond_then c rest) (omega arith) ∙ r.tight s.2 (opened n true) k rest f (omega arith) q w))
reads lim d m (conj c e) t s =
    let r = reads lim d m c s.0 s.2 in
    let x = reads lim d m e s.1 s.3 in
    let u : trees.Tree = trees.And s.0 s.1 in
    let both : Looser lim d m (conj c e) u =
    λ fs sum j k rest n f o q w.
    let one : ℕ = joins c + j in
    let g : Group = record { sum = sum; product = Some s.0 } in
    r.looser s.4 fs sum j one (word (codes "and") ∷ cond_then e rest) n refl (left_max (opens c) (opens e) (length fs) lim.open_most o) refl (omega arith)
    ∙ and_step lim d m (record { frames = fs; group = g; joins = one }) (cond_then e rest) (omega arith)
    ∙ x.tight s.5 (record { frames = fs; group = g; joins = one + 1 }) k rest f (right_max (opens c) (opens e) (length fs) lim.open_most o) (omega arith) w
    ∙ ap (λ (y : Nest). accept lim (at d m y part.Joint) rest) (joined_now fs g k s.1 n) in
    along lim d m (conj c e) u t (sym s.6)
    (record { tight = λ l. absurd (omega arith); looser = λ l. both; loosest = from_looser lim d m (conj c e) u both })
reads lim d m (disj c e) t s =
    let r = reads lim d m c s.0 s.2 in
    let x = reads lim d m e s.1 s.3 in
    let u : trees.Tree = trees.Or s.0 s.1 in
    let all : Loosest lim d m (disj c e) u =
    λ fs j k rest n f o q w.
    let one : ℕ = joins c + j in
    let y = r.loosest fs j one (word (codes "or") ∷ cond_then e rest) n refl (left_max (opens c) (opens e) (length fs) lim.open_most o) refl (omega arith) in (
      record { sum = Some s.0; product = Some s.1 },
      refl,
      y.2
          ∙ or_step lim d m (record { frames = fs; group = y.0; joins = one }) (cond_then e rest) (omega arith)
          ∙ ap (λ (z : Option trees.Tree). accept lim (at d m (record { frames = fs; group = record { sum = z; product = None }; joins = one + 1 }) part.Operand) (cond_then e rest)) y.1
          ∙ x.looser s.4 fs (Some s.0) (one + 1) k rest n f (right_max (opens c) (opens e) (length fs) lim.open_most o) (omega arith) w,
    ) in
    along lim d m (disj c e) u t (sym s.5)
    (record { tight = λ l. absurd (omega arith); looser = λ l. absurd (omega arith); loosest = all })
