-- What a literal is made of, as far as it is read.
use Rattle.std.proofs.Common.{◌≡◌, ℕ, Bool, true, false, cond, List, [], ◌∷◌, ◌++◌, map, codes, Some, None, refl, sym, ◌∙◌, ap, subst}
use Rattle.std.specs.Str.{bytes_eq}
use Rattle.gx_lexer.specs.declared.token.Token.{Token}
use Rattle.gx_lexer.specs.declared.token.Token.TheVariants as token
use Rattle.gx_value.specs.declared.literal.Form.TheVariants as form
use Rattle.gx_value.specs.declared.literal.Literal.{Literal}
use Rattle.gx_parse.specs.declared.statement.Given.{Given}
use Rattle.gx_parse.specs.declared.statement.TypeWord.{TypeWord}
use Rattle.gx_parse.specs.declared.given.TypeReader.{TypeReader}
use Rattle.gx_parse.specs.declared.given.TypeReader.TheVariants as kind
use Rattle.gx_parse.specs.declared.given.GivenReader.{GivenReader}
use Rattle.gx_parse.specs.declared.given.GivenReader.TheVariants.{Array, First, Next, Element, Whole, Cast, Typed}
use Rattle.gx_parse.specs.Grammar.{word, type_then, Item, item_token, item_text, more_items, items_then, Bare, Phrase, bare_then, given_then, literal_of, given_by}
use Rattle.gx_parse.specs.Grammar.Item.{text, number}
use Rattle.gx_parse.specs.Grammar.Bare.{null, one, list}
use Rattle.gx_parse.specs.Literals.{type_after, type_of, given_from, given_after, given_of}
use Rattle.gx_parse.proofs.TokenFacts.{same, map_some}

abbrev pub kind_then : TypeReader → List Token → List Token
kind_then (kind.Word w) rest = word w ∷ rest
kind_then (kind.Bracket w) rest = word w ∷ token.OpenBracket ∷ rest
kind_then (kind.List w) rest = word w ∷ token.OpenBracket ∷ token.CloseBracket ∷ rest

pub kind_steps : (k m : TypeReader) (t : Token) (ts : List Token) → type_after k t ≡ Some m → kind_then k (t ∷ ts) ≡ kind_then m ts
kind_steps (kind.Word w) m token.OpenBracket ts e = let s : kind.Bracket w ≡ m = cc in ap (λ (x : TypeReader). kind_then x ts) s
kind_steps (kind.Word w) m t ts e = cc
kind_steps (kind.Bracket w) m token.CloseBracket ts e = let s : kind.List w ≡ m = cc in ap (λ (x : TypeReader). kind_then x ts) s
kind_steps (kind.Bracket w) m t ts e = cc
kind_steps (kind.List w) m t ts e = cc

pub kind_ends : (k : TypeReader) (w : TypeWord) (ts : List Token) → type_of k ≡ Some w → kind_then k ts ≡ type_then w ts
kind_ends (kind.Word x) w ts e = let s : record { word = x; list = false } ≡ w = cc in ap (λ (y : TypeWord). type_then y ts) s
kind_ends (kind.Bracket x) w ts e = cc
kind_ends (kind.List x) w ts e = let s : record { word = x; list = true } ≡ w = cc in ap (λ (y : TypeWord). type_then y ts) s

-- the whole is what stands before, the literal as far as it is read, and the rest
abbrev pub GivenReads : List Token → (List Token → List Token) → GivenReader → List Token → Type 0
GivenReads whole lead Array rest = whole ≡ lead (word (codes "array") ∷ rest)
GivenReads whole lead (First texts) rest = (texts ≡ []) × (whole ≡ lead (word (codes "array") ∷ token.OpenBracket ∷ rest))
GivenReads whole lead (Next texts) rest =
    (i : Item) × (is : List Item) × (texts ≡ map item_text (i ∷ is)) × (whole ≡ lead (word (codes "array") ∷ token.OpenBracket ∷ items_then (i ∷ is) (token.Comma ∷ rest)))
GivenReads whole lead (Element texts) rest =
    (i : Item) × (is : List Item) × (texts ≡ map item_text (i ∷ is)) × (whole ≡ lead (word (codes "array") ∷ token.OpenBracket ∷ items_then (i ∷ is) rest))
GivenReads whole lead (Whole l) rest = (b : Bare) × (l ≡ literal_of b) × (whole ≡ lead (bare_then b rest))
GivenReads whole lead (Cast l) rest = (b : Bare) × (l ≡ literal_of b) × (whole ≡ lead (bare_then b (token.Cast ∷ rest)))
GivenReads whole lead (Typed l k) rest = (b : Bare) × (l ≡ literal_of b) × (whole ≡ lead (bare_then b (token.Cast ∷ kind_then k rest)))

along : (whole : List Token) (lead : List Token → List Token) (g h : GivenReader) (ts : List Token) → g ≡ h → GivenReads whole lead g ts → GivenReads whole lead h ts
along whole lead g h ts e r = let P : GivenReader → Type 0 = λ x. GivenReads whole lead x ts in subst P e r

some_same : {A : Type 0} (x y : A) → Some x ≡ Some y → x ≡ y
some_same x y e = cc

begun_word : (whole : List Token) (lead : List Token → List Token) (w : List ℕ) (g : GivenReader) (ts : List Token) (n a : Bool)
    → bytes_eq w (codes "null") ≡ n → bytes_eq w (codes "array") ≡ a
    → cond n (Some (Whole (record { form = form.Null; texts = [] }))) (cond a (Some Array) None) ≡ Some g → whole ≡ lead (word w ∷ ts) → GivenReads whole lead g ts
begun_word whole lead w g ts true a en ea e f =
    let s : w ≡ codes "null" = same w (codes "null") en in
    along whole lead (Whole (record { form = form.Null; texts = [] })) g ts (some_same (Whole (record { form = form.Null; texts = [] })) g e)
    (null, refl, f ∙ ap (λ (x : List ℕ). lead (word x ∷ ts)) s)
begun_word whole lead w g ts false true en ea e f =
    let s : w ≡ codes "array" = same w (codes "array") ea in
    along whole lead Array g ts (some_same Array g e) (f ∙ ap (λ (x : List ℕ). lead (word x ∷ ts)) s)
begun_word whole lead w g ts false false en ea e f = cc

pub given_begins : (whole : List Token) (lead : List Token → List Token) (g : GivenReader) (t : Token) (ts : List Token) → given_from t ≡ Some g → whole ≡ lead (t ∷ ts) → GivenReads whole lead g ts
given_begins whole lead g (token.Word w) ts e f = begun_word whole lead w g ts (bytes_eq w (codes "null")) (bytes_eq w (codes "array")) refl refl e f
given_begins whole lead g (token.Text x) ts e f = along whole lead (Whole (record { form = form.Text; texts = x ∷ [] })) g ts (some_same (Whole (record { form = form.Text; texts = x ∷ [] })) g e) (one (text x), refl, f)
given_begins whole lead g (token.Number x) ts e f = along whole lead (Whole (record { form = form.Number; texts = x ∷ [] })) g ts (some_same (Whole (record { form = form.Number; texts = x ∷ [] })) g e) (one (number x), refl, f)
given_begins whole lead g t ts e f = cc

more_item : (is : List Item) (j : Item) (ts : List Token) → more_items is (token.Comma ∷ item_token j ∷ ts) ≡ more_items (is ++ j ∷ []) ts
more_item [] j ts = refl
more_item (i ∷ is) j ts = ap (λ (xs : List Token). token.Comma ∷ item_token i ∷ xs) (more_item is j ts)

map_item : (is : List Item) (j : Item) → map item_text (is ++ j ∷ []) ≡ map item_text is ++ item_text j ∷ []
map_item [] j = refl
map_item (i ∷ is) j = ap (λ (xs : List (List ℕ)). item_text i ∷ xs) (map_item is j)

first_item : (whole : List Token) (lead : List Token → List Token) (texts : List (List ℕ)) (j : Item) (ts : List Token)
    → GivenReads whole lead (First texts) (item_token j ∷ ts) → GivenReads whole lead (Element (texts ++ item_text j ∷ [])) ts
first_item whole lead texts j ts r = (j, [], ap (λ (xs : List (List ℕ)). xs ++ item_text j ∷ []) r.0, r.1)

next_item : (whole : List Token) (lead : List Token → List Token) (texts : List (List ℕ)) (j : Item) (ts : List Token)
    → GivenReads whole lead (Next texts) (item_token j ∷ ts) → GivenReads whole lead (Element (texts ++ item_text j ∷ [])) ts
next_item whole lead texts j ts r = (
  r.0,
  r.1 ++ j ∷ [],
  ap (λ (xs : List (List ℕ)). xs ++ item_text j ∷ []) r.2 ∙ ap (λ (xs : List (List ℕ)). item_text r.0 ∷ xs) (sym (map_item r.1 j)),
  r.3 ∙ ap (λ (xs : List Token). lead (word (codes "array") ∷ token.OpenBracket ∷ item_token r.0 ∷ xs)) (more_item r.1 j ts),
)

pub given_steps : (whole : List Token) (lead : List Token → List Token) (g h : GivenReader) (t : Token) (ts : List Token)
    → GivenReads whole lead g (t ∷ ts) → given_after g t ≡ Some h → GivenReads whole lead h ts
given_steps whole lead Array h token.OpenBracket ts r e = along whole lead (First []) h ts (some_same (First []) h e) (refl, r)
given_steps whole lead Array h t ts r e = cc
given_steps whole lead (First texts) h token.CloseBracket ts r e =
    along whole lead (Whole (record { form = form.List; texts = texts })) h ts (some_same (Whole (record { form = form.List; texts = texts })) h e)
    (list [], ap (λ (xs : List (List ℕ)). record { form = form.List; texts = xs }) r.0, r.1)
given_steps whole lead (First texts) h (token.Text x) ts r e = along whole lead (Element (texts ++ x ∷ [])) h ts (some_same (Element (texts ++ x ∷ [])) h e) (first_item whole lead texts (text x) ts r)
given_steps whole lead (First texts) h (token.Number x) ts r e = along whole lead (Element (texts ++ x ∷ [])) h ts (some_same (Element (texts ++ x ∷ [])) h e) (first_item whole lead texts (number x) ts r)
given_steps whole lead (First texts) h t ts r e = cc
given_steps whole lead (Next texts) h (token.Text x) ts r e = along whole lead (Element (texts ++ x ∷ [])) h ts (some_same (Element (texts ++ x ∷ [])) h e) (next_item whole lead texts (text x) ts r)
given_steps whole lead (Next texts) h (token.Number x) ts r e = along whole lead (Element (texts ++ x ∷ [])) h ts (some_same (Element (texts ++ x ∷ [])) h e) (next_item whole lead texts (number x) ts r)
given_steps whole lead (Next texts) h t ts r e = cc
given_steps whole lead (Element texts) h token.Comma ts r e = along whole lead (Next texts) h ts (some_same (Next texts) h e) r
given_steps whole lead (Element texts) h token.CloseBracket ts r e =
    along whole lead (Whole (record { form = form.List; texts = texts })) h ts (some_same (Whole (record { form = form.List; texts = texts })) h e)
    (list (r.0 ∷ r.1), ap (λ (xs : List (List ℕ)). record { form = form.List; texts = xs }) r.2, r.3)
given_steps whole lead (Element texts) h t ts r e = cc
given_steps whole lead (Whole l) h token.Cast ts r e = along whole lead (Cast l) h ts (some_same (Cast l) h e) r
given_steps whole lead (Whole l) h t ts r e = cc
given_steps whole lead (Cast l) h (token.Word w) ts r e = along whole lead (Typed l (kind.Word w)) h ts (some_same (Typed l (kind.Word w)) h e) r
given_steps whole lead (Cast l) h t ts r e = cc
given_steps whole lead (Typed l k) h t ts r e =
    let m = map_some (λ next. Typed l next) (type_after k t) h e in
    along whole lead (Typed l m.0) h ts m.2
    (r.0, r.1, r.2 ∙ ap (λ (xs : List Token). lead (bare_then r.0 (token.Cast ∷ xs))) (kind_steps k m.0 t ts m.1))

-- the literal that ends here
pub record EndsGiven (whole : List Token) (lead : List Token → List Token) (v : Given) (ts : List Token) : Type 0 where
  pub phrase : Phrase
  pub value : v ≡ given_by phrase
  pub parts : whole ≡ lead (given_then phrase ts)

pub given_ends : (whole : List Token) (lead : List Token → List Token) (g : GivenReader) (v : Given) (ts : List Token)
    → GivenReads whole lead g ts → given_of g ≡ Some v → EndsGiven whole lead v ts
given_ends whole lead Array v ts r e = cc
given_ends whole lead (First texts) v ts r e = cc
given_ends whole lead (Next texts) v ts r e = cc
given_ends whole lead (Element texts) v ts r e = cc
given_ends whole lead (Whole l) v ts r e =
    let s : record { literal = l; cast = None } ≡ v = cc in
    record { phrase = record { bare = r.0; cast = None }; value = sym s ∙ ap (λ (x : Literal). record { literal = x; cast = None }) r.1; parts = r.2 }
given_ends whole lead (Cast l) v ts r e = cc
given_ends whole lead (Typed l k) v ts r e =
    let m = map_some (λ w. record { literal = l; cast = Some w }) (type_of k) v e in
    record {
      phrase = record { bare = r.0; cast = Some m.0 };
      value = sym m.2 ∙ ap (λ (x : Literal). record { literal = x; cast = Some m.0 }) r.1;
      parts = r.2 ∙ ap (λ (xs : List Token). lead (bare_then r.0 (token.Cast ∷ xs))) (kind_ends k m.0 ts m.1);
    }
