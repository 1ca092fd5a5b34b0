-- One query to a text.
use Rattle.std.proofs.Common.{◌≡◌, ◌≢◌, ◌==◌, ℕ, Bool, true, false, List, [], ◌∷◌, ◌++◌, length, Option, None, Some, Result, Ok, Err, MatchOption, IfOk, refl, sym, ap, ap₂, ◌∙◌, subst, arith, inl, inr}
use Rattle.std.specs.List.{AllByRecursion, list_any}
use Rattle.gx_bytes.specs.declared.error.ValueError.{ValueError}
use Rattle.gx_bytes.specs.declared.error.ValueError.TheVariants.{NoValue, OutOfRange, TooDeep, Memory}
use Rattle.gx_ltree.specs.Label.{TakesLabel}
use Rattle.gx_bytes.proofs.SingleAnswers.{IsSingle}
use Rattle.gx_ltree.proofs.LabelLemmas.{one_label}
use Rattle.gx_lquery.specs.declared.variant.Variant.{Variant}
use Rattle.gx_lquery.specs.declared.query.LqueryItem.{LqueryItem}
use Rattle.gx_lquery.specs.declared.query.Lquery.{Lquery}
use Rattle.gx_lquery.specs.Text.{split, cut, is_mark, SpellsVariant, IsCount, SpellsLeast, SpellsMost, SpellsLimits, SpellsCount, SpellsBody, SpellsWith, SpellsParts, SpellsItem, SpellsLquery, AnswersLquery}
use Rattle.gx_lquery.proofs.SplitLemmas.{one_zip}

-- what stands behind the label is its marks
pub no_marks : (text label rest : List ℕ) → TakesLabel text label rest → (AllByRecursion (λ c. is_mark c ≡ true) rest → ⊥) → (variant : Variant) → SpellsVariant text variant → ⊥
no_marks text label rest t wrong variant s =
    let same = one_label text label variant.label rest s.marks t s.takes in
    wrong (subst (AllByRecursion (λ c. is_mark c ≡ true)) (sym same.1) s.each)

pub no_label : (text : List ℕ) → ((label rest : List ℕ) → TakesLabel text label rest → ⊥) → (variant : Variant) → SpellsVariant text variant → ⊥
no_label text none variant s = none variant.label s.marks s.takes

one_variant : (text : List ℕ) (v w : Variant) → SpellsVariant text v → SpellsVariant text w → v ≡ w
one_variant text v w s t =
    let same = one_label text v.label w.label s.marks t.marks s.takes t.takes in
    let prefix : v.prefix ≡ w.prefix = s.prefix ∙ ap (list_any (λ c. c == 42)) same.1 ∙ sym t.prefix in
    let caseless : v.caseless ≡ w.caseless = s.caseless ∙ ap (list_any (λ c. c == 64)) same.1 ∙ sym t.caseless in
    λ i. record { label = same.0 i; prefix = prefix i; caseless = caseless i }

one_count : (text : List ℕ) (m n : ℕ) → IsCount text m → IsCount text n → m ≡ n
one_count text m n s t = s.value ∙ sym t.value

one_least : (text : List ℕ) (m n : ℕ) → SpellsLeast text m → SpellsLeast text n → m ≡ n
one_least text m n (inl s) (inl t) = s.1 ∙ sym t.1
one_least text m n (inl s) (inr t) = absurd (omega (arith, t.numeral.0, ap length s.0))
one_least text m n (inr s) (inl t) = absurd (omega (arith, s.numeral.0, ap length t.0))
one_least text m n (inr s) (inr t) = one_count text m n s t

one_most : (text : List ℕ) (m n : Option ℕ) → SpellsMost text m → SpellsMost text n → m ≡ n
one_most text None None s t = refl
one_most text None (Some n) s t = absurd (omega (arith, t.numeral.0, ap length s))
one_most text (Some m) None s t = absurd (omega (arith, s.numeral.0, ap length t))
one_most text (Some m) (Some n) s t = ap Some (one_count text m n s t)

one_limits : (parts : Option (List ℕ × List ℕ)) (text : List ℕ) (a b : ℕ) (m n : Option ℕ) → SpellsLimits parts text a m → SpellsLimits parts text b n → (a ≡ b) × (m ≡ n)
one_limits None text a b m n s t =
    let same = one_count text a b s.0 t.0 in
    (same, s.1 ∙ ap Some same ∙ sym t.1)
one_limits (Some parts) text a b m n s t = (one_least parts.0 a b s.0 t.0, one_most parts.1 m n s.1 t.1)

pub same_front : (a b : List ℕ) (c : ℕ) → a ++ c ∷ [] ≡ b ++ c ∷ [] → a ≡ b
same_front [] [] c e = refl
same_front [] (y ∷ []) c e = cc
same_front [] (y ∷ z ∷ b) c e = cc
same_front (x ∷ []) [] c e = cc
same_front (x ∷ z ∷ a) [] c e = cc
same_front (x ∷ a) (y ∷ b) c e =
    let head : x ≡ y = cc in
    let tail : a ++ c ∷ [] ≡ b ++ c ∷ [] = cc in
    ap₂ (λ (h : ℕ) (t : List ℕ). h ∷ t) head (same_front a b c tail)

one_count_text : (star : Bool) (count : Option (List ℕ)) (a b : ℕ) (m n : Option ℕ) → SpellsCount star count a m → SpellsCount star count b n → (a ≡ b) × (m ≡ n)
one_count_text true None a b m n s t = (s.0 ∙ sym t.0, s.1 ∙ sym t.1)
one_count_text false None a b m n s t = (s.0 ∙ sym t.0, s.1 ∙ sym t.1)
one_count_text star (Some text) a b m n s t =
    let inner : s.inner ≡ t.inner = same_front s.inner t.inner 125 (sym s.parts ∙ t.parts) in
    let P : List ℕ → Type 0 = λ i. SpellsLimits (cut 44 i) i b n in
    one_limits (cut 44 s.inner) s.inner a b m n s.limits (subst P (sym inner) t.limits)

one_body : (star : Bool) (body : List ℕ) (a b : Bool) (vs ws : List Variant) → SpellsBody star body a vs → SpellsBody star body b ws → (a ≡ b) × (vs ≡ ws)
one_body true body a b vs ws s t = (s.0 ∙ sym t.0, s.1 ∙ sym t.1)
one_body false body a b vs ws s t = (s.0 ∙ sym t.0, one_zip SpellsVariant one_variant _ vs ws s.1 t.1)

one_with : (body : List ℕ) (count : Option (List ℕ)) (x y : LqueryItem) → SpellsWith body count x → SpellsWith body count y → x ≡ y
one_with body count x y s t =
    let star : x.star ≡ y.star = s.star ∙ sym t.star in
    let P : Bool → Type 0 = λ b. SpellsBody b body y.negated y.variants in
    let Q : Bool → Type 0 = λ b. SpellsCount b count y.least y.most in
    let words = one_body x.star body x.negated y.negated x.variants y.variants s.words (subst P (sym star) t.words) in
    let limits = one_count_text x.star count x.least y.least x.most y.most s.limits (subst Q (sym star) t.limits) in
    λ i. record { star = star i; negated = words.0 i; variants = words.1 i; least = limits.0 i; most = limits.1 i }

one_parts : (parts : Option (List ℕ × List ℕ)) (text : List ℕ) (x y : LqueryItem) → SpellsParts parts text x → SpellsParts parts text y → x ≡ y
one_parts None text x y s t = one_with text None x y s t
one_parts (Some parts) text x y s t = one_with parts.0 (Some parts.1) x y s t

one_item : (text : List ℕ) (x y : LqueryItem) → SpellsItem text x → SpellsItem text y → x ≡ y
one_item text x y s t = one_parts (cut 123 text) text x y s t

one_query : (text : List ℕ) (q p : Lquery) → SpellsLquery text q → SpellsLquery text p → q ≡ p
one_query text q p s t = let items = one_zip SpellsItem one_item (split 46 text) q.items p.items s t in λ i. record { items = items i }

pub single : (text : List ℕ) → IsSingle (AnswersLquery text)
single text = record {
  one = one_query text;
  no_value = λ query s none. none query s;
  out_of_range = λ query s out. out;
  too_deep = λ query s deep. deep;
  none_or_out = λ none out. out;
  none_or_deep = λ none deep. deep;
  out_or_deep = λ out deep. out;
}

-- an answer by what was cut
pub limits_by : (q p : Option (List ℕ × List ℕ)) (text : List ℕ) (r : Option (ℕ × Option ℕ)) → q ≡ p
    → MatchOption r ((least : ℕ) (most : Option ℕ) → SpellsLimits p text least most → ⊥) (λ x. SpellsLimits p text x.0 x.1)
    → MatchOption r ((least : ℕ) (most : Option ℕ) → SpellsLimits q text least most → ⊥) (λ x. SpellsLimits q text x.0 x.1)
limits_by q p text r e h =
    let P : Option (List ℕ × List ℕ) → Type 0 = λ o. MatchOption r ((least : ℕ) (most : Option ℕ) → SpellsLimits o text least most → ⊥) (λ x. SpellsLimits o text x.0 x.1) in
    subst P (sym e) h

pub item_by : {E : Type 0} (q p : Option (List ℕ × List ℕ)) (text : List ℕ) (r : Result (Option LqueryItem) E) → q ≡ p
    → IfOk r (λ read. MatchOption read ((item : LqueryItem) → SpellsParts p text item → ⊥) (λ item. SpellsParts p text item))
    → IfOk r (λ read. MatchOption read ((item : LqueryItem) → SpellsParts q text item → ⊥) (λ item. SpellsParts q text item))
item_by q p text r e h =
    let P : Option (List ℕ × List ℕ) → Type 0 = λ o. IfOk r (λ read. MatchOption read ((item : LqueryItem) → SpellsParts o text item → ⊥) (λ item. SpellsParts o text item)) in
    subst P (sym e) h
