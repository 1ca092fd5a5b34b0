-- The tokens of a piece are those of its lexemes.
use Rattle.std.proofs.Common.{◌≡◌, ◌≢◌, ◌⊎◌, inl, inr, ℕ, ◌+◌, ◌<◌, ◌≤◌, zero, suc, Bool, true, false, ◌&&◌, cond, List, [], ◌∷◌, ◌++◌, length, take, drop, map, slice_index, ◌==◌, nat_lt, nat_le, Option, Some, None, is_some, refl, sym, ◌∙◌, ap, subst, append_assoc, length-append, length-take, arith}
use Rattle.std.specs.List.{prefix_len, flat_map}
use Rattle.std.proofs.Math.Seq.{take-append_seam, drop-append_seam}
use Rattle.std.proofs.lemmas.Bool.Decides.{nat_tests}
use Rattle.std.proofs.lemmas.List.{take-append-drop, length-drop}
use Rattle.gx_lexer.specs.declared.token.Token.{Token}
use Rattle.gx_lexer.specs.declared.token.Token.TheVariants.{Word, Number, Text, Operator, Open, Close, OpenBracket, CloseBracket, Comma, Star, Cast, Unknown}
use Rattle.gx_lexer.specs.Letters.{is_white, is_digit, is_sign, is_letter, is_word, is_comment, folded}
use Rattle.gx_lexer.specs.Parts.{BeginsNot}
use Rattle.gx_lexer.specs.Tokens.{unknown, first_of, word_of, number_of, text_of, text_found, text_from, and_byte, and_quote, sign_of, sign_or, operator_text, operator_of, operator_with, stands, placed, tokens_from, tokens_of}
use Rattle.gx_lexer.specs.Lexemes.{Lexeme, doubled, first, others, spelled, token_in, AllAre, Stops, StandsBefore, Fits, AreLexemes, BeginsNone, places, unknown_at, SpellsFrom, Spells}
use Rattle.gx_lexer.specs.Lexemes.Lexeme.{blank, remark, word, number, text, sign, cast, operator}
use Rattle.gx_lexer.proofs.OperatorFacts.{and_parts, begins_operator, stands_from, stands_to}

-- the tokens behind a place
skips : (at n : ℕ) (bs : List ℕ) → tokens_from at n bs ≡ tokens_from (at + n) 0 (drop n bs)
unfolding tokens_from
skips at zero bs = let e : at + 0 ≡ at = omega arith in rw e refl
skips at (suc n) [] = refl
skips at (suc n) (b ∷ bs) = let e : at + 1 + n ≡ at + suc n = omega arith in skips (at + 1) n bs ∙ (rw e refl)

at_first : (at b : ℕ) (bs : List ℕ) → tokens_from at 0 (b ∷ bs) ≡ placed at (first_of b bs).0 ++ tokens_from (at + 1) (first_of b bs).1 bs
unfolding tokens_from
at_first at b bs = refl

at_end : (at : ℕ) → tokens_from at 0 [] ≡ []
unfolding tokens_from
at_end at = refl

-- the choice of what begins at a byte, over its tests
abbrev choice : Bool → Bool → Bool → Bool → Bool → Bool → Bool → ℕ → List ℕ → Option Token × ℕ
choice w d l g s q c b bs =
    cond w (None, 0) (cond d (None, prefix_len is_comment bs) (cond l (word_of b bs) (cond g (number_of b bs) (cond s (number_of b bs) (cond q (text_of bs) (cond c (Some Cast, 1) (sign_or b bs (sign_of b))))))))

chosen : (b : ℕ) (bs : List ℕ)
    → first_of b bs ≡ choice (is_white b) (b == 45 && slice_index bs 0 == 45) (is_letter b) (is_digit b) (is_sign b && is_digit (slice_index bs 0)) (b == 39) (b == 58 && slice_index bs 0 == 58) b bs
unfolding first_of
chosen b bs = refl

-- From lexemes to tokens.

step : (at b : ℕ) (t after : List ℕ) (token : Option Token) → first_of b (t ++ after) ≡ (token, length t)
    → tokens_from at 0 (b ∷ t ++ after) ≡ placed at token ++ tokens_from (at + length (b ∷ t)) 0 after
step at b t after token h =
    let n : ℕ = length t in
    let e : at + 1 + n ≡ at + suc n = omega arith in
    at_first at b (t ++ after) ∙ (rw (h, skips (at + 1) n (t ++ after), drop-append_seam t after, e) refl)

over_step : (t : Bool) (n k : ℕ) → t ≡ true → n ≡ k → cond t (1 + n) 0 ≡ suc k
over_step true n k e h = rw h (omega arith)
over_step false n k e h = cc

halt_step : (t : Bool) (n : ℕ) → t ≡ false → cond t (1 + n) 0 ≡ 0
halt_step true n e = cc
halt_step false n e = refl

over_len : (p : ℕ → Bool) (t after : List ℕ) → AllAre p t → Stops p after → prefix_len p (t ++ after) ≡ length t
over_len p [] [] a s = refl
over_len p [] (b ∷ after) a s = halt_step (p b) (prefix_len p after) s
over_len p (b ∷ t) after a s = over_step (p b) (prefix_len p (t ++ after)) (length t) a.0 (over_len p t after a.1 s)

no_dashes : (b : ℕ) (s : Bool) → b ≢ 45 → (b == 45 && s) ≡ false
no_dashes b s n = let e : (b == 45) ≡ false = grind (arith, nat_tests) in rw e refl

one_blank : (b : ℕ) (after : List ℕ) → is_white b ≡ true → first_of b after ≡ (None, 0)
one_blank b after w = chosen b after ∙ (rw w refl)

one_remark : (t after : List ℕ) → AllAre is_comment t → Stops is_comment after → first_of 45 ((45 ∷ t) ++ after) ≡ (None, length (45 ∷ t))
one_remark t after a s = chosen 45 ((45 ∷ t) ++ after) ∙ ap (λ (n : ℕ). (None, n)) (over_len is_comment (45 ∷ t) after (refl, a) s)

letter_white : (b : ℕ) → is_letter b ≡ true → is_white b ≡ false
letter_white b h = grind (arith, nat_tests)

letter_dash : (b : ℕ) → is_letter b ≡ true → b ≢ 45
letter_dash b h = λ e. let f : false ≡ true = (rw e at h) in cc

digit_white : (b : ℕ) → is_digit b ≡ true → is_white b ≡ false
digit_white b h = grind (arith, nat_tests)

digit_dash : (b : ℕ) → is_digit b ≡ true → b ≢ 45
digit_dash b h = λ e. let f : false ≡ true = (rw e at h) in cc

digit_letter : (b : ℕ) → is_digit b ≡ true → is_letter b ≡ false
digit_letter b h = grind (arith, nat_tests)

sign_white : (b : ℕ) → is_sign b ≡ true → is_white b ≡ false
sign_white b h = grind (arith, nat_tests)

sign_letter : (b : ℕ) → is_sign b ≡ true → is_letter b ≡ false
sign_letter b h = grind (arith, nat_tests)

sign_digit : (b : ℕ) → is_sign b ≡ true → is_digit b ≡ false
sign_digit b h = grind (arith, nat_tests)

at_word : (w d l g s q c : Bool) (b : ℕ) (bs : List ℕ) → w ≡ false → d ≡ false → l ≡ true → choice w d l g s q c b bs ≡ word_of b bs
at_word w d l g s q c b bs e f h = rw (e, f, h) refl

at_number : (w d l g s q c : Bool) (b : ℕ) (bs : List ℕ) → w ≡ false → d ≡ false → l ≡ false → g ≡ true → choice w d l g s q c b bs ≡ number_of b bs
at_number w d l g s q c b bs e f h k = rw (e, f, h, k) refl

at_signed : (w d l g s q c : Bool) (b : ℕ) (bs : List ℕ) → w ≡ false → d ≡ false → l ≡ false → g ≡ false → s ≡ true → choice w d l g s q c b bs ≡ number_of b bs
at_signed w d l g s q c b bs e f h k m = rw (e, f, h, k, m) refl

at_sign : (w d l g s q c : Bool) (b : ℕ) (bs : List ℕ) → w ≡ false → d ≡ false → l ≡ false → g ≡ false → s ≡ false → q ≡ false → c ≡ false
    → choice w d l g s q c b bs ≡ sign_or b bs (sign_of b)
at_sign w d l g s q c b bs e f h k m i j = rw (e, f, h, k, m, i, j) refl

abbrev word_with : ℕ → List ℕ → ℕ → Option Token × ℕ
word_with b bs n = cond (nat_lt n 63) (Some (Word (map folded (b ∷ take n bs))), n) (unknown bs)

short : (n : ℕ) → n < 63 → nat_lt n 63 ≡ true
short n l = grind (arith, nat_tests)

one_word : (b : ℕ) (w after : List ℕ) → Fits (word b w) after → first_of b (w ++ after) ≡ (Some (Word (map folded (b ∷ w))), length w)
one_word b w after f =
    let bs : List ℕ = w ++ after in
    chosen b bs
    ∙ at_word (is_white b) (b == 45 && slice_index bs 0 == 45) (is_letter b) (is_digit b) (is_sign b && is_digit (slice_index bs 0)) (b == 39) (b == 58 && slice_index bs 0 == 58) b bs
    (letter_white b f.0) (no_dashes b (slice_index bs 0 == 45) (letter_dash b f.0)) f.0
    ∙ ap (λ (n : ℕ). word_with b bs n) (over_len is_word w after f.1 f.2)
    ∙ (rw (short (length w) f.3, take-append_seam w after) refl)

abbrev number_with : ℕ → List ℕ → ℕ → Option Token × ℕ
number_with b bs n = (Some (Number (b ∷ take n bs)), n)

digits_read : (b : ℕ) (ds after : List ℕ) → AllAre is_digit ds → Stops is_digit after → number_of b (ds ++ after) ≡ (Some (Number (b ∷ ds)), length ds)
digits_read b ds after a s =
    ap (λ (n : ℕ). number_with b (ds ++ after) n) (over_len is_digit ds after a s) ∙ (rw (take-append_seam ds after) refl)

signed_tests : (b : ℕ) (ds after : List ℕ) → AllAre is_digit ds → is_sign b ≡ true → 0 < length ds
    → ((b == 45 && slice_index (ds ++ after) 0 == 45) ≡ false) × ((is_sign b && is_digit (slice_index (ds ++ after) 0)) ≡ true)
signed_tests b [] after a s l = absurd (omega arith)
signed_tests b (x ∷ ds) after a s l =
    let n = digit_dash x a.0 in
    let e : (x == 45) ≡ false = grind (arith, nat_tests) in
    (and_false (b == 45) (x == 45) e, rw (s, a.0) refl)
  where
    and_false : (p q : Bool) → q ≡ false → (p && q) ≡ false
    and_false true q e = e
    and_false false q e = refl

one_number : (b : ℕ) (ds after : List ℕ) → AllAre is_digit ds → Stops is_digit after → (is_digit b ≡ true) ⊎ ((is_sign b ≡ true) × (0 < length ds))
    → first_of b (ds ++ after) ≡ (Some (Number (b ∷ ds)), length ds)
one_number b ds after a s (inl g) =
    let bs : List ℕ = ds ++ after in
    chosen b bs
    ∙ at_number (is_white b) (b == 45 && slice_index bs 0 == 45) (is_letter b) (is_digit b) (is_sign b && is_digit (slice_index bs 0)) (b == 39) (b == 58 && slice_index bs 0 == 58) b bs
    (digit_white b g) (no_dashes b (slice_index bs 0 == 45) (digit_dash b g)) (digit_letter b g) g
    ∙ digits_read b ds after a s
one_number b ds after a s (inr h) =
    let bs : List ℕ = ds ++ after in
    let t = signed_tests b ds after a h.0 h.1 in
    chosen b bs
    ∙ at_signed (is_white b) (b == 45 && slice_index bs 0 == 45) (is_letter b) (is_digit b) (is_sign b && is_digit (slice_index bs 0)) (b == 39) (b == 58 && slice_index bs 0 == 58) b bs
    (sign_white b h.0) t.0 (sign_letter b h.0) (sign_digit b h.0) t.1
    ∙ digits_read b ds after a s

-- a text and its closing quote
quote_closes : (after : List ℕ) → BeginsNot 39 after → text_from true after ≡ Some ([], 0)
quote_closes [] h = refl
quote_closes (b ∷ bs) h = let e : (b == 39) ≡ false = grind (arith, nat_tests) in rw e refl

text_read : (t after : List ℕ) → BeginsNot 39 after → text_from false ((doubled t ++ 39 ∷ []) ++ after) ≡ Some (t, length (doubled t ++ 39 ∷ []))
text_read [] after h = rw (quote_closes after h) refl
text_read (b ∷ t) after h = by_quote (b == 39) refl (text_read t after h)
  where
    by_quote : (q : Bool) → (b == 39) ≡ q → text_from false ((doubled t ++ 39 ∷ []) ++ after) ≡ Some (t, length (doubled t ++ 39 ∷ []))
        → text_from false ((cond q (39 ∷ 39 ∷ doubled t) (b ∷ doubled t) ++ 39 ∷ []) ++ after) ≡ Some (b ∷ t, length (cond q (39 ∷ 39 ∷ doubled t) (b ∷ doubled t) ++ 39 ∷ []))
    by_quote true e i =
        let k : b ≡ 39 = grind (arith, nat_tests) in
        let n : ℕ = length (doubled t ++ 39 ∷ []) in
        let m : n + 1 + 1 ≡ suc (suc n) = omega arith in
        ap (λ (o : Option (List ℕ × ℕ)). and_quote (and_byte 39 o)) i ∙ (rw (m, k) refl)
    by_quote false e i =
        let n : ℕ = length (doubled t ++ 39 ∷ []) in
        let m : n + 1 ≡ suc n = omega arith in
        rw (e, i, m) refl

one_text : (t after : List ℕ) → BeginsNot 39 after → first_of 39 ((doubled t ++ 39 ∷ []) ++ after) ≡ (Some (Text t), length (doubled t ++ 39 ∷ []))
one_text t after h =
    let bs : List ℕ = (doubled t ++ 39 ∷ []) ++ after in
    chosen 39 bs ∙ ap (λ (o : Option (List ℕ × ℕ)). text_found bs o) (text_read t after h)

one_cast : (after : List ℕ) → first_of 58 (58 ∷ after) ≡ (Some Cast, 1)
one_cast after = chosen 58 (58 ∷ after)

-- a sign is no other thing
record IsSign (b : ℕ) : Type 0 where
  white : is_white b ≡ false
  dash : b ≢ 45
  letter : is_letter b ≡ false
  digit : is_digit b ≡ false
  sign : is_sign b ≡ false
  quote : (b == 39) ≡ false
  colon : (b == 58) ≡ false

is_one : (b n : ℕ) → b ≡ n → IsSign n → IsSign b
is_one b n e s = rw e s

same_from : (a b : ℕ) → (a == b) ≡ true → a ≡ b
same_from a b e = grind (arith, nat_tests)

abbrev a_sign : (b : ℕ) → Type 0
a_sign b = IsSign b

which : (b : ℕ) (p q r s t u : Bool) → (b == 40) ≡ p → (b == 41) ≡ q → (b == 91) ≡ r → (b == 93) ≡ s → (b == 44) ≡ t → (b == 42) ≡ u
    → is_some (cond p (Some Open) (cond q (Some Close) (cond r (Some OpenBracket) (cond s (Some CloseBracket) (cond t (Some Comma) (cond u (Some Star) None)))))) ≡ true → IsSign b
which b true q r s t u e f g h i j k = is_one b 40 (same_from b 40 e) (record { white = refl; dash = λ x. absurd (omega arith); letter = refl; digit = refl; sign = refl; quote = refl; colon = refl })
which b false true r s t u e f g h i j k = is_one b 41 (same_from b 41 f) (record { white = refl; dash = λ x. absurd (omega arith); letter = refl; digit = refl; sign = refl; quote = refl; colon = refl })
which b false false true s t u e f g h i j k = is_one b 91 (same_from b 91 g) (record { white = refl; dash = λ x. absurd (omega arith); letter = refl; digit = refl; sign = refl; quote = refl; colon = refl })
which b false false false true t u e f g h i j k = is_one b 93 (same_from b 93 h) (record { white = refl; dash = λ x. absurd (omega arith); letter = refl; digit = refl; sign = refl; quote = refl; colon = refl })
which b false false false false true u e f g h i j k = is_one b 44 (same_from b 44 i) (record { white = refl; dash = λ x. absurd (omega arith); letter = refl; digit = refl; sign = refl; quote = refl; colon = refl })
which b false false false false false true e f g h i j k = is_one b 42 (same_from b 42 j) (record { white = refl; dash = λ x. absurd (omega arith); letter = refl; digit = refl; sign = refl; quote = refl; colon = refl })
which b false false false false false false e f g h i j k = cc

some_of : (o : Option Token) → is_some o ≡ true → (token : Token) × (o ≡ Some token)
some_of None e = cc
some_of (Some t) e = (t, refl)

one_sign : (b : ℕ) (after : List ℕ) → is_some (sign_of b) ≡ true → first_of b after ≡ (sign_of b, 0)
one_sign b after f =
    let i = which b (b == 40) (b == 41) (b == 91) (b == 93) (b == 44) (b == 42) refl refl refl refl refl refl f in
    let t = some_of (sign_of b) f in
    let s : (is_sign b && is_digit (slice_index after 0)) ≡ false = rw i.sign refl in
    let c : (b == 58 && slice_index after 0 == 58) ≡ false = rw i.colon refl in
    let d : (b == 45 && slice_index after 0 == 45) ≡ false = no_dashes b (slice_index after 0 == 45) i.dash in
    chosen b after
    ∙ at_sign (is_white b) (b == 45 && slice_index after 0 == 45) (is_letter b) (is_digit b) (is_sign b && is_digit (slice_index after 0)) (b == 39) (b == 58 && slice_index after 0 == 58) b after
    i.white d i.letter i.digit s i.quote c
    ∙ ap (λ (o : Option Token). sign_or b after o) t.1 ∙ ap (λ (o : Option Token). (o, 0)) (sym t.1)

-- operators

-- no longer operator stands there
longer : (b : ℕ) (o after : List ℕ) (m : ℕ) (t : Bool) → 0 < m → Fits (operator b o) after → stands (length o + m) b (o ++ after) ≡ t → t ≡ false
longer b o after m false z f e = refl
longer b o after m true z f e =
    let more : List ℕ = take m after in
    let behind : List ℕ = drop m after in
    let w : nat_le (length o + m) (length (o ++ after)) ≡ true = (and_parts (nat_le (length o + m) (length (o ++ after))) _ e).0 in
    let l : length o + m ≤ length (o ++ after) = grind (arith, nat_tests) in
    let k : m ≤ length after = omega (arith, length-append o after) in
    let n : length more ≡ m = omega (arith, length-take m after) in
    let c : length (o ++ more) ≡ length o + m = length-append o more ∙ ap (λ (x : ℕ). length o + x) n in
    let j : (o ++ more) ++ behind ≡ o ++ after = append_assoc o more behind ∙ ap (λ (xs : List ℕ). o ++ xs) (take-append-drop m after) in
    let g : stands (length (o ++ more)) b ((o ++ more) ++ behind) ≡ true = (rw (c, j) e) in
    let nil : more ≡ [] = f.1 more behind (sym (take-append-drop m after)) (stands_to b (o ++ more) behind g) in
    let zero_m : length more ≡ 0 = ap (λ (xs : List ℕ). length xs) nil in
    absurd (omega arith)

first_true : {A : Type 0} (x : Bool) (p q : A) → x ≡ true → cond x p q ≡ p
first_true true p q e = refl
first_true false p q e = cc

first_false : {A : Type 0} (x : Bool) (p q : A) → x ≡ false → cond x p q ≡ q
first_false true p q e = cc
first_false false p q e = refl

abbrev third : Bool → Bool → Bool → ℕ → List ℕ → Option Token × ℕ
third x y z b bs = cond x (operator_with b bs 2) (cond y (operator_with b bs 1) (cond z (operator_with b bs 0) (unknown bs)))

operator_read : (b : ℕ) (o after : List ℕ) → length o < 3 → Fits (operator b o) after → operator_of b (o ++ after) ≡ (Some (Operator (operator_text (b ∷ o))), length o)
operator_read b [] after s f =
    let bs : List ℕ = after in
    let x : stands 2 b bs ≡ false = longer b [] after 2 (stands 2 b bs) (omega arith) f refl in
    let y : stands 1 b bs ≡ false = longer b [] after 1 (stands 1 b bs) (omega arith) f refl in
    let z : stands 0 b bs ≡ true = stands_from b [] after f.0 in
    first_false (stands 2 b bs) _ _ x ∙ first_false (stands 1 b bs) _ _ y ∙ first_true (stands 0 b bs) _ _ z
operator_read b (c ∷ []) after s f =
    let bs : List ℕ = c ∷ after in
    let x : stands 2 b bs ≡ false = longer b (c ∷ []) after 1 (stands 2 b bs) (omega arith) f refl in
    let y : stands 1 b bs ≡ true = stands_from b (c ∷ []) after f.0 in
    first_false (stands 2 b bs) _ _ x ∙ first_true (stands 1 b bs) _ _ y
operator_read b (c ∷ d ∷ []) after s f =
    let bs : List ℕ = c ∷ d ∷ after in
    let x : stands 2 b bs ≡ true = stands_from b (c ∷ d ∷ []) after f.0 in
    first_true (stands 2 b bs) _ _ x
operator_read b (c ∷ d ∷ e ∷ o) after s f = absurd (omega arith)

one_operator : (b : ℕ) (o after : List ℕ) → Fits (operator b o) after → first_of b (o ++ after) ≡ (Some (Operator (operator_text (b ∷ o))), length o)
one_operator b o after f =
    let bs : List ℕ = o ++ after in
    let i = begins_operator b o f.0.0 in
    let c : (b == 58 && slice_index bs 0 == 58) ≡ false = rw i.colon refl in
    chosen b bs
    ∙ at_sign (is_white b) (b == 45 && slice_index bs 0 == 45) (is_letter b) (is_digit b) (is_sign b && is_digit (slice_index bs 0)) (b == 39) (b == 58 && slice_index bs 0 == 58) b bs
    i.white (i.dashes after) i.letter i.digit (i.signed after) i.quote c
    ∙ ap (λ (t : Option Token). sign_or b bs t) i.sign
    ∙ operator_read b o after i.short f

one : (l : Lexeme) (after : List ℕ) → Fits l after → first_of (first l) (others l ++ after) ≡ (token_in l, length (others l))
one (blank b) after f = one_blank b after f
one (remark t) after f = one_remark t after f.0 f.1
one (word b w) after f = one_word b w after f
one (number b ds) after f = one_number b ds after f.0 f.1 f.2
one (text t) after f = one_text t after f
one (sign b) after f = one_sign b after f
one cast after f = one_cast after
one (operator b o) after f = one_operator b o after f

-- From tokens to lexemes.

front_step : (p : ℕ → Bool) (t : Bool) (n b : ℕ) (bs : List ℕ) → p b ≡ t → AllAre p (take n bs) → AllAre p (take (cond t (1 + n) 0) (b ∷ bs))
front_step p true n b bs e h = let s : 1 + n ≡ suc n = omega arith in rw s (e, h)
front_step p false n b bs e h = tt

all_front : (p : ℕ → Bool) (bs : List ℕ) → AllAre p (take (prefix_len p bs) bs)
all_front p [] = tt
all_front p (b ∷ bs) = front_step p (p b) (prefix_len p bs) b bs refl (all_front p bs)

stop_step : (p : ℕ → Bool) (t : Bool) (n b : ℕ) (bs : List ℕ) → p b ≡ t → Stops p (drop n bs) → Stops p (drop (cond t (1 + n) 0) (b ∷ bs))
stop_step p true n b bs e h = let s : 1 + n ≡ suc n = omega arith in rw s h
stop_step p false n b bs e h = e

stops_behind : (p : ℕ → Bool) (bs : List ℕ) → Stops p (drop (prefix_len p bs) bs)
stops_behind p [] = tt
stops_behind p (b ∷ bs) = stop_step p (p b) (prefix_len p bs) b bs refl (stops_behind p bs)

len_step : (t : Bool) (n k : ℕ) → n ≤ k → cond t (1 + n) 0 ≤ suc k
len_step true n k l = omega arith
len_step false n k l = omega arith

len_within : (p : ℕ → Bool) (bs : List ℕ) → prefix_len p bs ≤ length bs
len_within p [] = omega arith
len_within p (b ∷ bs) = len_step (p b) (prefix_len p bs) (length bs) (len_within p bs)

taken_len : (n : ℕ) (bs : List ℕ) → n ≤ length bs → length (take n bs) ≡ n
taken_len n bs l = omega (arith, length-take n bs)

-- what begins at a byte
record Found (b : ℕ) (bs : List ℕ) (y : Option Token × ℕ) : Type 0 where
  lexeme : Lexeme
  whole : b ∷ bs ≡ spelled lexeme ++ drop y.1 bs
  fits : Fits lexeme (drop y.1 bs)
  token : token_in lexeme ≡ y.0
  len : length (others lexeme) ≡ y.1

moved : (b : ℕ) (bs : List ℕ) (x y : Option Token × ℕ) → x ≡ y → Found b bs x → Found b bs y
moved b bs x y e f = let P : Option Token × ℕ → Type 0 = λ z. Found b bs z in subst P e f

joined : (b n : ℕ) (bs : List ℕ) → b ∷ bs ≡ (b ∷ take n bs) ++ drop n bs
joined b n bs = ap (λ (xs : List ℕ). b ∷ xs) (sym (take-append-drop n bs))

found_remark : (b : ℕ) (bs : List ℕ) → b ≡ 45 → (slice_index bs 0 == 45) ≡ true → Found b bs (None, prefix_len is_comment bs)
found_remark b [] e d = cc
found_remark b (x ∷ cs) e d =
    let m : ℕ = prefix_len is_comment cs in
    let f : x ≡ 45 = same_from x 45 d in
    let n : prefix_len is_comment (x ∷ cs) ≡ suc m = rw f (omega arith) in
    rw n (record {
      lexeme = remark (take m cs);
      whole = rw (e, f) (ap (λ (xs : List ℕ). 45 ∷ 45 ∷ xs) (sym (take-append-drop m cs)));
      fits = (all_front is_comment cs, stops_behind is_comment cs);
      token = refl;
      len = ap (λ (k : ℕ). suc k) (taken_len m cs (len_within is_comment cs));
    })

below : (n : ℕ) (bs : List ℕ) → nat_lt n 63 ≡ true → length (take n bs) < 63
below n bs e = let l : n < 63 = grind (arith, nat_tests) in omega (arith, length-take n bs)

found_word : (b : ℕ) (bs : List ℕ) (t : Bool) → is_letter b ≡ true → nat_lt (prefix_len is_word bs) 63 ≡ t
    → Found b bs (cond t (Some (Word (map folded (b ∷ take (prefix_len is_word bs) bs))), prefix_len is_word bs) (unknown bs))
    ⊎ (cond t (Some (Word (map folded (b ∷ take (prefix_len is_word bs) bs))), prefix_len is_word bs) (unknown bs) ≡ unknown bs)
found_word b bs true l e =
    let n : ℕ = prefix_len is_word bs in
    inl (record {
      lexeme = word b (take n bs);
      whole = joined b n bs;
      fits = (l, all_front is_word bs, stops_behind is_word bs, below n bs e);
      token = refl;
      len = taken_len n bs (len_within is_word bs);
    })
found_word b bs false l e = inr refl

found_number : (b : ℕ) (bs : List ℕ) → (is_digit b ≡ true) ⊎ ((is_sign b ≡ true) × (0 < prefix_len is_digit bs)) → Found b bs (number_of b bs)
found_number b bs h =
    let n : ℕ = prefix_len is_digit bs in
    let k : length (take n bs) ≡ n = taken_len n bs (len_within is_digit bs) in
    record {
      lexeme = number b (take n bs);
      whole = joined b n bs;
      fits = (all_front is_digit bs, stops_behind is_digit bs, rw k h);
      token = refl;
      len = k;
    }

some_digit : (bs : List ℕ) → is_digit (slice_index bs 0) ≡ true → 0 < prefix_len is_digit bs
some_digit [] e = cc
some_digit (b ∷ bs) e = rw e (omega arith)

-- texts

quote_is : (o : Option (List ℕ × ℕ)) (x : List ℕ × ℕ) → and_quote o ≡ Some x → (y : List ℕ × ℕ) × (o ≡ Some y) × ((y.0, y.1 + 1) ≡ x)
quote_is None x e = cc
quote_is (Some y) x e = (y, refl, cc)

byte_is : (b : ℕ) (o : Option (List ℕ × ℕ)) (x : List ℕ × ℕ) → and_byte b o ≡ Some x → (y : List ℕ × ℕ) × (o ≡ Some y) × ((b ∷ y.0, y.1 + 1) ≡ x)
byte_is b None x e = cc
byte_is b (Some y) x e = (y, refl, cc)

-- the bytes of a text, with the quote before them that may close it
abbrev quoted : Bool → List ℕ → List ℕ
quoted false bs = bs
quoted true bs = 39 ∷ bs

record IsText (closing : Bool) (bs : List ℕ) (x : List ℕ × ℕ) : Type 0 where
  whole : quoted closing bs ≡ (doubled x.0 ++ 39 ∷ []) ++ drop x.1 bs
  stops : BeginsNot 39 (drop x.1 bs)
  len : length (doubled x.0 ++ 39 ∷ []) ≡ length (quoted closing []) + x.1

along_text : (closing : Bool) (bs : List ℕ) (x y : List ℕ × ℕ) → x ≡ y → IsText closing bs x → IsText closing bs y
along_text closing bs x y e i = let P : List ℕ × ℕ → Type 0 = λ z. IsText closing bs z in subst P e i

closed_now : (bs : List ℕ) (x : List ℕ × ℕ) → BeginsNot 39 bs → Some ([], 0) ≡ Some x → IsText true bs x
closed_now bs x n e = let s : ([], 0) ≡ x = cc in along_text true bs ([], 0) x s (record { whole = refl; stops = n; len = refl })

apart : (b n : ℕ) → (b == n) ≡ false → b ≢ n
apart b n e = λ k. let t : (b == n) ≡ true = grind (arith, nat_tests) in let f : true ≡ false = sym t ∙ e in cc

suc_of : (n : ℕ) → n + 1 ≡ suc n
suc_of n = omega arith

text_is : (closing : Bool) (bs : List ℕ) (x : List ℕ × ℕ) → text_from closing bs ≡ Some x → IsText closing bs x
text_is false [] x e = cc
text_is true [] x e = closed_now [] x tt e
text_is false (b ∷ bs) x e = by_quote (b == 39) refl (λ y. text_is true bs y) (λ y. text_is false bs y) e
  where
    by_quote : (q : Bool) → (b == 39) ≡ q → ((y : List ℕ × ℕ) → text_from true bs ≡ Some y → IsText true bs y) → ((y : List ℕ × ℕ) → text_from false bs ≡ Some y → IsText false bs y)
        → cond q (and_quote (text_from true bs)) (and_byte b (text_from false bs)) ≡ Some x → IsText false (b ∷ bs) x
    by_quote true f g h k =
        let y = quote_is (text_from true bs) x k in
        let i = g y.0 y.1 in
        let m : b ≡ 39 = same_from b 39 f in
        let s : y.0.1 + 1 ≡ suc y.0.1 = suc_of y.0.1 in
        along_text false (b ∷ bs) (y.0.0, y.0.1 + 1) x y.2 (rw s (record { whole = rw m i.whole; stops = i.stops; len = let l = i.len in omega arith }))
    by_quote false f g h k =
        let y = byte_is b (text_from false bs) x k in
        let i = h y.0 y.1 in
        let s : y.0.1 + 1 ≡ suc y.0.1 = suc_of y.0.1 in
        let d : doubled (b ∷ y.0.0) ≡ b ∷ doubled y.0.0 = rw f refl in
        along_text false (b ∷ bs) (b ∷ y.0.0, y.0.1 + 1) x y.2
        (rw (s) (record { whole = rw f (ap (λ (xs : List ℕ). b ∷ xs) i.whole); stops = i.stops; len = rw f (let l = i.len in omega arith) }))
text_is true (b ∷ bs) x e = by_quote (b == 39) refl (λ y. text_is false bs y) e
  where
    by_quote : (q : Bool) → (b == 39) ≡ q → ((y : List ℕ × ℕ) → text_from false bs ≡ Some y → IsText false bs y)
        → cond q (and_byte 39 (text_from false bs)) (Some ([], 0)) ≡ Some x → IsText true (b ∷ bs) x
    by_quote true f h k =
        let y = byte_is 39 (text_from false bs) x k in
        let i = h y.0 y.1 in
        let m : b ≡ 39 = same_from b 39 f in
        let s : y.0.1 + 1 ≡ suc y.0.1 = suc_of y.0.1 in
        along_text true (b ∷ bs) (39 ∷ y.0.0, y.0.1 + 1) x y.2
        (rw s (record { whole = rw m (ap (λ (xs : List ℕ). 39 ∷ 39 ∷ xs) i.whole); stops = i.stops; len = let l = i.len in omega arith }))
    by_quote false f h k = closed_now (b ∷ bs) x (apart b 39 f) k

found_text : (b : ℕ) (bs : List ℕ) (o : Option (List ℕ × ℕ)) → b ≡ 39 → text_from false bs ≡ o → Found b bs (text_found bs o) ⊎ (text_found bs o ≡ unknown bs)
found_text b bs None e f = inr refl
found_text b bs (Some x) e f =
    let i = text_is false bs x f in
    inl (record {
      lexeme = text x.0;
      whole = rw e (ap (λ (xs : List ℕ). 39 ∷ xs) i.whole);
      fits = i.stops;
      token = refl;
      len = let l = i.len in omega arith;
    })

found_cast : (b : ℕ) (bs : List ℕ) → b ≡ 58 → (slice_index bs 0 == 58) ≡ true → Found b bs (Some Cast, 1)
found_cast b [] e d = cc
found_cast b (x ∷ cs) e d =
    let f : x ≡ 58 = same_from x 58 d in
    record { lexeme = cast; whole = rw (e, f) refl; fits = tt; token = refl; len = refl }

-- an operator of which no longer one begins there
one_at : (b : ℕ) (bs : List ℕ) (n : ℕ) → stands n b bs ≡ true → ((k : ℕ) → n < k → k < 3 → stands k b bs ≡ false) → Found b bs (operator_with b bs n)
one_at b bs n e each =
    let o : List ℕ = take n bs in
    let w : nat_le n (length bs) ≡ true = (and_parts (nat_le n (length bs)) _ e).0 in
    let l : n ≤ length bs = grind (arith, nat_tests) in
    let k : length o ≡ n = taken_len n bs l in
    let j : o ++ drop n bs ≡ bs = take-append-drop n bs in
    let g : stands (length o) b (o ++ drop n bs) ≡ true = rw (k, j) e in
    record {
      lexeme = operator b o;
      whole = joined b n bs;
      fits = (stands_to b o (drop n bs) g, λ more behind. at_more more behind o j k);
      token = refl;
      len = k;
    }
  where
    at_more : (more behind o : List ℕ) → o ++ drop n bs ≡ bs → length o ≡ n → drop n bs ≡ more ++ behind → StandsBefore b (o ++ more) behind → more ≡ []
    at_more [] behind o j k d s = refl
    at_more (x ∷ xs) behind o j k d s =
        let m : List ℕ = x ∷ xs in
        let h = (begins_operator b (o ++ m) s.0).short in
        let t : stands (length (o ++ m)) b ((o ++ m) ++ behind) ≡ true = stands_from b (o ++ m) behind s in
        let q : (o ++ m) ++ behind ≡ bs = append_assoc o m behind ∙ ap (λ (ys : List ℕ). o ++ ys) (sym d) ∙ j in
        let r : stands (length (o ++ m)) b bs ≡ true = (rw (← q) t) in
        let z : stands (length (o ++ m)) b bs ≡ false = each (length (o ++ m)) (omega (arith, length-append o m)) h in
        let f : true ≡ false = sym r ∙ z in
        cc

above_two : (b : ℕ) (bs : List ℕ) (k : ℕ) → 2 < k → k < 3 → stands k b bs ≡ false
above_two b bs k l m = absurd (omega arith)

above_one : (b : ℕ) (bs : List ℕ) (k : ℕ) → stands 2 b bs ≡ false → 1 < k → k < 3 → stands k b bs ≡ false
above_one b bs k e l m = let s : k ≡ 2 = omega arith in rw s e

above_none : (b : ℕ) (bs : List ℕ) (k : ℕ) → stands 2 b bs ≡ false → stands 1 b bs ≡ false → 0 < k → k < 3 → stands k b bs ≡ false
above_none b bs k e f l m = either (k == 2) refl
  where
    either : (t : Bool) → (k == 2) ≡ t → stands k b bs ≡ false
    either true g = let s : k ≡ 2 = same_from k 2 g in rw s e
    either false g = let n = apart k 2 g in let s : k ≡ 1 = omega arith in rw s f

found_operator : (b : ℕ) (bs : List ℕ) (x y z : Bool) → stands 2 b bs ≡ x → stands 1 b bs ≡ y → stands 0 b bs ≡ z → Found b bs (third x y z b bs) ⊎ (third x y z b bs ≡ unknown bs)
found_operator b bs true y z e f g = inl (one_at b bs 2 e (λ k. above_two b bs k))
found_operator b bs false true z e f g = inl (one_at b bs 1 f (λ k. above_one b bs k e))
found_operator b bs false false true e f g = inl (one_at b bs 0 g (λ k. above_none b bs k e f))
found_operator b bs false false false e f g = inr refl

found_sign : (b : ℕ) (bs : List ℕ) (o : Option Token) → sign_of b ≡ o → Found b bs (sign_or b bs o) ⊎ (sign_or b bs o ≡ unknown bs)
found_sign b bs None s = found_operator b bs (stands 2 b bs) (stands 1 b bs) (stands 0 b bs) refl refl refl
found_sign b bs (Some t) s = inl (record { lexeme = sign b; whole = refl; fits = rw s refl; token = s; len = refl })

chain : (w d l g s q c : Bool) (b : ℕ) (bs : List ℕ) → is_white b ≡ w → (b == 45 && slice_index bs 0 == 45) ≡ d → is_letter b ≡ l → is_digit b ≡ g → (is_sign b && is_digit (slice_index bs 0)) ≡ s
    → (b == 39) ≡ q → (b == 58 && slice_index bs 0 == 58) ≡ c
    → Found b bs (choice w d l g s q c b bs) ⊎ (choice w d l g s q c b bs ≡ unknown bs)
chain true d l g s q c b bs ew ed el eg es eq ec = inl (record { lexeme = blank b; whole = refl; fits = ew; token = refl; len = refl })
chain false true l g s q c b bs ew ed el eg es eq ec =
    let h = and_parts (b == 45) (slice_index bs 0 == 45) ed in
    inl (found_remark b bs (same_from b 45 h.0) h.1)
chain false false true g s q c b bs ew ed el eg es eq ec = found_word b bs (nat_lt (prefix_len is_word bs) 63) el refl
chain false false false true s q c b bs ew ed el eg es eq ec = inl (found_number b bs (inl eg))
chain false false false false true q c b bs ew ed el eg es eq ec =
    let h = and_parts (is_sign b) (is_digit (slice_index bs 0)) es in
    inl (found_number b bs (inr (h.0, some_digit bs h.1)))
chain false false false false false true c b bs ew ed el eg es eq ec = found_text b bs (text_from false bs) (same_from b 39 eq) refl
chain false false false false false false true b bs ew ed el eg es eq ec =
    let h = and_parts (b == 58) (slice_index bs 0 == 58) ec in
    inl (found_cast b bs (same_from b 58 h.0) h.1)
chain false false false false false false false b bs ew ed el eg es eq ec = found_sign b bs (sign_of b) refl

found : (b : ℕ) (bs : List ℕ) → Found b bs (first_of b bs) ⊎ (first_of b bs ≡ unknown bs)
found b bs =
    let c = chain (is_white b) (b == 45 && slice_index bs 0 == 45) (is_letter b) (is_digit b) (is_sign b && is_digit (slice_index bs 0)) (b == 39) (b == 58 && slice_index bs 0 == 58) b bs
    refl refl refl refl refl refl refl in
    let P : Option Token × ℕ → Type 0 = λ y. Found b bs y ⊎ (y ≡ unknown bs) in
    subst P (sym (chosen b bs)) c

-- Both ways.

is_unknown : Option Token → Bool
is_unknown None = false
is_unknown (Some Unknown) = true
is_unknown (Some t) = false

sign_known : (b : ℕ) → is_unknown (sign_of b) ≡ false
unfolding is_unknown
sign_known b = each (b == 40) (b == 41) (b == 91) (b == 93) (b == 44) (b == 42)
  where
    each : (p q r s t u : Bool) → is_unknown (cond p (Some Open) (cond q (Some Close) (cond r (Some OpenBracket) (cond s (Some CloseBracket) (cond t (Some Comma) (cond u (Some Star) None)))))) ≡ false
    each true q r s t u = refl
    each false true r s t u = refl
    each false false true s t u = refl
    each false false false true t u = refl
    each false false false false true u = refl
    each false false false false false true = refl
    each false false false false false false = refl

known : (l : Lexeme) → is_unknown (token_in l) ≡ false
unfolding is_unknown
known (blank b) = refl
known (remark t) = refl
known (word b w) = refl
known (number b ds) = refl
known (text t) = refl
known (sign b) = sign_known b
known cast = refl
known (operator b o) = refl

unknown_known : (l : Lexeme) (bs : List ℕ) (n : ℕ) → (token_in l, n) ≡ unknown bs → ⊥
unfolding is_unknown
unknown_known l bs n e =
    let f : token_in l ≡ Some Unknown = ap (λ (x : Option Token × ℕ). x.0) e in
    let g : true ≡ false = ap (λ (o : Option Token). is_unknown o) (sym f) ∙ known l in
    cc

head_same : (a b : ℕ) (xs ys : List ℕ) → a ∷ xs ≡ b ∷ ys → (a ≡ b) × (xs ≡ ys)
head_same a b xs ys e = (cc, cc)

none_begins : (b : ℕ) (bs : List ℕ) → first_of b bs ≡ unknown bs → BeginsNone (b ∷ bs)
none_begins b bs u = λ l after e f.
    let h = head_same b (first l) bs (others l ++ after) e in
    let g : first_of b bs ≡ (token_in l, length (others l)) = rw (h.0, h.1) (one l after f) in
    unknown_known l bs (length (others l)) (sym g ∙ u)

none_at_end : BeginsNone []
none_at_end = λ l after e f. let g : [] ≡ first l ∷ (others l ++ after) = e in absurd (elsewhere (first l) (others l ++ after) g)
  where
    elsewhere : (b : ℕ) (bs : List ℕ) → [] ≡ b ∷ bs → ⊥
    elsewhere b bs e = cc

over_unknown : (at : ℕ) (bs : List ℕ) → tokens_from at (length bs) bs ≡ []
unfolding tokens_from
over_unknown at [] = refl
over_unknown at (b ∷ bs) = over_unknown (at + 1) bs

unknown_rest : (at b : ℕ) (bs : List ℕ) → first_of b bs ≡ unknown bs → tokens_from at 0 (b ∷ bs) ≡ (at, Unknown) ∷ []
unknown_rest at b bs u = at_first at b bs ∙ (rw (u, over_unknown (at + 1) bs) refl)

tail_read : (at : ℕ) (tail : List ℕ) → BeginsNone tail → tokens_from at 0 tail ≡ unknown_at at tail
tail_read at [] n = at_end at
tail_read at (b ∷ bs) n = either (found b bs)
  where
    either : Found b bs (first_of b bs) ⊎ (first_of b bs ≡ unknown bs) → tokens_from at 0 (b ∷ bs) ≡ (at, Unknown) ∷ []
    either (inl f) = absurd (n f.lexeme (drop (first_of b bs).1 bs) f.whole f.fits)
    either (inr u) = unknown_rest at b bs u

all_read : (at : ℕ) (ls : List Lexeme) (tail : List ℕ) → AreLexemes ls tail → BeginsNone tail
    → tokens_from at 0 (flat_map spelled ls ++ tail) ≡ places at ls ++ unknown_at (at + length (flat_map spelled ls)) tail
all_read at [] tail a n = let e : at + 0 ≡ at = omega arith in rw e (tail_read at tail n)
all_read at (l ∷ ls) tail a n =
    let rest : List ℕ = flat_map spelled ls in
    let k : ℕ = length (spelled l) in
    let e : at + k + length rest ≡ at + length (spelled l ++ rest) = omega (arith, length-append (spelled l) rest) in
    ap (λ (bs : List ℕ). tokens_from at 0 bs) (append_assoc (spelled l) rest tail)
    ∙ step at (first l) (others l) (rest ++ tail) (token_in l) (one l (rest ++ tail) a.0)
    ∙ ap (λ (ts : List (ℕ × Token)). placed at (token_in l) ++ ts) (all_read (at + k) ls tail a.1 n)
    ∙ sym (append_assoc (placed at (token_in l)) (places (at + k) ls) (unknown_at (at + k + length rest) tail))
    ∙ ap (λ (m : ℕ). (placed at (token_in l) ++ places (at + k) ls) ++ unknown_at m tail) e

pub scanned : (piece : List ℕ) (tokens : List (ℕ × Token)) → Spells piece tokens → tokens_of piece ≡ tokens
scanned piece tokens h = rw (h.2, h.5) (all_read 0 h.0 h.1 h.3 h.4)

onto : (at b : ℕ) (bs : List ℕ) (y : Option Token × ℕ) (more : List (ℕ × Token)) → Found b bs y → SpellsFrom (at + 1 + y.1) (drop y.1 bs) more → SpellsFrom at (b ∷ bs) (placed at y.0 ++ more)
onto at b bs y more f s =
    let P : List ℕ → Type 0 = λ xs. Fits f.lexeme xs in
    let l : Lexeme = f.lexeme in
    let rest : List ℕ = flat_map spelled s.0 in
    let k : length (spelled l) ≡ suc y.1 = ap (λ (n : ℕ). suc n) f.len in
    let a : at + 1 + y.1 ≡ at + length (spelled l) = omega arith in
    let e : at + 1 + y.1 + length rest ≡ at + length (spelled l ++ rest) = omega (arith, length-append (spelled l) rest) in (
      l ∷ s.0,
      s.1,
      f.whole ∙ ap (λ (xs : List ℕ). spelled l ++ xs) s.2 ∙ sym (append_assoc (spelled l) rest s.1),
      (subst P s.2 f.fits, s.3),
      s.4,
      ap (λ (o : Option Token). placed at o ++ more) (sym f.token)
          ∙ ap (λ (xs : List (ℕ × Token)). placed at (token_in l) ++ xs) s.5
          ∙ sym (append_assoc (placed at (token_in l)) (places (at + 1 + y.1) s.0) (unknown_at (at + 1 + y.1 + length rest) s.1))
          ∙ ap (λ (n : ℕ). (placed at (token_in l) ++ places n s.0) ++ unknown_at (at + 1 + y.1 + length rest) s.1) a
          ∙ ap (λ (n : ℕ). (placed at (token_in l) ++ places (at + length (spelled l)) s.0) ++ unknown_at n s.1) e,
    )

read_from : (n at : ℕ) (bs : List ℕ) → length bs < n → SpellsFrom at bs (tokens_from at 0 bs)
read_from zero at bs l = absurd (omega arith)
read_from (suc n) at [] l = ([], [], refl, tt, none_at_end, at_end at)
read_from (suc n) at (b ∷ bs) l =
    let y : Option Token × ℕ = first_of b bs in
    let m : ℕ = y.1 in
    let r : tokens_from at 0 (b ∷ bs) ≡ placed at y.0 ++ tokens_from (at + 1 + m) 0 (drop m bs) = at_first at b bs ∙ ap (λ (ts : List (ℕ × Token)). placed at y.0 ++ ts) (skips (at + 1) m bs) in
    either (found b bs) r (read_from n (at + 1 + m) (drop m bs) (omega (arith, length-drop m bs)))
  where
    either : Found b bs (first_of b bs) ⊎ (first_of b bs ≡ unknown bs)
        → tokens_from at 0 (b ∷ bs) ≡ placed at (first_of b bs).0 ++ tokens_from (at + 1 + (first_of b bs).1) 0 (drop (first_of b bs).1 bs)
        → SpellsFrom (at + 1 + (first_of b bs).1) (drop (first_of b bs).1 bs) (tokens_from (at + 1 + (first_of b bs).1) 0 (drop (first_of b bs).1 bs))
        → SpellsFrom at (b ∷ bs) (tokens_from at 0 (b ∷ bs))
    either (inl f) r s =
        let P : List (ℕ × Token) → Type 0 = λ ts. SpellsFrom at (b ∷ bs) ts in
        subst P (sym r) (onto at b bs (first_of b bs) (tokens_from (at + 1 + (first_of b bs).1) 0 (drop (first_of b bs).1 bs)) f s)
    either (inr u) r s = ([], b ∷ bs, refl, tt, none_begins b bs u, (let e : at + 0 ≡ at = omega arith in rw e (unknown_rest at b bs u)))

pub spelled_from : (piece : List ℕ) (tokens : List (ℕ × Token)) → tokens_of piece ≡ tokens → Spells piece tokens
spelled_from piece tokens e =
    let P : List (ℕ × Token) → Type 0 = λ ts. Spells piece ts in
    subst P e (read_from (length piece + 1) 0 piece (omega arith))
