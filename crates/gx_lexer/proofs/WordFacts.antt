-- The words of a piece are short.
use Rattle.std.proofs.Common.{◌≡◌, ℕ, ◌+◌, ◌≤◌, ◌<◌, Bool, true, false, ◌||◌, ◌&&◌, ◌==◌, nat_le, cond, if◌then◌else◌, List, [], ◌∷◌, ◌++◌, length, map, Option, Some, None, refl, sym, ◌∙◌, ap, subst, arith}
use Rattle.std.proofs.lemmas.List.{length-map}
use Rattle.std.specs.List.{AllByRecursion}
use Rattle.std.proofs.lemmas.Bool.Decides.{nat_tests}
use Rattle.gx_lexer.specs.declared.token.Token.{Token}
use Rattle.gx_lexer.specs.declared.token.Token.TheVariants.{Word, Number, Text, Operator, Open, Close, OpenBracket, CloseBracket, Comma, Star, Cast, Unknown}
use Rattle.gx_lexer.specs.Letters.{is_upper, is_lower, is_digit, is_letter, is_word, folded}
use Rattle.gx_lexer.specs.Lexemes.{Lexeme, blank, remark, word, number, text, sign, cast, operator, AllAre, AreLexemes, token_in, spelled, places, unknown_at}
use Rattle.gx_lexer.specs.Names.{is_small, IsWord, HasWord}
use Rattle.gx_lexer.specs.Tokens.{placed, sign_of, tokens_of}
use Rattle.gx_lexer.proofs.LexemeFacts as facts

abbrev P : ℕ × Token → Type 0
P x = HasWord x.1

both : (xs ys : List (ℕ × Token)) → AllByRecursion P xs → AllByRecursion P ys → AllByRecursion P (xs ++ ys)
both [] ys h k = k
both (x ∷ xs) ys h k = (h.0, both xs ys h.1 k)

or_right : (a : Bool) → (a || true) ≡ true
or_right true = refl
or_right false = refl

lower_more : (b : ℕ) → is_upper b ≡ true → is_lower (b + 32) ≡ true
lower_more b e = grind (arith, nat_tests)

letter_small : (u l s d : Bool) → (u || l || s) || d ≡ true → u ≡ false → (l || d || s) ≡ true
letter_small true l s d e f = cc
letter_small false true s d e f = refl
letter_small false false true d e f = or_right d
letter_small false false false true e f = refl
letter_small false false false false e f = cc

small_if : (b : ℕ) (u : Bool) → is_upper b ≡ u → is_word b ≡ true → is_small (cond u (b + 32) b) ≡ true
small_if b true e f = ap (λ (x : Bool). x || is_digit (b + 32) || (b + 32) == 95) (lower_more b e)
small_if b false e f = letter_small (is_upper b) (is_lower b) (b == 95) (is_digit b) f e

small : (b : ℕ) → is_word b ≡ true → is_small (folded b) ≡ true
small b e = small_if b (is_upper b) refl e

smalls : (bs : List ℕ) → AllAre is_word bs → AllAre is_small (map folded bs)
smalls [] h = tt
smalls (b ∷ bs) h = (small b h.0, smalls bs h.1)

letter_word : (b : ℕ) → is_letter b ≡ true → is_word b ≡ true
letter_word b e = ap (λ (x : Bool). x || is_digit b) e

a_word : (b : ℕ) (w : List ℕ) → is_letter b ≡ true → AllAre is_word w → length w < 63 → IsWord (map folded (b ∷ w))
a_word b w e h l =
    let k = length-map w folded in
    record { some = omega arith; short = omega arith; bytes = (small b (letter_word b e), smalls w h) }

sign_if : (at : ℕ) (p q r s t u : Bool)
    → AllByRecursion P (placed at (if p then Some Open else (if q then Some Close else (if r then Some OpenBracket else (if s then Some CloseBracket else (if t then Some Comma else (if u then Some Star else None)))))))
sign_if at true q r s t u = (tt, tt)
sign_if at false true r s t u = (tt, tt)
sign_if at false false true s t u = (tt, tt)
sign_if at false false false true t u = (tt, tt)
sign_if at false false false false true u = (tt, tt)
sign_if at false false false false false true = (tt, tt)
sign_if at false false false false false false = tt

all_words : (ls : List Lexeme) (tail : List ℕ) (at : ℕ) → AreLexemes ls tail → AllByRecursion P (places at ls)
all_words [] tail at h = tt
all_words (blank b ∷ ls) tail at h = all_words ls tail (at + length (spelled (blank b))) h.1
all_words (remark t ∷ ls) tail at h = all_words ls tail (at + length (spelled (remark t))) h.1
all_words (word b w ∷ ls) tail at h = (a_word b w h.0.0 h.0.1 h.0.3, all_words ls tail (at + length (spelled (word b w))) h.1)
all_words (number b ds ∷ ls) tail at h = (tt, all_words ls tail (at + length (spelled (number b ds))) h.1)
all_words (text t ∷ ls) tail at h = (tt, all_words ls tail (at + length (spelled (text t))) h.1)
all_words (sign b ∷ ls) tail at h =
    both (placed at (sign_of b)) (places (at + length (spelled (sign b))) ls)
    (sign_if at (b == 40) (b == 41) (b == 91) (b == 93) (b == 44) (b == 42)) (all_words ls tail (at + length (spelled (sign b))) h.1)
all_words (cast ∷ ls) tail at h = (tt, all_words ls tail (at + length (spelled cast)) h.1)
all_words (operator b o ∷ ls) tail at h = (tt, all_words ls tail (at + length (spelled (operator b o))) h.1)

none_unknown : (at : ℕ) (tail : List ℕ) → AllByRecursion P (unknown_at at tail)
none_unknown at [] = tt
none_unknown at (b ∷ bs) = (tt, tt)

pub words_are_short : (piece : List ℕ) → AllByRecursion P (tokens_of piece)
words_are_short piece =
    let s = facts.spelled_from piece (tokens_of piece) refl in
    let Q : List (ℕ × Token) → Type 0 = λ ts. AllByRecursion P ts in
    subst Q (sym s.5) (both (places 0 s.0) (unknown_at _ s.1) (all_words s.0 s.1 0 s.3) (none_unknown _ s.1))
