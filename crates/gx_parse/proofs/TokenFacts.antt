-- What single tokens are.
use Rattle.std.proofs.Common.{◌≡◌, ℕ, Bool, true, false, cond, List, codes, Option, Some, None, refl, ap, subst}
use Rattle.std.specs.Str.{bytes_eq}
use Rattle.std.specs.Option.{option_map}
use Rattle.std.proofs.lemmas.Slice.Eq.{bytes_eq-Decides}
use Rattle.gx_lexer.specs.declared.token.Token.{Token}
use Rattle.gx_lexer.specs.declared.token.Token.TheVariants.{Word, Number, Text, Operator, Open, Close, OpenBracket, CloseBracket, Comma, Star, Cast, Unknown}
use Rattle.gx_parse.specs.Grammar.{IsName}
use Rattle.gx_parse.specs.Words.{is_reserved, is_word, is_open, is_close, is_comma, is_equal, word_in, name_in, number_in}

pub same : (xs ys : List ℕ) → bytes_eq xs ys ≡ true → xs ≡ ys
same xs ys e = (bytes_eq-Decides xs ys).0 e

pub if_some : {A : Type 0} (b : Bool) (x y : A) → cond b (Some x) None ≡ Some y → (b ≡ true) × (x ≡ y)
if_some true x y e = (refl, cc)
if_some false x y e = cc

pub map_some : {A B : Type 0} (f : A → B) (o : Option A) (y : B) → option_map f o ≡ Some y → (x : A) × (o ≡ Some x) × (f x ≡ y)
map_some f None y e = cc
map_some f (Some x) y e = (x, refl, cc)

pub is_word_is : (w : List ℕ) (t : Token) → is_word w t ≡ true → t ≡ Word w
is_word_is w (Word x) e = ap (λ (y : List ℕ). Word y) (same x w e)
is_word_is w (Number n) e = cc
is_word_is w (Text n) e = cc
is_word_is w (Operator n) e = cc
is_word_is w Open e = cc
is_word_is w Close e = cc
is_word_is w OpenBracket e = cc
is_word_is w CloseBracket e = cc
is_word_is w Comma e = cc
is_word_is w Star e = cc
is_word_is w Cast e = cc
is_word_is w Unknown e = cc

pub is_equal_is : (t : Token) → is_equal t ≡ true → t ≡ Operator (codes "=")
is_equal_is (Operator x) e = ap (λ (y : List ℕ). Operator y) (same x (codes "=") e)
is_equal_is (Number n) e = cc
is_equal_is (Text n) e = cc
is_equal_is (Word n) e = cc
is_equal_is Open e = cc
is_equal_is Close e = cc
is_equal_is OpenBracket e = cc
is_equal_is CloseBracket e = cc
is_equal_is Comma e = cc
is_equal_is Star e = cc
is_equal_is Cast e = cc
is_equal_is Unknown e = cc

pub open_is : (t : Token) → is_open t ≡ true → t ≡ Open
open_is Open e = refl
open_is (Word n) e = cc
open_is (Number n) e = cc
open_is (Text n) e = cc
open_is (Operator n) e = cc
open_is Close e = cc
open_is OpenBracket e = cc
open_is CloseBracket e = cc
open_is Comma e = cc
open_is Star e = cc
open_is Cast e = cc
open_is Unknown e = cc

pub close_is : (t : Token) → is_close t ≡ true → t ≡ Close
close_is Close e = refl
close_is (Word n) e = cc
close_is (Number n) e = cc
close_is (Text n) e = cc
close_is (Operator n) e = cc
close_is Open e = cc
close_is OpenBracket e = cc
close_is CloseBracket e = cc
close_is Comma e = cc
close_is Star e = cc
close_is Cast e = cc
close_is Unknown e = cc

pub comma_is : (t : Token) → is_comma t ≡ true → t ≡ Comma
comma_is Comma e = refl
comma_is (Word n) e = cc
comma_is (Number n) e = cc
comma_is (Text n) e = cc
comma_is (Operator n) e = cc
comma_is Open e = cc
comma_is Close e = cc
comma_is OpenBracket e = cc
comma_is CloseBracket e = cc
comma_is Star e = cc
comma_is Cast e = cc
comma_is Unknown e = cc

pub word_is : (t : Token) (w : List ℕ) → word_in t ≡ Some w → t ≡ Word w
word_is (Word x) w e = let s : x ≡ w = cc in ap (λ (y : List ℕ). Word y) s
word_is (Number n) w e = cc
word_is (Text n) w e = cc
word_is (Operator n) w e = cc
word_is Open w e = cc
word_is Close w e = cc
word_is OpenBracket w e = cc
word_is CloseBracket w e = cc
word_is Comma w e = cc
word_is Star w e = cc
word_is Cast w e = cc
word_is Unknown w e = cc

pub number_is : (t : Token) (w : List ℕ) → number_in t ≡ Some w → t ≡ Number w
number_is (Number x) w e = let s : x ≡ w = cc in ap (λ (y : List ℕ). Number y) s
number_is (Word n) w e = cc
number_is (Text n) w e = cc
number_is (Operator n) w e = cc
number_is Open w e = cc
number_is Close w e = cc
number_is OpenBracket w e = cc
number_is CloseBracket w e = cc
number_is Comma w e = cc
number_is Star w e = cc
number_is Cast w e = cc
number_is Unknown w e = cc

named_at : (b : Bool) (x w : List ℕ) → cond b None (Some x) ≡ Some w → (b ≡ false) × (x ≡ w)
named_at true x w e = cc
named_at false x w e = (refl, cc)

pub name_is : (t : Token) (w : List ℕ) → name_in t ≡ Some w → (t ≡ Word w) × IsName w
name_is (Word x) w e =
    let h = named_at (is_reserved x) x w e in
    let P : List ℕ → Type 0 = λ y. IsName y in
    (ap (λ (y : List ℕ). Word y) h.1, subst P h.1 h.0)
name_is (Number n) w e = cc
name_is (Text n) w e = cc
name_is (Operator n) w e = cc
name_is Open w e = cc
name_is Close w e = cc
name_is OpenBracket w e = cc
name_is CloseBracket w e = cc
name_is Comma w e = cc
name_is Star w e = cc
name_is Cast w e = cc
name_is Unknown w e = cc

name_of_word : (b : Bool) (w : List ℕ) → b ≡ false → cond b None (Some w) ≡ Some w
name_of_word true w e = cc
name_of_word false w e = refl

pub name_again : (w : List ℕ) → IsName w → name_in (Word w) ≡ Some w
name_again w h = name_of_word (is_reserved w) w h
