-- The longest operator that begins with a byte.
use Rattle.std.proofs.Common.{◌≡◌, ◌⊎◌, inl, inr, ℕ, ◌<◌, ◌≤◌, suc, Bool, true, false, not, ◌&&◌, ◌||◌, List, [], ◌∷◌, ◌++◌, length, take, slice_index, ◌==◌, nat_le, Option, Some, None, refl, sym, ◌∙◌, subst, length-append, arith}
use Rattle.std.specs.List.{list_any}
use Rattle.std.specs.Str.{bytes_eq}
use Rattle.std.proofs.Math.Seq.{take-append_seam}
use Rattle.std.proofs.lemmas.Bool.Decides.{nat_tests}
use Rattle.std.proofs.lemmas.Slice.Eq.{bytes_eq-Decides}
use Rattle.gx_lexer.specs.declared.token.Token.{Token}
use Rattle.gx_lexer.specs.Letters.{is_white, is_digit, is_sign, is_letter}
use Rattle.gx_lexer.specs.Parts.{BeginsNot}
use Rattle.gx_lexer.specs.Tokens.{comparisons, relations, is_comparison, is_relation, is_operator, stands, sign_of}
use Rattle.gx_lexer.specs.Lexemes.{StandsBefore}

-- What is true of each operator.

abbrev all : (List ℕ → Bool) → List (List ℕ) → Bool
all p [] = true
all p (o ∷ os) = p o && all p os

pub and_parts : (p q : Bool) → (p && q) ≡ true → (p ≡ true) × (q ≡ true)
and_parts true q e = (refl, e)
and_parts false q e = cc

or_parts : (p q : Bool) → (p || q) ≡ true → (p ≡ true) ⊎ (q ≡ true)
or_parts true q e = inl refl
or_parts false q e = inr e

among : (p : List ℕ → Bool) (os : List (List ℕ)) (text : List ℕ) → all p os ≡ true → list_any (λ o. bytes_eq text o) os ≡ true → p text ≡ true
among p [] text a e = cc
among p (o ∷ os) text a e =
    let k = and_parts (p o) (all p os) a in
    here k.0 (λ f. among p os text k.1 f) (or_parts (bytes_eq text o) (list_any (λ x. bytes_eq text x) os) e)
  where
    here : p o ≡ true → (list_any (λ x. bytes_eq text x) os ≡ true → p text ≡ true) → (bytes_eq text o ≡ true) ⊎ (list_any (λ x. bytes_eq text x) os ≡ true) → p text ≡ true
    here g h (inl f) = let s : text ≡ o = (bytes_eq-Decides text o).0 f in rw s g
    here g h (inr f) = h f

pub each_is : (p : List ℕ → Bool) (text : List ℕ) → all p comparisons ≡ true → all p relations ≡ true → is_operator text ≡ true → p text ≡ true
each_is p text a b e = either (or_parts (is_comparison text) (is_relation text) e)
  where
    either : (is_comparison text ≡ true) ⊎ (is_relation text ≡ true) → p text ≡ true
    either (inl f) = among p comparisons text a f
    either (inr f) = among p relations text b f

pub not_true : (b : Bool) → not b ≡ true → b ≡ false
not_true true e = cc
not_true false e = refl

-- the first byte of an operator begins nothing else
pub record BeginsOperator (b : ℕ) (o : List ℕ) : Type 0 where
  pub white : is_white b ≡ false
  pub letter : is_letter b ≡ false
  pub digit : is_digit b ≡ false
  pub quote : (b == 39) ≡ false
  pub colon : (b == 58) ≡ false
  pub sign : sign_of b ≡ None
  pub dashes : (after : List ℕ) → (b == 45 && slice_index (o ++ after) 0 == 45) ≡ false
  pub signed : (after : List ℕ) → (is_sign b && is_digit (slice_index (o ++ after) 0)) ≡ false
  pub short : length o < 3

abbrev is_none : Option Token → Bool
is_none None = true
is_none (Some t) = false

none_is : (o : Option Token) → is_none o ≡ true → o ≡ None
none_is None e = refl
none_is (Some t) e = cc

-- a `-` has a `|` behind it, and no operator begins with `+`
abbrev dash_bar : List ℕ → Bool
dash_bar [] = true
dash_bar (b ∷ []) = not (is_sign b)
dash_bar (b ∷ c ∷ o) = not (is_sign b) || c == 124

at_dash : (b : ℕ) (o after : List ℕ) → dash_bar (b ∷ o) ≡ true → (is_sign b ≡ true) → slice_index (o ++ after) 0 ≡ 124
at_dash b [] after d s = let e = not_true (is_sign b) d in let f : true ≡ false = sym s ∙ e in cc
at_dash b (c ∷ o) after d s = other (or_parts (not (is_sign b)) (c == 124) d)
  where
    other : (not (is_sign b) ≡ true) ⊎ ((c == 124) ≡ true) → c ≡ 124
    other (inl e) = let g = not_true (is_sign b) e in let f : true ≡ false = sym s ∙ g in cc
    other (inr e) = grind (arith, nat_tests)

no_dashes : (b n : ℕ) → (is_sign b ≡ true → n ≡ 124) → (b == 45 && n == 45) ≡ false
no_dashes b n f = by_dash (b == 45) refl
  where
    by_dash : (t : Bool) → (b == 45) ≡ t → (t && n == 45) ≡ false
    by_dash true e =
        let k : b ≡ 45 = grind (arith, nat_tests) in
        let g : n ≡ 124 = f (rw k refl) in
        rw g refl
    by_dash false e = refl

no_signed : (b n : ℕ) → (is_sign b ≡ true → n ≡ 124) → (is_sign b && is_digit n) ≡ false
no_signed b n f = by_sign (is_sign b) refl
  where
    by_sign : (t : Bool) → is_sign b ≡ t → (t && is_digit n) ≡ false
    by_sign true e = let g : n ≡ 124 = f e in rw g refl
    by_sign false e = refl

pub begins_operator : (b : ℕ) (o : List ℕ) → is_operator (b ∷ o) ≡ true → BeginsOperator b o
begins_operator b o e =
    let l : nat_le (length (b ∷ o)) 3 ≡ true = each_is (λ text. nat_le (length text) 3) (b ∷ o) refl refl e in
    let d : dash_bar (b ∷ o) ≡ true = each_is dash_bar (b ∷ o) refl refl e in
    record {
      white = not_true (is_white b) (each_is (λ text. not (is_white (slice_index text 0))) (b ∷ o) refl refl e);
      letter = not_true (is_letter b) (each_is (λ text. not (is_letter (slice_index text 0))) (b ∷ o) refl refl e);
      digit = not_true (is_digit b) (each_is (λ text. not (is_digit (slice_index text 0))) (b ∷ o) refl refl e);
      quote = not_true (b == 39) (each_is (λ text. not (slice_index text 0 == 39)) (b ∷ o) refl refl e);
      colon = not_true (b == 58) (each_is (λ text. not (slice_index text 0 == 58)) (b ∷ o) refl refl e);
      sign = none_is (sign_of b) (each_is (λ text. is_none (sign_of (slice_index text 0))) (b ∷ o) refl refl e);
      dashes = λ after. no_dashes b (slice_index (o ++ after) 0) (at_dash b o after d);
      signed = λ after. no_signed b (slice_index (o ++ after) 0) (at_dash b o after d);
      short = let k : suc (length o) ≤ 3 = grind (arith, nat_tests) in omega arith;
    }

-- The test of a place and the relation.

begins_test : (after : List ℕ) → BeginsNot 45 after → (slice_index after 0 == 45) ≡ false
begins_test [] h = refl
begins_test (b ∷ bs) h = grind (arith, nat_tests)

begins_from : (after : List ℕ) → (slice_index after 0 == 45) ≡ false → BeginsNot 45 after
begins_from [] e = tt
begins_from (b ∷ bs) e = λ k. let f : (b == 45) ≡ true = rw k refl in let g : true ≡ false = sym f ∙ e in cc

index_seam : (o after : List ℕ) → slice_index (o ++ after) (length o) ≡ slice_index after 0
index_seam [] after = refl
index_seam (b ∷ o) after = index_seam o after

index_last : (b : ℕ) (o after : List ℕ) → slice_index (b ∷ (o ++ after)) (length o) ≡ slice_index (b ∷ o) (length o)
index_last b [] after = refl
index_last b (c ∷ o) after = index_last c o after

no_run : (last next : ℕ) → (last ≡ 45 → (next == 45) ≡ false) → not (last == 45 && next == 45) ≡ true
no_run last next f = by_last (last == 45) refl
  where
    by_last : (t : Bool) → (last == 45) ≡ t → not (t && next == 45) ≡ true
    by_last true e = let k : last ≡ 45 = grind (arith, nat_tests) in rw (f k) refl
    by_last false e = refl

run_from : (last next : ℕ) → not (last == 45 && next == 45) ≡ true → last ≡ 45 → (next == 45) ≡ false
run_from last next e k = let g : not (next == 45) ≡ true = (rw k at e) in not_true (next == 45) g

pub stands_from : (b : ℕ) (o after : List ℕ) → StandsBefore b o after → stands (length o) b (o ++ after) ≡ true
stands_from b o after s =
    let n : ℕ = length o in
    let w : nat_le n (length (o ++ after)) ≡ true = (let l : n ≤ length (o ++ after) = omega (arith, length-append o after) in grind (arith, nat_tests)) in
    let t : take n (o ++ after) ≡ o = take-append_seam o after in
    let r : not (slice_index (b ∷ o) n == 45 && slice_index after 0 == 45) ≡ true = no_run (slice_index (b ∷ o) n) (slice_index after 0) (λ k. begins_test after (s.1 k)) in
    rw (w, t, s.0, index_last b o after, index_seam o after, r) refl

pub stands_to : (b : ℕ) (o after : List ℕ) → stands (length o) b (o ++ after) ≡ true → StandsBefore b o after
stands_to b o after e =
    let n : ℕ = length o in
    let k = and_parts (nat_le n (length (o ++ after))) _ e in
    let m = and_parts (is_operator (b ∷ take n (o ++ after))) _ k.1 in
    let P : List ℕ → Type 0 = λ xs. is_operator (b ∷ xs) ≡ true in
    let r : not (slice_index (b ∷ o) n == 45 && slice_index after 0 == 45) ≡ true = rw (← index_last b o after, ← index_seam o after) m.1 in
    (subst P (take-append_seam o after) m.0, λ l. begins_from after (run_from (slice_index (b ∷ o) n) (slice_index after 0) r l))
