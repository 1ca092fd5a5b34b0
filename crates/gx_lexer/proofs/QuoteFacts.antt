-- A text, from a place on.
use Rattle.std.proofs.Common.{◌≡◌, ℕ, ◌+◌, ◌<◌, suc, Bool, true, false, not, ◌&&◌, cond, List, [], ◌∷◌, ◌++◌, length, take, drop, get_or, ◌==◌, Option, Some, None, refl, sym, ◌∙◌, ap, subst, append_assoc, arith}
use Rattle.std.specs.List.{prefix_len}
use Rattle.gx_lexer.specs.declared.token.Token.TheVariants.{Text}
use Rattle.std.specs.Option.{option_map}
use Rattle.std.proofs.Math.Seq.{drop-cons}
use Rattle.std.proofs.lemmas.Bool.Decides.{nat_tests}
use Rattle.gx_lexer.specs.Tokens.{text_from, text_found, text_of, and_byte, and_quote}

-- what is found behind a place, with the text and the bytes before it
abbrev pub with_front : List ℕ → ℕ → Option (List ℕ × ℕ) → Option (List ℕ × ℕ)
with_front front n found = option_map (λ x. (front ++ x.0, n + x.1)) found

pub begins : (o : Option (List ℕ × ℕ)) → with_front [] 0 o ≡ o
begins None = refl
begins (Some x) = let e : 0 + x.1 ≡ x.1 = omega arith in rw e refl

over_quote : (front : List ℕ) (n : ℕ) (o : Option (List ℕ × ℕ)) → with_front front n (and_quote o) ≡ with_front front (n + 1) o
over_quote front n None = refl
over_quote front n (Some x) = let e : n + (x.1 + 1) ≡ n + 1 + x.1 = omega arith in rw e refl

over_byte : (front : List ℕ) (n b : ℕ) (o : Option (List ℕ × ℕ)) → with_front front n (and_byte b o) ≡ with_front (front ++ b ∷ []) (n + 1) o
over_byte front n b None = refl
over_byte front n b (Some x) =
    let e : n + (x.1 + 1) ≡ n + 1 + x.1 = omega arith in
    let f : front ++ b ∷ x.0 ≡ (front ++ b ∷ []) ++ x.0 = sym (append_assoc front (b ∷ []) x.0) in
    rw (e, f) refl

-- a byte that a text takes
step : (closing quote : Bool) (front : List ℕ) (n b : ℕ) (bs : List ℕ) → (b == 39) ≡ quote → (closing ≡ true → quote ≡ true)
    → with_front front n (text_from closing (b ∷ bs)) ≡ with_front (cond (not closing && quote) front (front ++ b ∷ [])) (n + 1) (text_from (not closing && quote) bs)
step true true front n b bs e f =
    let k : b ≡ 39 = grind (arith, nat_tests) in
    rw (k, over_byte front n 39 (text_from false bs)) refl
step true false front n b bs e f = let g : false ≡ true = f refl in cc
step false true front n b bs e f = rw (e, over_quote front n (text_from true bs)) refl
step false false front n b bs e f = rw (e, over_byte front n b (text_from false bs)) refl

at_place : (bytes : List ℕ) (at b : ℕ) → at < length bytes → b ≡ get_or bytes at 0 → drop at bytes ≡ b ∷ drop (at + 1) bytes
at_place bytes at b l e =
    let s : suc at ≡ at + 1 = omega arith in
    drop-cons bytes at 0 l ∙ (rw (← e, s) refl)

pub goes_on : (after front longer : List ℕ) (closing next : Bool) (n b : ℕ) (all : Option (List ℕ × ℕ)) → n < length after → b ≡ get_or after n 0
    → (closing ≡ true → (b == 39) ≡ true) → next ≡ (not closing && b == 39) → longer ≡ cond (not closing && b == 39) front (front ++ b ∷ [])
    → with_front front n (text_from closing (drop n after)) ≡ all → with_front longer (n + 1) (text_from next (drop (n + 1) after)) ≡ all
goes_on after front longer closing next n b all l e f o t h =
    rw (o, t) (sym (step closing (b == 39) front n b (drop (n + 1) after) refl f) ∙ ap (λ (bs : List ℕ). with_front front n (text_from closing bs)) (sym (at_place after n b l e)) ∙ h)

-- A text without two quotes.

other_first : (bs : List ℕ) → (get_or bs 0 0 == 39) ≡ false → text_from true bs ≡ Some ([], 0)
other_first [] e = refl
other_first (b ∷ bs) e = ap (λ (t : Bool). cond t (and_byte 39 (text_from false bs)) (Some ([], 0))) e

plain_if : (b : ℕ) (bs : List ℕ) (t : Bool) → (b == 39) ≡ t
    → (prefix_len (λ x. not (x == 39)) bs < length bs → (get_or (drop (prefix_len (λ x. not (x == 39)) bs + 1) bs) 0 0 == 39) ≡ false
    → text_from false bs ≡ Some (take (prefix_len (λ x. not (x == 39)) bs) bs, prefix_len (λ x. not (x == 39)) bs + 1))
    → cond (not t) (1 + prefix_len (λ x. not (x == 39)) bs) 0 < suc (length bs)
    → (get_or (drop (cond (not t) (1 + prefix_len (λ x. not (x == 39)) bs) 0 + 1) (b ∷ bs)) 0 0 == 39) ≡ false
    → cond t (and_quote (text_from true bs)) (and_byte b (text_from false bs)) ≡ Some (take (cond (not t) (1 + prefix_len (λ x. not (x == 39)) bs) 0) (b ∷ bs), cond (not t) (1 + prefix_len (λ x. not (x == 39)) bs) 0 + 1)
plain_if b bs true f h l e = ap and_quote (other_first bs e)
plain_if b bs false f h l e =
    let n : ℕ = prefix_len (λ x. not (x == 39)) bs in
    let k : 1 + n ≡ suc n = omega arith in
    let j : 1 + n + 1 ≡ suc (n + 1) = omega arith in
    let P : ℕ → Type 0 = λ m. (get_or (drop m (b ∷ bs)) 0 0 == 39) ≡ false in
    let i : text_from false bs ≡ Some (take n bs, n + 1) = h (omega arith) (subst P j e) in
    ap (and_byte b) i ∙ (rw (j, k) (let q : n + 1 + 1 ≡ suc (n + 1) = omega arith in rw q refl))

pub plain_text : (bs : List ℕ) → prefix_len (λ x. not (x == 39)) bs < length bs → (get_or (drop (prefix_len (λ x. not (x == 39)) bs + 1) bs) 0 0 == 39) ≡ false
    → text_from false bs ≡ Some (take (prefix_len (λ x. not (x == 39)) bs) bs, prefix_len (λ x. not (x == 39)) bs + 1)
plain_text [] l e = absurd (omega arith)
plain_text (b ∷ bs) l e = plain_if b bs (b == 39) refl (plain_text bs) l e

pub found_plain : (bs : List ℕ) (n : ℕ) → n ≡ prefix_len (λ x. not (x == 39)) bs → n < length bs → (get_or (drop (n + 1) bs) 0 0 == 39) ≡ false → text_of bs ≡ (Some (Text (take n bs)), n + 1)
found_plain bs n is l e =
    let P : ℕ → Type 0 = λ m. m < length bs → (get_or (drop (m + 1) bs) 0 0 == 39) ≡ false → text_from false bs ≡ Some (take m bs, m + 1) in
    ap (text_found bs) (subst P (sym is) (plain_text bs) l e)
