-- A number at the front of a text is one, and is told apart from white space and signs.
use Rattle.std.specs.Prelude.{◌≡◌, ◌==◌, ℕ, ◌<◌, Bool, true, false, List, [], ◌∷◌, ◌++◌, length, None, ℤ, refl}
use Rattle.std.specs.Char.{is_ascii_digit, is_ascii_whitespace}
use Rattle.std.proofs.Common.{sym, ap, ap₂, ◌∙◌, subst, arith, true≢false, inl, inr, length-append}
use Rattle.std.proofs.lemmas.Bool.Decides.{nat_tests}
use Rattle.std.proofs.lemmas.Int.{ints}
use Rattle.gx_bytes.specs.Wholes.{SpellsWhole, IsOutside}
use Rattle.gx_bytes.proofs.WholeLemmas.{one_whole}
use Rattle.gx_formula.specs.Tokens.{sign_of, StartsWord, AreWords}
use Rattle.gx_intarr.specs.Runs.{Pass, Stops}
use Rattle.gx_intarr.specs.Arrays.{least, greatest, IsInt4}
use Rattle.gx_intarr.specs.Numbers.{minus_sign, TakesNumber, TakesInt4, IsFarNumber}

pub one_run : (test : ℕ → Bool) (a b x y : List ℕ) → Pass test a → Pass test b → Stops test x → Stops test y → a ++ x ≡ b ++ y → (a ≡ b) × (x ≡ y)
one_run test [] [] x y p q s t e = (refl, e)
one_run test [] (b ∷ bs) x y p q s t e = absurd (true≢false (sym q.0 ∙ subst (Stops test) e s))
one_run test (a ∷ front) [] x y p q s t e = absurd (true≢false (sym p.0 ∙ subst (Stops test) (sym e) t))
one_run test (a ∷ front) (b ∷ bs) x y p q s t e =
    let head : a ≡ b = cc in
    let tail : front ++ x ≡ bs ++ y = cc in
    let rest = one_run test front bs x y p.1 q.1 s t tail in
    (ap₂ (λ (c : ℕ) (cs : List ℕ). c ∷ cs) head rest.0, rest.1)

abbrev Digits : List ℕ → Type 0
Digits bytes = Pass is_ascii_digit bytes

-- a minus is no digit
pub no_minus : (digits x rest : List ℕ) → Digits digits → 0 < length digits → digits ++ x ≡ 45 ∷ rest → ⊥
no_minus [] x rest p some e = omega arith
no_minus (c ∷ digits) x rest p some e =
    let head : c ≡ 45 = cc in
    let digit : is_ascii_digit 45 ≡ true = subst (λ (k : ℕ). is_ascii_digit k ≡ true) head p.0 in
    true≢false (sym digit)

one_signed : (m n : Bool) (a b x y : List ℕ) → Digits a → Digits b → 0 < length a → 0 < length b → Stops is_ascii_digit x → Stops is_ascii_digit y → (minus_sign m ++ a) ++ x ≡ (minus_sign n ++ b) ++ y → (minus_sign m ++ a ≡ minus_sign n ++ b) × (x ≡ y)
one_signed true true a b x y p q some more s t e =
    let all : 45 ∷ (a ++ x) ≡ 45 ∷ (b ++ y) = e in
    let tail : a ++ x ≡ b ++ y = cc in
    let same = one_run is_ascii_digit a b x y p q s t tail in
    (ap (λ (d : List ℕ). 45 ∷ d) same.0, same.1)
one_signed true false a b x y p q some more s t e = absurd (no_minus b y (a ++ x) q more (sym e))
one_signed false true a b x y p q some more s t e = absurd (no_minus a x (b ++ y) p some e)
one_signed false false a b x y p q some more s t e = one_run is_ascii_digit a b x y p q s t e

one_number : (text a b x y : List ℕ) → TakesNumber text a x → TakesNumber text b y → (a ≡ b) × (x ≡ y)
one_number text a b x y s t =
    let joined : (minus_sign s.minus ++ s.digits) ++ x ≡ (minus_sign t.minus ++ t.digits) ++ y =
    ap (λ (r : List ℕ). r ++ x) (sym s.is) ∙ sym s.parts ∙ t.parts ∙ ap (λ (r : List ℕ). r ++ y) t.is in
    let same = one_signed s.minus t.minus s.digits t.digits x y s.each t.each s.some t.some s.stops t.stops joined in
    (s.is ∙ same.0 ∙ sym t.is, same.1)

number_some : (m : Bool) (digits rest : List ℕ) → 0 < length digits → length rest < length ((minus_sign m ++ digits) ++ rest)
number_some true digits rest some = omega (arith, length-append (45 ∷ digits) rest)
number_some false digits rest some = omega (arith, length-append digits rest)

-- what stands behind a number is shorter
length-behind : (text raw rest : List ℕ) → TakesNumber text raw rest → length rest < length text
length-behind text raw rest t =
    omega (arith, ap length (t.parts ∙ ap (λ (r : List ℕ). r ++ rest) t.is), number_some t.minus t.digits rest t.some)

pub apart : (n : ℤ) → IsInt4 n → IsOutside least greatest n → ⊥
apart n w (inl low) = omega (arith, ints, w.0, low)
apart n w (inr high) = omega (arith, ints, w.1, high)

near_or_far : (text : List ℕ) (n : ℤ) (rest : List ℕ) → TakesInt4 text n rest → IsFarNumber text → ⊥
near_or_far text n rest a f =
    let same = one_number text a.0 f.0 rest f.1 a.1 f.3 in
    let number : f.2 ≡ n = one_whole a.0 f.2 n (subst (λ (r : List ℕ). SpellsWhole r f.2) (sym same.0) f.4) a.2.0 in
    apart n a.2.1 (subst (IsOutside least greatest) number f.5)

one_int4 : (text : List ℕ) (m n : ℤ) (x y : List ℕ) → TakesInt4 text m x → TakesInt4 text n y → (m ≡ n) × (x ≡ y)
one_int4 text m n x y a b =
    let same = one_number text a.0 b.0 x y a.1 b.1 in
    (one_whole a.0 m n a.2.0 (subst (λ (r : List ℕ). SpellsWhole r n) (sym same.0) b.2.0), same.1)

digit_starts : (c : ℕ) → is_ascii_digit c ≡ true → (is_ascii_whitespace c ≡ false) × (sign_of c ≡ None)
digit_starts c h =
    let white : is_ascii_whitespace c ≡ false = grind (arith, nat_tests, h) in
    let a : (c == 33) ≡ false = grind (arith, nat_tests, h) in
    let b : (c == 38) ≡ false = grind (arith, nat_tests, h) in
    let d : (c == 124) ≡ false = grind (arith, nat_tests, h) in
    let e : (c == 40) ≡ false = grind (arith, nat_tests, h) in
    let f : (c == 41) ≡ false = grind (arith, nat_tests, h) in
    (white, rw (a, b, d, e, f) refl)

bytes_start : (minus : Bool) (digits rest : List ℕ) → 0 < length digits → Digits digits → StartsWord ((minus_sign minus ++ digits) ++ rest)
bytes_start true digits rest some each = (refl, refl)
bytes_start false [] rest some each = absurd (omega (arith, some))
bytes_start false (c ∷ digits) rest some each = digit_starts c each.0

number_starts : (text raw rest : List ℕ) → TakesNumber text raw rest → StartsWord text
number_starts text raw rest t = subst StartsWord (sym (t.parts ∙ ap (λ (r : List ℕ). r ++ rest) t.is)) (bytes_start t.minus t.digits rest t.some t.each)

pub words_are : AreWords TakesInt4 IsFarNumber
words_are = record {
  one = one_int4;
  near = near_or_far;
  starts = λ text n rest a. number_starts text a.0 rest a.1;
  far_starts = λ text f. number_starts text f.0 f.1 f.3;
  shorter = λ text n rest a. length-behind text a.0 rest a.1;
}
