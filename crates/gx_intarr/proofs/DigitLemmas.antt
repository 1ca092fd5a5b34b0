-- What is taken for a number.
use Rattle.std.proofs.Common.{◌≡◌, ◌≢◌, ℕ, suc, ◌+◌, ◌<◌, ◌≤◌, Bool, true, false, List, [], ◌∷◌, ◌++◌, length, take, drop, refl, sym, ap, ap₂, ◌∙◌, subst, arith, true≢false, take-append-drop, length-take-le, ℤ, nat_eq, ne_eqb, Err}
use Rattle.std.specs.Char.{is_ascii_digit}
use Rattle.std.specs.Int.{IsInRange}
use Rattle.std.specs.List.{AllByRecursion}
use Rattle.std.specs.Str.Parse.{IsNumeral, starts_with_minus, without_leading_plus, without_leading_sign, signed_digits_value}
use Rattle.std.proofs.lemmas.Str.Parse.{digit_from_value, numerals_by_value, tells_by_index}
use Rattle.std.proofs.lemmas.Bool.Decides.{nat_tests}
use Rattle.std.proofs.lemmas.List.Elements.{All-from_recursion}
use Rattle.gx_bytes.specs.Wholes.{SpellsWhole, IsOutside, AnswersWhole}
use Rattle.gx_bytes.specs.declared.error.ValueError.{ValueError}
use Rattle.gx_bytes.specs.declared.error.ValueError.TheVariants.{NoValue, OutOfRange, TooDeep, Memory}
use Rattle.gx_bytes.proofs.WholeLemmas.{numeral_bare, signed_bare, spelled_bare}
use Rattle.gx_intarr.specs.Runs.{Pass, Stops}
use Rattle.gx_intarr.specs.Arrays.{least, greatest}
use Rattle.gx_intarr.specs.Numbers.{minus_sign, TakesNumber}
use Rattle.gx_intarr.specs.Laws.{no_minus}

abbrev Digits : List ℕ → Type 0
Digits bytes = Pass is_ascii_digit bytes

-- the digits behind a minus
pub takes_signed : (text behind raw rest : List ℕ) (n : ℕ) → text ≡ 45 ∷ behind → n ≤ length behind → Digits (take n behind) → Stops is_ascii_digit (drop n behind) → 0 < n → raw ≡ take (1 + n) text → rest ≡ drop (1 + n) text → TakesNumber text raw rest
takes_signed text behind raw rest n e within run stops some f g =
    let step : 1 + n ≡ suc n = omega arith in
    let long : length (take n behind) ≡ n = length-take-le n behind within in
    let behind_is : rest ≡ drop n behind = g ∙ ap₂ (λ (k : ℕ) (t : List ℕ). drop k t) step e in
    record {
      minus = true;
      digits = take n behind;
      parts = sym (take-append-drop (1 + n) text) ∙ ap₂ (λ (x y : List ℕ). x ++ y) (sym f) (sym g);
      is = f ∙ ap₂ (λ (k : ℕ) (t : List ℕ). take k t) step e;
      some = omega arith;
      each = run;
      stops = subst (Stops is_ascii_digit) (sym behind_is) stops;
    }

pub takes_plain : (text raw rest : List ℕ) (n : ℕ) → n ≤ length text → Digits (take n text) → Stops is_ascii_digit (drop n text) → 0 < n → raw ≡ take n text → rest ≡ drop n text → TakesNumber text raw rest
takes_plain text raw rest n within run stops some f g =
    let long : length (take n text) ≡ n = length-take-le n text within in
    record {
      minus = false;
      digits = take n text;
      parts = sym (take-append-drop n text) ∙ ap₂ (λ (x y : List ℕ). x ++ y) (sym f) (sym g);
      is = f;
      some = omega arith;
      each = run;
      stops = subst (Stops is_ascii_digit) (sym g) stops;
    }

no_digit : (digits x text : List ℕ) → Digits digits → 0 < length digits → Stops is_ascii_digit text → text ≡ digits ++ x → ⊥
no_digit [] x text p some s e = omega arith
no_digit (c ∷ digits) x text p some s e = true≢false (sym p.0 ∙ subst (Stops is_ascii_digit) e s)

drop_none : (n : ℕ) (text : List ℕ) → n ≡ 0 → drop n text ≡ text
drop_none n text e = ap (λ (k : ℕ). drop k text) e

-- no digit behind a minus
pub none_signed : (text behind : List ℕ) (n : ℕ) → text ≡ 45 ∷ behind → Stops is_ascii_digit (drop n behind) → n ≡ 0 → (raw rest : List ℕ) → TakesNumber text raw rest → ⊥
none_signed text behind n e stops none raw rest t = go t.minus (ap (λ (r : List ℕ). r ++ rest) (sym t.is) ∙ sym t.parts ∙ e)
  where
    go : (m : Bool) → (minus_sign m ++ t.digits) ++ rest ≡ 45 ∷ behind → ⊥
    go true f =
        let all : 45 ∷ (t.digits ++ rest) ≡ 45 ∷ behind = f in
        let tail : behind ≡ t.digits ++ rest = cc in
        no_digit t.digits rest behind t.each t.some (subst (Stops is_ascii_digit) (drop_none n behind none) stops) tail
    go false f = no_minus t.digits rest behind t.each t.some f

pub none_plain : (text : List ℕ) (n : ℕ) → ((behind : List ℕ) → text ≢ 45 ∷ behind) → Stops is_ascii_digit (drop n text) → n ≡ 0 → (raw rest : List ℕ) → TakesNumber text raw rest → ⊥
none_plain text n unsigned stops none raw rest t = go t.minus (t.parts ∙ ap (λ (r : List ℕ). r ++ rest) t.is)
  where
    go : (m : Bool) → text ≡ (minus_sign m ++ t.digits) ++ rest → ⊥
    go true f = unsigned (t.digits ++ rest) f
    go false f = no_digit t.digits rest text t.each t.some (subst (Stops is_ascii_digit) (drop_none n text none) stops) f

digit_range : (c : ℕ) → is_ascii_digit c ≡ true → IsInRange 48 57 c
digit_range c e = grind (arith, nat_tests)

range_by : (digits : List ℕ) → Digits digits → AllByRecursion (λ c. IsInRange 48 57 c) digits
range_by [] p = tt
range_by (c ∷ digits) p = (digit_range c p.0, range_by digits p.1)

numeral_of : (digits : List ℕ) → 0 < length digits → Digits digits → IsNumeral 10 digits
numeral_of digits some p =
    let model = numerals_by_value _ tells_by_index in
    (some, model.to digits (λ k inside. All-from_recursion (λ c. IsInRange 48 57 c) digits (range_by digits p) k 0 inside))

no_sign : (digits : List ℕ) → IsNumeral 10 digits → (starts_with_minus digits ≡ false) × (without_leading_plus digits ≡ digits)
no_sign [] h = absurd (omega (arith, h.0))
no_sign (c ∷ digits) h =
    let range : IsInRange 48 57 c = digit_from_value c h.1.0 in
    let minus : nat_eq c 45 ≡ false = ne_eqb c 45 (omega arith) in
    let plus : nat_eq c 43 ≡ false = ne_eqb c 43 (omega arith) in
    (minus, rw plus refl)

plain_numeral : (digits : List ℕ) → starts_with_minus digits ≡ false → without_leading_plus digits ≡ digits → IsNumeral 10 digits → IsNumeral 10 (without_leading_sign digits)
plain_numeral digits minus plus h = rw minus (let P : List ℕ → Type 0 = λ t. IsNumeral 10 t in subst P (sym plus) h)

spelled : (m : Bool) (digits : List ℕ) → IsNumeral 10 digits → (n : ℤ) × SpellsWhole (minus_sign m ++ digits) n
spelled true digits h = (signed_digits_value 10 (45 ∷ digits), spelled_bare (45 ∷ digits) (signed_digits_value 10 (45 ∷ digits)) (signed_bare digits h) h refl)
spelled false digits h =
    let plain = no_sign digits h in
    (signed_digits_value 10 digits, spelled_bare digits (signed_digits_value 10 digits) (numeral_bare digits h) (plain_numeral digits plain.0 plain.1 h) refl)

-- a number that was taken and refused lies outside
pub is_far : (raw : List ℕ) (fault : ValueError) (low high : ℤ) → low ≡ least → high ≡ greatest → ((text : List ℕ) × (rest : List ℕ) × TakesNumber text raw rest) → AnswersWhole raw low high (Err fault) → (n : ℤ) × SpellsWhole raw n × IsOutside least greatest n
is_far raw NoValue low high e f t a =
    let s = spelled t.2.minus t.2.digits (numeral_of t.2.digits t.2.some t.2.each) in
    let P : List ℕ → Type 0 = λ x. SpellsWhole x s.0 in
    absurd (a s.0 (subst P (sym t.2.is) s.1))
is_far raw OutOfRange low high e f t a = (a.0, a.1, subst (λ (h : ℤ). IsOutside least h a.0) f (subst (λ (l : ℤ). IsOutside l high a.0) e a.2))
is_far raw TooDeep low high e f t a = absurd a
is_far raw Memory low high e f t a = absurd a
