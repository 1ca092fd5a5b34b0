-- Numbers without leading zeros.
use Rattle.std.proofs.Common.{◌≡◌, ◌≢◌, ℕ, ◌^◌, ◌<◌, List, [], ◌∷◌, length, get_or, decimal, Option, Result, Ok, Err, MatchOption, refl, sym, ap, ◌∙◌, subst, arith, inl, inr, ne_eqb}
use Rattle.std.specs.Char.{digit_value}
use Rattle.std.specs.Result.{result_ok}
use Rattle.std.specs.Str.Parse.{IsNumeral, AllDigits, digits_value, ParsesUnsigned, without_leading_plus}
use Rattle.std.proofs.lemmas.Fmt.{decimal_is_IsNumeral, decimal_nonempty, decimal_digit, first_decimal, decimal-digits_value}
use Rattle.std.proofs.lemmas.Str.Parse.{numerals_by_value, tells_digits}
use Rattle.std.proofs.lemmas.Bool.{cases_eq}
use Rattle.gx_inet.specs.Text.{HasPlainStart}

no_plus : (ds : List ℕ) → AllDigits 10 ds → 0 < length ds → get_or ds 0 0 ≢ 43
no_plus [] d some e = omega arith
no_plus (c ∷ cs) d some e = let low : digit_value 43 < 10 = subst (λ (x : ℕ). digit_value x < 10) e d.0 in omega arith

-- a number's text begins so
pub plain_decimal : (ds : List ℕ) (n : ℕ) → n < 256 → ds ≡ decimal n → HasPlainStart ds
plain_decimal ds n small e =
    let some : 0 < length ds = subst (λ (xs : List ℕ). 0 < length xs) (sym e) (decimal_nonempty n (omega arith)) in
    let digits : AllDigits 10 ds = subst (AllDigits 10) (sym e) (decimal_is_IsNumeral n (omega arith)).0.1 in
    record {
      some = some;
      plus = no_plus ds digits some;
      zero = λ first. elim (cases_eq n 0) [
        | inl none ↦ ap length (e ∙ ap decimal none ∙ decimal_digit 0 (omega arith))
        | inr more ↦
            let above : 48 < get_or (decimal n) 0 0 = first_decimal n (omega arith) (omega arith) in
            absurd (omega (arith, ap (λ xs. get_or xs 0 0) e))
      ];
    }

-- digits that begin so are read as their number
pub read_mask : {E : Type 0} (ds : List ℕ) (r : Result ℕ E) (o : Option ℕ) → HasPlainStart ds → ParsesUnsigned 8 10 ds r → o ≡ result_ok r → MatchOption o ((n : ℕ) → n < 256 → ds ≢ decimal n) (λ n. ds ≡ decimal n)
read_mask {E} ds (Ok n) o start parsed is =
    let same : without_leading_plus ds ≡ ds = rw (ne_eqb (get_or ds 0 0) 43 start.plus) refl in
    let P : List ℕ → Type 0 = λ t. (IsNumeral 10 t × (digits_value 10 t < 2 ^ 8)) × (n ≡ digits_value 10 t) in
    let p : P ds = subst P same parsed in
    let spelled : decimal (digits_value 10 ds) ≡ ds = decimal-digits_value (numerals_by_value _ tells_digits) ds p.0.0.1 p.0.0.0 start.zero (omega arith) in
    rw is (sym (ap decimal p.1 ∙ spelled))
read_mask {E} ds (Err e) o start parsed is =
    let same : without_leading_plus ds ≡ ds = rw (ne_eqb (get_or ds 0 0) 43 start.plus) refl in
    let P : List ℕ → Type 0 = λ t. (IsNumeral 10 t × (digits_value 10 t < 2 ^ 8)) → ⊥ in
    let none : P ds = subst P same parsed in
    rw is (λ n small spelled.
    let number = decimal_is_IsNumeral n (omega arith) in
    let Q : List ℕ → Type 0 = λ t. IsNumeral 10 t × (digits_value 10 t ≡ n) in
    let q : Q ds = subst Q (sym spelled) number in
    none (q.0, omega arith))
