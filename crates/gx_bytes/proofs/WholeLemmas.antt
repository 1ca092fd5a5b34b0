-- What texts of whole numbers look like, and what printed numbers spell.
use Rattle.std.proofs.Common.{◌≡◌, ℕ, suc, ◌-◌, ◌^◌, ◌<◌, ◌≤◌, Bool, true, false, cond, List, [], ◌∷◌, ◌++◌, ◌⊎◌, inl, inr, All, length, get_or, drop, refl, sym, ◌∙◌, ap, subst, arith, ℤ, pos, negsuc, neg_ℤ, decimal, nat_eq, ne_eqb, eqb-true}
use Rattle.std.specs.Char.{is_ascii_whitespace}
use Rattle.std.specs.Int.{IsInRange}
use Rattle.std.specs.Fmt.{signed_decimal}
use Rattle.std.specs.Str.Parse.{AllDigits, IsNumeral, digits_value, starts_with_minus, without_leading_plus, without_leading_sign, signed_digits_value}
use Rattle.std.proofs.lemmas.Str.Parse.{digit_at, digit_from_value}
use Rattle.std.proofs.lemmas.Fmt.{decimal_is_IsNumeral}
use Rattle.std.proofs.lemmas.Int.{ints}
use Rattle.std.proofs.lemmas.List.Elements.{All-nil, All-cons, All-append, All-weaker, All-from_get_or}
use Rattle.std.proofs.lemmas.Bool.Decides.{nat_tests}
use Rattle.gx_bytes.specs.Blanks.{core_of, IsBare}
use Rattle.gx_bytes.specs.Wholes.{SpellsWhole, IsWithin}
use Rattle.gx_bytes.proofs.BlankLemmas.{core_bare, core_trims}

-- a byte that texts of numbers and days may have: white space, a sign, a digit
abbrev pub IsNumberByte : ℕ → Type 0
IsNumberByte c = (is_ascii_whitespace c ≡ true) ⊎ ((c ≡ 43) ⊎ ((c ≡ 45) ⊎ IsInRange 48 57 c))

-- and so no comma, no quote, no bracket
pub number_byte : (c : ℕ) → IsNumberByte c → (c ≤ 32) ⊎ ((c ≡ 43) ⊎ ((c ≡ 45) ⊎ IsInRange 48 57 c))
number_byte c (inl white) = inl (grind (arith, nat_tests))
number_byte c (inr other) = inr other

digits_bare : (ds : List ℕ) (i : ℕ) → AllDigits 10 ds → i < length ds → is_ascii_whitespace (get_or ds i 0) ≡ false
digits_bare ds i all inside = let range = digit_at ds i all inside in grind (arith, nat_tests)

-- digits neither begin nor end with white space
pub numeral_bare : (ds : List ℕ) → IsNumeral 10 ds → IsBare ds
numeral_bare ds h = record {
  first = digits_bare ds 0 h.1 h.0;
  last = digits_bare ds (length ds - 1) h.1 (omega (arith, h.0));
}

-- nor do they with a minus before them
pub signed_bare : (ds : List ℕ) → IsNumeral 10 ds → IsBare (45 ∷ ds)
signed_bare [] h = record { first = refl; last = refl }
signed_bare (c ∷ cs) h =
    let at_end : length (45 ∷ c ∷ cs) - 1 ≡ suc (length cs) = omega arith in
    record {
      first = refl;
      last = ap (λ k. is_ascii_whitespace (get_or (45 ∷ c ∷ cs) k 0)) at_end ∙ digits_bare (c ∷ cs) (length cs) h.1 (omega arith);
    }

digits_no_sign : (ds : List ℕ) → IsNumeral 10 ds → (starts_with_minus ds ≡ false) × (without_leading_plus ds ≡ ds)
digits_no_sign [] h = absurd (omega (arith, h.0))
digits_no_sign (c ∷ cs) h =
    let range : IsInRange 48 57 c = digit_from_value c h.1.0 in
    let minus : nat_eq c 45 ≡ false = ne_eqb c 45 (omega arith) in
    let plus : nat_eq c 43 ≡ false = ne_eqb c 43 (omega arith) in
    (minus, rw plus refl)

value_plain : (ds : List ℕ) → starts_with_minus ds ≡ false → without_leading_plus ds ≡ ds → signed_digits_value 10 ds ≡ pos (digits_value 10 ds)
value_plain ds minus plus = rw minus (ap (λ (t : List ℕ). pos (digits_value 10 t)) plus)

numeral_plain : (ds : List ℕ) → starts_with_minus ds ≡ false → without_leading_plus ds ≡ ds → IsNumeral 10 ds → IsNumeral 10 (without_leading_sign ds)
numeral_plain ds minus plus h = rw minus (let P : List ℕ → Type 0 = λ t. IsNumeral 10 t in subst P (sym plus) h)

-- a bare text spells what its sign and digits write
pub spelled_bare : (text : List ℕ) (n : ℤ) → IsBare text → IsNumeral 10 (without_leading_sign text) → n ≡ signed_digits_value 10 text → SpellsWhole text n
spelled_bare text n bare numeral value =
    let P : List ℕ → Type 0 = λ t. IsNumeral 10 (without_leading_sign t) in
    record {
      numeral = subst P (sym (core_bare text bare)) numeral;
      value = value ∙ ap (signed_digits_value 10) (sym (core_bare text bare));
    }

-- a number of 64 bits is spelled by its decimal text
pub whole_printed : (n : ℤ) → IsWithin (neg_ℤ (pos (2 ^ 63))) (pos (2 ^ 63 - 1)) n → SpellsWhole (signed_decimal n) n
whole_printed (pos n) h =
    let p = decimal_is_IsNumeral n (omega (arith, ints, h.1)) in
    let plain = digits_no_sign (decimal n) p.0 in
    spelled_bare (decimal n) (pos n) (numeral_bare (decimal n) p.0)
    (numeral_plain (decimal n) plain.0 plain.1 p.0)
    (ap pos (sym p.1) ∙ sym (value_plain (decimal n) plain.0 plain.1))
whole_printed (negsuc n) h =
    let p = decimal_is_IsNumeral (suc n) (omega (arith, ints, h.0)) in
    spelled_bare (45 ∷ decimal (suc n)) (negsuc n) (signed_bare (decimal (suc n)) p.0) p.0 (ap (λ k. neg_ℤ (pos k)) (sym p.1))

pub digits_bytes : (ds : List ℕ) → AllDigits 10 ds → All IsNumberByte ds
digits_bytes ds all = All-from_get_or IsNumberByte ds 0 (λ i inside. inr (inr (inr (digit_at ds i all inside))))

signed_bytes : (c : ℕ) (cs : List ℕ) (m p : Bool) → nat_eq c 45 ≡ m → nat_eq c 43 ≡ p → IsNumeral 10 (cond m cs (drop (cond p 1 0) (c ∷ cs))) → All IsNumberByte (c ∷ cs)
signed_bytes c cs true p minus plus h = All-cons IsNumberByte c cs (inr (inr (inl (eqb-true c 45 minus)))) (digits_bytes cs h.1)
signed_bytes c cs false true minus plus h = All-cons IsNumberByte c cs (inr (inl (eqb-true c 43 plus))) (digits_bytes cs h.1)
signed_bytes c cs false false minus plus h = digits_bytes (c ∷ cs) h.1

core_bytes : (core : List ℕ) → IsNumeral 10 (without_leading_sign core) → All IsNumberByte core
core_bytes [] h = All-nil IsNumberByte
core_bytes (c ∷ cs) h = signed_bytes c cs (nat_eq c 45) (nat_eq c 43) refl refl h

-- a text whose core has only such bytes has only such bytes
pub bytes_around : (text : List ℕ) → All IsNumberByte (core_of text) → All IsNumberByte text
bytes_around text h =
    let t = core_trims text in
    let blank = λ (c : ℕ) (white : is_ascii_whitespace c ≡ true). let one : IsNumberByte c = inl white in one in
    let P : List ℕ → Type 0 = λ s. All IsNumberByte s in
    subst P (sym t.parts)
    (All-append IsNumberByte t.before (core_of text ++ t.after) (All-weaker (λ c. is_ascii_whitespace c ≡ true) IsNumberByte blank t.before t.blank_before)
    (All-append IsNumberByte (core_of text) t.after h (All-weaker (λ c. is_ascii_whitespace c ≡ true) IsNumberByte blank t.after t.blank_after)))

pub whole_bytes : (text : List ℕ) (n : ℤ) → SpellsWhole text n → All IsNumberByte text
whole_bytes text n s = bytes_around text (core_bytes (core_of text) s.numeral)

-- a text spells one number
pub one_whole : (text : List ℕ) (m n : ℤ) → SpellsWhole text m → SpellsWhole text n → m ≡ n
one_whole text m n a b = a.value ∙ sym b.value
