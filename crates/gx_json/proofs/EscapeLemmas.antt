-- A byte of a text as it is written.
use Rattle.std.proofs.Common.{◌≡◌, ℕ, ◌/◌, ◌%◌, ◌<◌, ◌≤◌, [], ◌∷◌, nat_lt, true, false, refl, sym, ap, subst, arith}
use Rattle.std.proofs.lemmas.Bool.Decides.{nat_tests}
use Rattle.std.specs.Char.{digit_char}
use Rattle.json.specs.Print.{escape_letter, escape_byte}

tells_less : (a b : ℕ) → a < b → nat_lt a b ≡ true
tells_less a b h = grind (arith, nat_tests)

tells_more : (a b : ℕ) → b ≤ a → nat_lt a b ≡ false
tells_more a b h = grind (arith, nat_tests)

pub letter_written : (x letter : ℕ) → letter ≡ escape_letter x → 0 < letter → escape_byte x ≡ 92 ∷ letter ∷ []
unfolding escape_byte
letter_written x letter e some =
    let some' : nat_lt 0 (escape_letter x) ≡ true = tells_less 0 (escape_letter x) (subst (λ (n : ℕ). 0 < n) e some) in
    rw some' (ap (λ (n : ℕ). 92 ∷ n ∷ []) (sym e))

pub code_written : (x letter high low : ℕ) → letter ≡ escape_letter x → letter ≤ 0 → x < 32 → high ≡ digit_char (x / 16) → low ≡ digit_char (x % 16)
    → escape_byte x ≡ 92 ∷ 117 ∷ 48 ∷ 48 ∷ high ∷ low ∷ []
unfolding escape_byte
code_written x letter high low e none below h l =
    let none' : nat_lt 0 (escape_letter x) ≡ false = tells_more 0 (escape_letter x) (subst (λ (n : ℕ). n ≤ 0) e none) in
    rw none' (rw (tells_less x 32 below) (rw (h, l) refl))

pub byte_written : (x letter : ℕ) → letter ≡ escape_letter x → letter ≤ 0 → 32 ≤ x → escape_byte x ≡ x ∷ []
unfolding escape_byte
byte_written x letter e none above =
    let none' : nat_lt 0 (escape_letter x) ≡ false = tells_more 0 (escape_letter x) (subst (λ (n : ℕ). n ≤ 0) e none) in
    rw none' (rw (tells_more x 32 above) refl)
