-- The set bits of a byte, counted one by one.
use Rattle.std.proofs.Common.{refl, ◌≡◌, sym, ◌∙◌, ap, cond, ℕ, zero, suc, ◌+◌, ◌*◌, ◌/◌, ◌%◌, ◌^◌, ◌<◌, ◌≤◌, ◌==◌, List, get_or, bit_xor, count_ones, arith, zero-add, add-zero, pow-suc}
use Rattle.std.specs.Int.{bit_at}
use Rattle.std.proofs.lemmas.Bool.Decides.{nat_tests}
use Rattle.std.proofs.lemmas.Nat.Bits.{bit_at-suc, bit_at_lowest, bit_at_xor, bit_at-lt}
use Rattle.std.proofs.lemmas.Nat.{xor_of_8, ones_le_self}
use lib.Count.{ones_step}
use Rattle.gx_sig.specs.BitSets.{bit_of, differing}

-- how many of the w lowest bits of n are set
abbrev pub set_bits : ℕ → ℕ → ℕ
set_bits n zero = 0
set_bits n (suc w) = bit_at n w + set_bits n w

set_bits-suc : (n w : ℕ) → set_bits n (suc w) ≡ n % 2 + set_bits (n / 2) w
set_bits-suc n zero = rw (bit_at_lowest n) refl
set_bits-suc n (suc w) = let step = set_bits-suc n w in let bit = bit_at-suc n w in omega (arith, step, bit)

half_below : (w n : ℕ) → n < 2 ^ suc w → n / 2 < 2 ^ w
half_below w n h = omega (arith, pow-suc 2 w)

pub ones_are : (w n : ℕ) → n < 2 ^ w → count_ones n ≡ set_bits n w
ones_are zero n h = let none : n ≡ 0 = omega arith in let few = ones_le_self n in omega (arith, few)
ones_are (suc w) n h = ones_step n ∙ ap (λ k. n % 2 + k) (ones_are w (n / 2) (half_below w n h)) ∙ sym (set_bits-suc n w)

apart : (a b : ℕ) → a < 2 → b < 2 → cond (a == b) 0 1 ≡ (a + b) % 2
apart a b p q = grind (arith, nat_tests)

one_bit : (xs ys : List ℕ) (k i : ℕ) → i < 8 → cond (bit_of xs (8 * k + i) == bit_of ys (8 * k + i)) 0 1 ≡ bit_at (bit_xor (get_or xs k 0) (get_or ys k 0)) i
one_bit xs ys k i h =
    let quotient : (8 * k + i) / 8 ≡ k = omega arith in
    let rest : (8 * k + i) % 8 ≡ i = omega arith in
    rw (quotient, rest) (apart (bit_at (get_or xs k 0) i) (bit_at (get_or ys k 0) i) (bit_at-lt (get_or xs k 0) i) (bit_at-lt (get_or ys k 0) i)
    ∙ sym (bit_at_xor (get_or xs k 0) (get_or ys k 0) i))

pub bits_of_byte : (xs ys : List ℕ) (k i : ℕ) → i ≤ 8 → differing xs ys (8 * k + i) ≡ set_bits (bit_xor (get_or xs k 0) (get_or ys k 0)) i + differing xs ys (8 * k)
bits_of_byte xs ys k zero h = rw (zero-add, add-zero) refl
bits_of_byte xs ys k (suc i) h =
    let before = bits_of_byte xs ys k i (omega arith) in
    let bit = one_bit xs ys k i (omega arith) in
    let place : 8 * k + suc i ≡ suc (8 * k + i) = omega arith in
    rw place (omega (arith, before, bit))

pub few_bits : (n w : ℕ) → set_bits n w ≤ w
few_bits n zero = omega arith
few_bits n (suc w) = omega (arith, few_bits n w, bit_at-lt n w)

-- one byte more
pub byte_more : (xs ys : List ℕ) (k bits : ℕ) → get_or xs k 0 < 2 ^ 8 → get_or ys k 0 < 2 ^ 8 → bits ≡ differing xs ys (8 * k)
    → bits + count_ones (bit_xor (get_or xs k 0) (get_or ys k 0)) ≡ differing xs ys (8 * (k + 1))
byte_more xs ys k bits p q e =
    let ones = ones_are 8 (bit_xor (get_or xs k 0) (get_or ys k 0)) (xor_of_8 (get_or xs k 0) (get_or ys k 0) p q) in
    let eight = bits_of_byte xs ys k 8 (omega arith) in
    let place : 8 * (k + 1) ≡ 8 * k + 8 = omega arith in
    rw place (omega (arith, ones, eight))

pub few_ones : (a b : ℕ) → a < 2 ^ 8 → b < 2 ^ 8 → count_ones (bit_xor a b) ≤ 8
few_ones a b p q = let ones = ones_are 8 (bit_xor a b) (xor_of_8 a b p q) in omega (arith, ones, few_bits (bit_xor a b) 8)
