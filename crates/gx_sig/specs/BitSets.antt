-- Signatures as sets of bits. Bit b of a list of bytes is bit b mod 8 of byte b div 8.
use Rattle.std.specs.Prelude.{◌≡◌, ℕ, ◌+◌, ◌*◌, replicate, ◌/◌, ◌%◌, ◌==◌, cond, List, get_or, ◌⊎◌, ◌↔◌, ◌^◌, ◌<◌, length, zero, suc, [], ◌∷◌, bit_or, slice_set}
use Rattle.std.specs.Int.{bit_at}

-- the bit as a number, 0 or 1; 0 behind the last byte
abbrev pub bit_of : List ℕ → ℕ → ℕ
bit_of bytes b = bit_at (get_or bytes (b / 8) 0) (b % 8)

-- The bit is in the set.
abbrev pub HasBit : List ℕ → ℕ → Type 0
HasBit bytes b = bit_of bytes b ≡ 1

-- the bytes with a bit more
abbrev pub with_bit : List ℕ → ℕ → List ℕ
with_bit bytes b = slice_set bytes (b / 8) (bit_or (get_or bytes (b / 8) 0) (2 ^ (b % 8)))

-- the bytes with the bits of both
abbrev pub both : List ℕ → List ℕ → List ℕ
both [] ys = []
both (x ∷ xs) [] = x ∷ xs
both (x ∷ xs) (y ∷ ys) = bit_or x y ∷ both xs ys

-- how many of the first n bits are in one of the sets alone
abbrev pub differing : List ℕ → List ℕ → ℕ → ℕ
differing xs ys zero = 0
differing xs ys (suc n) = cond (bit_of xs n == bit_of ys n) 0 1 + differing xs ys n

-- the lengths that a signature may have, in bytes
abbrev pub IsSignatureLength : ℕ → Type 0
IsSignatureLength n = (n ≡ 4) ⊎ (n ≡ 8) ⊎ (n ≡ 16) ⊎ (n ≡ 28) ⊎ (n ≡ 32) ⊎ (n ≡ 64) ⊎ (n ≡ 128) ⊎ (n ≡ 252)

-- Bytes that hold the same bits are the same.
abbrev pub OneSpelling : Type 0
OneSpelling =
    (xs ys : List ℕ) → length xs ≡ length ys → ((k : ℕ) → get_or xs k 0 < 2 ^ 8) → ((k : ℕ) → get_or ys k 0 < 2 ^ 8)
    → ((b : ℕ) → HasBit xs b ↔ HasBit ys b) → xs ≡ ys

-- n bytes
pub record IsSignature (n : ℕ) (bytes : List ℕ) : Type 0 where
  pub long : length bytes ≡ n
  pub small : (k : ℕ) → get_or bytes k 0 < 2 ^ 8

-- With a bit more, a signature has that bit and those that it had; both together have the bits of either.
abbrev pub WithBitHas : Type 0
WithBitHas = (n : ℕ) (xs : List ℕ) (p b : ℕ) → IsSignature n xs → p < 8 * n → HasBit (with_bit xs p) b ↔ ((b ≡ p) ⊎ HasBit xs b)

abbrev pub BothHave : Type 0
BothHave = (n : ℕ) (xs ys : List ℕ) (b : ℕ) → IsSignature n xs → IsSignature n ys → HasBit (both xs ys) b ↔ (HasBit xs b ⊎ HasBit ys b)

-- No byte, a bit more and both together are signatures.
abbrev pub AreSignatures : Type 0
AreSignatures =
    ((n : ℕ) → IsSignature n (replicate n 0))
    × ((n : ℕ) (xs : List ℕ) (p : ℕ) → IsSignature n xs → IsSignature n (with_bit xs p))
    × ((n : ℕ) (xs ys : List ℕ) → IsSignature n xs → IsSignature n ys → IsSignature n (both xs ys))
