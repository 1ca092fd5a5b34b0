-- Numbers in fields of two, four and eight bytes, the lowest byte first.
use Rattle.std.specs.Prelude.{◌≡◌, ℕ, ◌+◌, ◌<◌, ◌^◌, List, ◌++◌, length, take, drop, refl}
use Rattle.std.specs.Int.{w16, w32, w64, to_le_bytes, from_le_bytes}
use Rattle.std.proofs.Common.{sym, ◌∙◌, ap}
use Rattle.std.proofs.lemmas.Nat.{from_le_bytes-to_le_bytes_2, from_le_bytes-to_le_bytes_4, from_le_bytes-to_le_bytes_8}

-- the bytes of a number
unfoldable pub le16 : ℕ → List ℕ
le16 n = to_le_bytes w16 n

unfoldable pub le32 : ℕ → List ℕ
le32 n = to_le_bytes w32 n

unfoldable pub le64 : ℕ → List ℕ
le64 n = to_le_bytes w64 n

-- the number of a field's bytes
unfoldable pub of16 : List ℕ → ℕ
of16 bytes = from_le_bytes w16 bytes

unfoldable pub of32 : List ℕ → ℕ
of32 bytes = from_le_bytes w32 bytes

unfoldable pub of64 : List ℕ → ℕ
of64 bytes = from_le_bytes w64 bytes

-- the bytes with others in place of those from a place on
abbrev pub paste : List ℕ → ℕ → List ℕ → List ℕ
paste bytes at more = take at bytes ++ more ++ drop (at + length more) bytes

-- a field has its length
pub length-le16 : (n : ℕ) → length (le16 n) ≡ 2
unfolding le16
length-le16 n = refl

pub length-le32 : (n : ℕ) → length (le32 n) ≡ 4
unfolding le32
length-le32 n = refl

pub length-le64 : (n : ℕ) → length (le64 n) ≡ 8
unfolding le64
length-le64 n = refl

-- what was written is read again
pub of16-le16 : (n : ℕ) → n < 2 ^ 16 → of16 (le16 n) ≡ n
unfolding le16 of16
of16-le16 n fits = from_le_bytes-to_le_bytes_2 n fits

pub of32-le32 : (n : ℕ) → n < 2 ^ 32 → of32 (le32 n) ≡ n
unfolding le32 of32
of32-le32 n fits = from_le_bytes-to_le_bytes_4 n fits

pub of64-le64 : (n : ℕ) → n < 2 ^ 64 → of64 (le64 n) ≡ n
unfolding le64 of64
of64-le64 n fits = from_le_bytes-to_le_bytes_8 n fits

-- one spelling has one number
pub le16-same : (m n : ℕ) → m < 2 ^ 16 → n < 2 ^ 16 → le16 m ≡ le16 n → m ≡ n
le16-same m n small fits same = sym (of16-le16 m small) ∙ ap of16 same ∙ of16-le16 n fits

pub le32-same : (m n : ℕ) → m < 2 ^ 32 → n < 2 ^ 32 → le32 m ≡ le32 n → m ≡ n
le32-same m n small fits same = sym (of32-le32 m small) ∙ ap of32 same ∙ of32-le32 n fits

pub le64-same : (m n : ℕ) → m < 2 ^ 64 → n < 2 ^ 64 → le64 m ≡ le64 n → m ≡ n
le64-same m n small fits same = sym (of64-le64 m small) ∙ ap of64 same ∙ of64-le64 n fits
