-- Sixteen bytes and the number that they write, the highest first.
use Rattle.std.proofs.Common.{◌≡◌, ℕ, zero, suc, ◌+◌, ◌*◌, ◌/◌, ◌%◌, ◌^◌, ◌<◌, ◌≤◌, List, [], ◌∷◌, length, get_or, refl, sym, ap, ap₂, subst, ◌∙◌, arith}
use native.Mathlib.Nat.{pow-suc, mul-le-mul_right}
use Rattle.std.proofs.lemmas.Nat.{mod-mul-add, div-mul-add}
use Rattle.std.specs.Int.{w128, to_be_bytes, from_be_bytes, byte_at, bytes_high_first}

-- the number that the bytes write
abbrev pub value : List ℕ → ℕ
value [] = 0
value (b ∷ bytes) = b * 256 ^ length bytes + value bytes

abbrev pub AreBytes : List ℕ → Type 0
AreBytes bytes = (i : ℕ) → get_or bytes i 0 < 256

value-lt : (bytes : List ℕ) → AreBytes bytes → value bytes < 256 ^ length bytes
value-lt [] small = omega arith
value-lt (b ∷ bytes) small =
    let rest = value-lt bytes (λ i. small (suc i)) in
    let byte : b < 256 = small 0 in
    let first : b + 1 ≤ 256 = omega arith in
    let worth = mul-le-mul_right (256 ^ length bytes) first in
    rw pow-suc (omega (arith, rest, worth))

byte_in : (low p x high : ℕ) → low < p → x < 256 → ((high * 256 + x) * p + low) / p % 256 ≡ x
byte_in low p x high below small = ap (λ m. m % 256) (div-mul-add (high * 256 + x) p low below) ∙ mod-mul-add high 256 x small

-- what stands below a byte and above it doesn't change the byte
byte_between : (k low b high : ℕ) → low < 256 ^ k → b < 256 → byte_at k ((high * 256 + b) * 256 ^ k + low) ≡ b
byte_between zero low b high small byte = omega arith
byte_between (suc k) low b high small byte = byte_in low (256 ^ suc k) b high small byte

pub bytes_of_value : (bytes : List ℕ) (high : ℕ) → AreBytes bytes → bytes_high_first (length bytes) (high * 256 ^ length bytes + value bytes) ≡ bytes
bytes_of_value [] high small = refl
bytes_of_value (b ∷ bytes) high small =
    let low = value-lt bytes (λ i. small (suc i)) in
    let split : high * 256 ^ suc (length bytes) + (b * 256 ^ length bytes + value bytes) ≡ (high * 256 + b) * 256 ^ length bytes + value bytes = rw pow-suc (omega arith) in
    rw split (ap₂ (λ x xs. x ∷ xs) (byte_between (length bytes) (value bytes) b high low (small 0)) (bytes_of_value bytes (high * 256 + b) (λ i. small (suc i))))

-- the number is what std reads from sixteen bytes
sixteen : (bytes : List ℕ) → length bytes ≡ 16 → from_be_bytes w128 bytes ≡ value bytes
sixteen [] long = absurd (omega arith)
sixteen (a ∷ []) long = absurd (omega arith)
sixteen (a ∷ b ∷ []) long = absurd (omega arith)
sixteen (a ∷ b ∷ c ∷ []) long = absurd (omega arith)
sixteen (a ∷ b ∷ c ∷ d ∷ []) long = absurd (omega arith)
sixteen (a ∷ b ∷ c ∷ d ∷ e ∷ []) long = absurd (omega arith)
sixteen (a ∷ b ∷ c ∷ d ∷ e ∷ f ∷ []) long = absurd (omega arith)
sixteen (a ∷ b ∷ c ∷ d ∷ e ∷ f ∷ g ∷ []) long = absurd (omega arith)
sixteen (a ∷ b ∷ c ∷ d ∷ e ∷ f ∷ g ∷ h ∷ []) long = absurd (omega arith)
sixteen (a ∷ b ∷ c ∷ d ∷ e ∷ f ∷ g ∷ h ∷ i ∷ []) long = absurd (omega arith)
sixteen (a ∷ b ∷ c ∷ d ∷ e ∷ f ∷ g ∷ h ∷ i ∷ j ∷ []) long = absurd (omega arith)
sixteen (a ∷ b ∷ c ∷ d ∷ e ∷ f ∷ g ∷ h ∷ i ∷ j ∷ k ∷ []) long = absurd (omega arith)
sixteen (a ∷ b ∷ c ∷ d ∷ e ∷ f ∷ g ∷ h ∷ i ∷ j ∷ k ∷ l ∷ []) long = absurd (omega arith)
sixteen (a ∷ b ∷ c ∷ d ∷ e ∷ f ∷ g ∷ h ∷ i ∷ j ∷ k ∷ l ∷ m ∷ []) long = absurd (omega arith)
sixteen (a ∷ b ∷ c ∷ d ∷ e ∷ f ∷ g ∷ h ∷ i ∷ j ∷ k ∷ l ∷ m ∷ n ∷ []) long = absurd (omega arith)
sixteen (a ∷ b ∷ c ∷ d ∷ e ∷ f ∷ g ∷ h ∷ i ∷ j ∷ k ∷ l ∷ m ∷ n ∷ o ∷ []) long = absurd (omega arith)
sixteen (a ∷ b ∷ c ∷ d ∷ e ∷ f ∷ g ∷ h ∷ i ∷ j ∷ k ∷ l ∷ m ∷ n ∷ o ∷ p ∷ []) long = omega arith
sixteen (a ∷ b ∷ c ∷ d ∷ e ∷ f ∷ g ∷ h ∷ i ∷ j ∷ k ∷ l ∷ m ∷ n ∷ o ∷ p ∷ q ∷ more) long = absurd (omega arith)

-- the number has these sixteen bytes
pub written_16 : (bytes : List ℕ) (n : ℕ) → length bytes ≡ 16 → AreBytes bytes → n ≡ from_be_bytes w128 bytes → (n < 2 ^ 128) × (bytes ≡ to_be_bytes w128 n)
written_16 bytes n long small is =
    let same : n ≡ value bytes = is ∙ sixteen bytes long in
    let most = value-lt bytes small in
    let all : bytes_high_first (length bytes) (0 * 256 ^ length bytes + value bytes) ≡ bytes = bytes_of_value bytes 0 small in
    let none : 0 * 256 ^ length bytes + value bytes ≡ n = omega (arith, same) in
    let counted : bytes_high_first 16 n ≡ bytes = let P : ℕ → Type 0 = λ k. bytes_high_first k n ≡ bytes in subst P long (rw none at all) in
    (rw long at (rw (← same) at most), sym counted)
