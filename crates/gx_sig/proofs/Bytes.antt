-- Signatures byte by byte: union and containment.
use Rattle.std.proofs.Common.{zero, suc, [], ◌∷◌, refl, ◌≡◌, sym, ◌∙◌, ap, ℕ, ◌+◌, ◌*◌, ◌/◌, ◌%◌, ◌^◌, ◌<◌, ◌≤◌, ◌⊎◌, ◌↔◌, inl, inr, List, length, get_or, replicate, slice_set, max, bit_or, arith}
use Rattle.std.specs.Int.{bit_at}
use Rattle.std.proofs.lemmas.Grind.{same_number_lists}
use Rattle.std.proofs.lemmas.List.{get_or_past, length-set, length-replicate}
use Rattle.std.proofs.lemmas.Nat.{or_of_8, pow_below}
use Rattle.std.proofs.lemmas.Nat.Bits.{bit_at_or, bit_at-lt, bit_at-zero, same_from_bits_below}
use Rattle.gx_sig.specs.BitSets.{bit_of, HasBit, both, OneSpelling, IsSignature, WithBitHas, BothHave, AreSignatures}
use Rattle.gx_sig.proofs.Bits.{same_or_not, below_or_not, added, one_bit}

-- each byte of zs is the byte of xs with that of ys
abbrev pub AreJoined : List ℕ → List ℕ → List ℕ → ℕ → Type 0
AreJoined xs ys zs n = (k : ℕ) → k < n → get_or zs k 0 ≡ bit_or (get_or xs k 0) (get_or ys k 0)

either_bit : (a b : ℕ) → a < 2 → b < 2 → (max a b ≡ 1) ↔ ((a ≡ 1) ⊎ (b ≡ 1))
either_bit a b p q = (
  λ h. elim (same_or_not a 1) [ inl e ↦ inl e | inr ne ↦ inr (omega arith) ],
  elim [ inl e ↦ omega arith | inr e ↦ omega arith ],
)

joined_byte : (xs ys zs : List ℕ) (b : ℕ) → get_or zs (b / 8) 0 ≡ bit_or (get_or xs (b / 8) 0) (get_or ys (b / 8) 0) → HasBit zs b ↔ (HasBit xs b ⊎ HasBit ys b)
joined_byte xs ys zs b e = rw (e, bit_at_or (get_or xs (b / 8) 0) (get_or ys (b / 8) 0) (b % 8))
    (either_bit (bit_of xs b) (bit_of ys b) (bit_at-lt (get_or xs (b / 8) 0) (b % 8)) (bit_at-lt (get_or ys (b / 8) 0) (b % 8)))

joined_at : (xs ys zs : List ℕ) (n k : ℕ) → length xs ≡ n → length ys ≡ n → length zs ≡ n → AreJoined xs ys zs n → get_or zs k 0 ≡ bit_or (get_or xs k 0) (get_or ys k 0)
joined_at xs ys zs n k p q r each = elim (below_or_not k n) [
  | inl h ↦ each k h
  | inr h ↦ (rw (get_or_past zs k 0 (omega arith), get_or_past xs k 0 (omega arith), get_or_past ys k 0 (omega arith)) refl)
]

bit_in_byte : (xs : List ℕ) (k i : ℕ) → i < 8 → HasBit xs (8 * k + i) → bit_at (get_or xs k 0) i ≡ 1
bit_in_byte xs k i h has = let quotient : (8 * k + i) / 8 ≡ k = omega arith in let rest : (8 * k + i) % 8 ≡ i = omega arith in rw (quotient, rest) at has

bit_from_byte : (xs : List ℕ) (k i : ℕ) → i < 8 → bit_at (get_or xs k 0) i ≡ 1 → HasBit xs (8 * k + i)
bit_from_byte xs k i h has = let quotient : (8 * k + i) / 8 ≡ k = omega arith in let rest : (8 * k + i) % 8 ≡ i = omega arith in rw (quotient, rest) has

pub joined : (xs ys zs : List ℕ) (n b : ℕ) → length xs ≡ n → length ys ≡ n → length zs ≡ n → AreJoined xs ys zs n → HasBit zs b ↔ (HasBit xs b ⊎ HasBit ys b)
joined xs ys zs n b p q r each = joined_byte xs ys zs b (joined_at xs ys zs n (b / 8) p q r each)

-- a byte holds the bits of another where the two together are the byte itself
same_max : (a b : ℕ) → a < 2 → b < 2 → (b ≡ 1 → a ≡ 1) → max a b ≡ a
same_max a b p q h = elim (same_or_not b 1) [ inl e ↦ (let one : a ≡ 1 = h e in omega arith) | inr ne ↦ omega arith ]

pub byte_within : (xs ys : List ℕ) (k : ℕ) → get_or xs k 0 < 2 ^ 8 → get_or ys k 0 < 2 ^ 8
    → ((b : ℕ) → HasBit ys b → HasBit xs b) → bit_or (get_or xs k 0) (get_or ys k 0) ≡ get_or xs k 0
byte_within xs ys k p q all = same_from_bits_below 8 (bit_or (get_or xs k 0) (get_or ys k 0)) (get_or xs k 0) (or_of_8 (get_or xs k 0) (get_or ys k 0) p q) p
    (λ i h. rw (bit_at_or (get_or xs k 0) (get_or ys k 0) i) (same_max (bit_at (get_or xs k 0) i) (bit_at (get_or ys k 0) i) (bit_at-lt (get_or xs k 0) i) (bit_at-lt (get_or ys k 0) i)
    (λ has. bit_in_byte xs k i h (all (8 * k + i) (bit_from_byte ys k i h has)))))

-- each of the first n bytes of xs holds the bits of that of ys
abbrev pub AreWithin : List ℕ → List ℕ → ℕ → Type 0
AreWithin xs ys n = (k : ℕ) → k < n → bit_or (get_or xs k 0) (get_or ys k 0) ≡ get_or xs k 0

within_bit : (a b : ℕ) → b < 2 → max a b ≡ a → b ≡ 1 → a < 2 → a ≡ 1
within_bit a b q e h p = omega arith

within_at : (xs ys : List ℕ) (b : ℕ) → bit_or (get_or xs (b / 8) 0) (get_or ys (b / 8) 0) ≡ get_or xs (b / 8) 0 → HasBit ys b → HasBit xs b
within_at xs ys b e has =
    let bits : max (bit_of xs b) (bit_of ys b) ≡ bit_of xs b = sym (bit_at_or (get_or xs (b / 8) 0) (get_or ys (b / 8) 0) (b % 8)) ∙ ap (λ v. bit_at v (b % 8)) e in
    within_bit (bit_of xs b) (bit_of ys b) (bit_at-lt (get_or ys (b / 8) 0) (b % 8)) bits has (bit_at-lt (get_or xs (b / 8) 0) (b % 8))

past_end : (ys : List ℕ) (b : ℕ) → length ys ≤ b / 8 → HasBit ys b → ⊥
past_end ys b h has =
    let zero_bit : bit_of ys b ≡ 0 = ap (λ v. bit_at v (b % 8)) (get_or_past ys (b / 8) 0 h) ∙ bit_at-zero (b % 8) in
    omega arith

pub within : (xs ys : List ℕ) (n : ℕ) → length ys ≡ n → AreWithin xs ys n → (b : ℕ) → HasBit ys b → HasBit xs b
within xs ys n q each b has = elim (below_or_not (b / 8) n) [
  | inl h ↦ within_at xs ys b (each (b / 8) h) has
  | inr h ↦ absurd (past_end ys b (omega arith) has)
]

-- Bytes with the same bits.
same_bit : (a b : ℕ) → a < 2 → b < 2 → (a ≡ 1 → b ≡ 1) → (b ≡ 1 → a ≡ 1) → a ≡ b
same_bit a b p q f g = elim (same_or_not a 1) [
  | inl e ↦ (let other : b ≡ 1 = f e in omega arith)
  | inr no_a ↦ elim (same_or_not b 1) [ inl e ↦ (let other : a ≡ 1 = g e in omega arith) | inr no_b ↦ omega arith ]
]

same_byte : (xs ys : List ℕ) (k : ℕ) → get_or xs k 0 < 2 ^ 8 → get_or ys k 0 < 2 ^ 8 → ((b : ℕ) → HasBit xs b ↔ HasBit ys b) → get_or xs k 0 ≡ get_or ys k 0
same_byte xs ys k p q same = same_from_bits_below 8 (get_or xs k 0) (get_or ys k 0) p q
    (λ i h. same_bit (bit_at (get_or xs k 0) i) (bit_at (get_or ys k 0) i) (bit_at-lt (get_or xs k 0) i) (bit_at-lt (get_or ys k 0) i)
    (λ has. bit_in_byte ys k i h ((same (8 * k + i)).0 (bit_from_byte xs k i h has)))
    (λ has. bit_in_byte xs k i h ((same (8 * k + i)).1 (bit_from_byte ys k i h has))))

pub one_spelling : OneSpelling
one_spelling xs ys long p q same = same_number_lists xs ys long (λ k h. same_byte xs ys k (p k) (q k) same)

length-both : (xs ys : List ℕ) → length xs ≡ length ys → length (both xs ys) ≡ length xs
length-both [] ys e = refl
length-both (x ∷ xs) [] e = refl
length-both (x ∷ xs) (y ∷ ys) e = let rest = length-both xs ys (omega (arith, e)) in omega (arith, rest)

both_at : (xs ys : List ℕ) (k : ℕ) → length xs ≡ length ys → k < length xs → get_or (both xs ys) k 0 ≡ bit_or (get_or xs k 0) (get_or ys k 0)
both_at [] ys k e h = absurd (omega (arith, h))
both_at (x ∷ xs) [] k e h = absurd (omega (arith, e))
both_at (x ∷ xs) (y ∷ ys) zero e h = refl
both_at (x ∷ xs) (y ∷ ys) (suc k) e h = both_at xs ys k (omega (arith, e)) (omega (arith, h))

pub joined_both : (xs ys zs : List ℕ) (n : ℕ) → length xs ≡ n → length ys ≡ n → length zs ≡ n → AreJoined xs ys zs n → zs ≡ both xs ys
joined_both xs ys zs n p q r each =
    let same : length xs ≡ length ys = p ∙ sym q in
    same_number_lists zs (both xs ys) (omega (arith, r, p, length-both xs ys same)) (λ k h. each k (omega (arith, h, r)) ∙ sym (both_at xs ys k same (omega (arith, h, r, p))))

-- The bits of changed bytes.
pub with_bit_has : WithBitHas
with_bit_has n xs p b is below = let long = is.long in rw (one_bit p) at (added xs p b (omega arith))

pub both_have : BothHave
both_have n xs ys b p q =
    let same : length xs ≡ length ys = p.long ∙ sym q.long in
    let size : length (both xs ys) ≡ n = length-both xs ys same ∙ p.long in
    joined xs ys (both xs ys) n b p.long q.long size (λ k h. both_at xs ys k same (omega (arith, p.long)))

both_small : (xs ys : List ℕ) (k : ℕ) → ((j : ℕ) → get_or xs j 0 < 2 ^ 8) → ((j : ℕ) → get_or ys j 0 < 2 ^ 8) → get_or (both xs ys) k 0 < 2 ^ 8
both_small [] ys k p q = p k
both_small (x ∷ xs) [] k p q = p k
both_small (x ∷ xs) (y ∷ ys) zero p q = or_of_8 x y (p 0) (q 0)
both_small (x ∷ xs) (y ∷ ys) (suc k) p q = both_small xs ys k (λ j. p (suc j)) (λ j. q (suc j))

set_small : (xs : List ℕ) (i v k : ℕ) → v < 2 ^ 8 → ((j : ℕ) → get_or xs j 0 < 2 ^ 8) → get_or (slice_set xs i v) k 0 < 2 ^ 8
set_small [] i v k small p = p k
set_small (x ∷ xs) zero v zero small p = small
set_small (x ∷ xs) zero v (suc k) small p = p (suc k)
set_small (x ∷ xs) (suc i) v zero small p = p 0
set_small (x ∷ xs) (suc i) v (suc k) small p = set_small xs i v k small (λ j. p (suc j))

zeros_small : (n k : ℕ) → get_or (replicate n 0) k 0 < 2 ^ 8
zeros_small zero k = omega arith
zeros_small (suc n) zero = omega arith
zeros_small (suc n) (suc k) = zeros_small n k

pub are_signatures : AreSignatures
are_signatures = (
  λ n. record { long = length-replicate n 0; small = zeros_small n },
  λ n xs p is. record {
    long = length-set xs (p / 8) _ ∙ is.long;
    small = λ k. set_small xs (p / 8) _ k (or_of_8 (get_or xs (p / 8) 0) (2 ^ (p % 8)) (is.small (p / 8)) (pow_below (p % 8) 8 (omega arith))) is.small;
  },
  λ n xs ys p q. record {
    long = length-both xs ys (p.long ∙ sym q.long) ∙ p.long;
    small = λ k. both_small xs ys k p.small q.small;
  },
)
