-- Single bits of a list of bytes under the operations of a signature.
use Rattle.std.proofs.Common.{refl, ◌≡◌, ◌≢◌, sym, ◌∙◌, Bool, true, false, ℕ, ◌*◌, ◌/◌, ◌%◌, ◌^◌, ◌<◌, ◌≤◌, ◌⊎◌, ◌↔◌, ◌==◌, inl, inr, nat_lt, IsTrue, List, length, get_or, bit_or, bit_and, slice_set, w8, arith}
use Rattle.std.proofs.lemmas.Bool.Decides.{nat_tests}
use Rattle.std.proofs.lemmas.List.{get_or-set_same, get_or-set_other}
use Rattle.std.proofs.lemmas.Nat.{mod_below, pow_below}
use Rattle.std.proofs.lemmas.Nat.Bits.{bit_at_set_same, bit_at_set_other, shr_and_one}
use Rattle.gx_sig.specs.BitSets.{bit_of, HasBit}

pub is_one : (n : ℕ) → IsTrue (n == 1) ↔ (n ≡ 1)
is_one n = (λ h. grind (arith, nat_tests), λ h. grind (arith, nat_tests))

-- the test of a bit by a shift
pub tested : (bs : List ℕ) (p : ℕ) → IsTrue (bit_and (get_or bs (p / 8) 0 / 2 ^ (p % 8)) 1 == 1) ↔ HasBit bs p
tested bs p = rw (shr_and_one (get_or bs (p / 8) 0) (p % 8)) (is_one (bit_of bs p))

-- A byte at p div 8 with bit p mod 8 added: that bit is there.
pub set_same : (bs : List ℕ) (p : ℕ) → p / 8 < length bs
    → bit_of (slice_set bs (p / 8) (bit_or (get_or bs (p / 8) 0) (1 * 2 ^ (p % 8) % 2 ^ 8))) p ≡ 1
set_same bs p h = rw (get_or-set_same bs (p / 8) (bit_or (get_or bs (p / 8) 0) (1 * 2 ^ (p % 8) % 2 ^ 8)) 0 h)
    (bit_at_set_same w8 (get_or bs (p / 8) 0) (p % 8) (mod_below p 8 (omega arith)))

-- The other bits stay: in another byte, or at another place of the same.
other_byte : (bs : List ℕ) (p b v : ℕ) → b / 8 ≢ p / 8 → bit_of (slice_set bs (p / 8) v) b ≡ bit_of bs b
other_byte bs p b v apart = rw (get_or-set_other bs (p / 8) (b / 8) v 0 apart) refl

same_byte : (bs : List ℕ) (p b : ℕ) → p / 8 < length bs → b / 8 ≡ p / 8 → b % 8 ≢ p % 8
    → bit_of (slice_set bs (p / 8) (bit_or (get_or bs (p / 8) 0) (1 * 2 ^ (p % 8) % 2 ^ 8))) b ≡ bit_of bs b
same_byte bs p b h e apart = rw (e, get_or-set_same bs (p / 8) (bit_or (get_or bs (p / 8) 0) (1 * 2 ^ (p % 8) % 2 ^ 8)) 0 h)
    (bit_at_set_other w8 (get_or bs (p / 8) 0) (p % 8) (mod_below p 8 (omega arith)) (b % 8) apart)

by_test : (a b : ℕ) (t : Bool) → (a == b) ≡ t → (a ≡ b) ⊎ (a ≢ b)
by_test a b true h = inl (grind (arith, nat_tests, h))
by_test a b false h = inr (λ e. grind (arith, nat_tests, h, e))

pub same_or_not : (a b : ℕ) → (a ≡ b) ⊎ (a ≢ b)
same_or_not a b = by_test a b (a == b) refl

pub set_other : (bs : List ℕ) (p b : ℕ) → p / 8 < length bs → b ≢ p
    → bit_of (slice_set bs (p / 8) (bit_or (get_or bs (p / 8) 0) (1 * 2 ^ (p % 8) % 2 ^ 8))) b ≡ bit_of bs b
set_other bs p b h apart =
    elim (same_or_not (b / 8) (p / 8)) [ inr byte ↦ other_byte bs p b _ byte | inl same ↦ same_byte bs p b h same (omega arith) ]

below_test : (a b : ℕ) (t : Bool) → nat_lt a b ≡ t → (a < b) ⊎ (b ≤ a)
below_test a b true h = inl (grind (arith, nat_tests, h))
below_test a b false h = inr (grind (arith, nat_tests, h))

pub below_or_not : (a b : ℕ) → (a < b) ⊎ (b ≤ a)
below_or_not a b = below_test a b (nat_lt a b) refl

-- with the bit of p added
pub added : (bs : List ℕ) (p b : ℕ) → p / 8 < length bs
    → HasBit (slice_set bs (p / 8) (bit_or (get_or bs (p / 8) 0) (1 * 2 ^ (p % 8) % 2 ^ 8))) b ↔ ((b ≡ p) ⊎ HasBit bs b)
added bs p b h = (
  λ has. elim (same_or_not b p) [ inl e ↦ inl e | inr apart ↦ inr (sym (set_other bs p b h apart) ∙ has) ],
  elim [ inl e ↦ (rw e (set_same bs p h)) | inr has ↦ elim (same_or_not b p) [ inl e ↦ (rw e (set_same bs p h)) | inr apart ↦ set_other bs p b h apart ∙ has ] ],
)

pub one_bit : (p : ℕ) → 1 * 2 ^ (p % 8) % 2 ^ 8 ≡ 2 ^ (p % 8)
one_bit p = let small = pow_below (p % 8) 8 (omega arith) in omega (arith, small)
