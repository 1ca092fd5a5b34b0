-- First bits of addresses.
use Rattle.std.specs.Prelude.{◌≡◌, ℕ, zero, suc, ◌+◌, ◌-◌, ◌*◌, ◌/◌, ◌^◌, ◌<◌, ◌≤◌, ◌==◌, Bool, true, false, if◌then◌else◌, refl}
use Rattle.std.proofs.Common.{sym, ap, subst, ◌∙◌, inl, inr, arith, add-zero, true≢false}
use Rattle.std.proofs.Math.Nat.{div-div-eq-div-mul, div-mul-le_self}
use Rattle.std.proofs.lemmas.Bool.{cases_lt}
use Rattle.std.proofs.lemmas.Bool.Decides.{nat_tests}
use Rattle.std.proofs.lemmas.Nat.{pow-add, pow_pos, div-mul-add, div_below, le-div, shl_below, pow_below}
use Rattle.gx_class_inet.specs.Keys.{shared}

deeper : (w m n : ℕ) → n ≤ m → m ≤ w → 2 ^ (w - n) ≡ 2 ^ (w - m) * 2 ^ (m - n)
deeper w m n p q = let parts : w - n ≡ (w - m) + (m - n) = omega arith in rw parts (pow-add 2 (w - m) (m - n))

fewer : (x w m n : ℕ) → n ≤ m → m ≤ w → x / 2 ^ (w - n) ≡ x / 2 ^ (w - m) / 2 ^ (m - n)
fewer x w m n p q = ap (λ t. x / t) (deeper w m n p q) ∙ sym (div-div-eq-div-mul x (2 ^ (w - m)) (2 ^ (m - n)))

-- the same first bits have the same first bits of these
pub prefix : (w x y m n : ℕ) → n ≤ m → m ≤ w → x / 2 ^ (w - m) ≡ y / 2 ^ (w - m) → x / 2 ^ (w - n) ≡ y / 2 ^ (w - n)
prefix w x y m n p q e = fewer x w m n p q ∙ ap (λ t. t / 2 ^ (m - n)) e ∙ sym (fewer y w m n p q)

div_le : (x y k : ℕ) → 0 < k → x ≤ y → x / k ≤ y / k
div_le x y k pos le = let low = div-mul-le_self x k in le-div (x / k) y k pos (omega (arith, low, le))

pub prefix_le : (w x y m n : ℕ) → n ≤ m → m ≤ w → x / 2 ^ (w - m) ≤ y / 2 ^ (w - m) → x / 2 ^ (w - n) ≤ y / 2 ^ (w - n)
prefix_le w x y m n p q le =
    let both = div_le (x / 2 ^ (w - m)) (y / 2 ^ (w - m)) (2 ^ (m - n)) (pow_pos (m - n)) le in
    rw (fewer x w m n p q, fewer y w m n p q) both

-- first bits with zeros behind them have the same first bits
own_bits : (a k : ℕ) → (a * 2 ^ k) / 2 ^ k ≡ a
own_bits a k = ap (λ t. t / 2 ^ k) (sym (add-zero (a * 2 ^ k))) ∙ div-mul-add a (2 ^ k) 0 (pow_pos k)

pub cut_front : (w x n m : ℕ) → m ≤ n → n ≤ w → (x / 2 ^ (w - n) * 2 ^ (w - n)) / 2 ^ (w - m) ≡ x / 2 ^ (w - m)
cut_front w x n m p q = prefix w (x / 2 ^ (w - n) * 2 ^ (w - n)) x n m p q (own_bits (x / 2 ^ (w - n)) (w - n))

pub front_small : (w x n : ℕ) → n ≤ w → x < 2 ^ w → x / 2 ^ (w - n) < 2 ^ n
front_small w x n p small =
    let parts : w ≡ n + (w - n) = omega arith in
    let P : ℕ → Type 0 = λ t. x < 2 ^ t in
    div_below x (2 ^ (w - n)) (2 ^ n) (pow_pos (w - n)) (rw (pow-add 2 n (w - n)) at (subst P parts small))

pub cut_small : (w x n : ℕ) → n ≤ w → x < 2 ^ w → x / 2 ^ (w - n) * 2 ^ (w - n) < 2 ^ w
cut_small w x n p small =
    let parts : n + (w - n) ≡ w = omega arith in
    let P : ℕ → Type 0 = λ t. x / 2 ^ (w - n) * 2 ^ (w - n) < 2 ^ t in
    subst P parts (shl_below (x / 2 ^ (w - n)) n (w - n) (front_small w x n p small))

-- what is shared
few_at : (w x y n : ℕ) (b : Bool) → shared w x y n ≤ n → (if b then suc n else shared w x y n) ≤ suc n
few_at w x y n true h = omega arith
few_at w x y n false h = omega arith

pub shared_few : (w x y n : ℕ) → shared w x y n ≤ n
shared_few w x y zero = omega arith
shared_few w x y (suc n) = few_at w x y n (x / 2 ^ (w - suc n) == y / 2 ^ (w - suc n)) (shared_few w x y n)

none_same : (w x y : ℕ) → x < 2 ^ w → y < 2 ^ w → x / 2 ^ (w - 0) ≡ y / 2 ^ (w - 0)
none_same w x y p q =
    let a = front_small w x 0 (omega arith) p in
    let b = front_small w y 0 (omega arith) q in
    omega (arith, a, b)

same_at : (w x y n : ℕ) (b : Bool) → (x / 2 ^ (w - suc n) == y / 2 ^ (w - suc n)) ≡ b → x / 2 ^ (w - shared w x y n) ≡ y / 2 ^ (w - shared w x y n)
    → x / 2 ^ (w - (if b then suc n else shared w x y n)) ≡ y / 2 ^ (w - (if b then suc n else shared w x y n))
same_at w x y n true e h = grind (arith, nat_tests, e)
same_at w x y n false e h = h

pub shared_same : (w x y n : ℕ) → x < 2 ^ w → y < 2 ^ w → x / 2 ^ (w - shared w x y n) ≡ y / 2 ^ (w - shared w x y n)
shared_same w x y zero p q = none_same w x y p q
shared_same w x y (suc n) p q = same_at w x y n (x / 2 ^ (w - suc n) == y / 2 ^ (w - suc n)) refl (shared_same w x y n p q)

whole_small : (w : ℕ) → w ≤ 128 → 2 ^ w ≤ 2 ^ 128
whole_small w p = elim (cases_lt w 128) [
  | inl less ↦ (let below = pow_below w 128 less in omega (arith, below))
  | inr more ↦ (let same : w ≡ 128 = omega arith in rw same (omega arith))
]

-- bits with zeros behind them fit 128 bits
pub behind_fits : (b w n : ℕ) → w ≤ 128 → n ≤ w → b < 2 ^ n → b * 2 ^ (w - n) < 2 ^ 128
behind_fits b w n p q small =
    let parts : n + (w - n) ≡ w = omega arith in
    let P : ℕ → Type 0 = λ t. b * 2 ^ (w - n) < 2 ^ t in
    let below = subst P parts (shl_below b n (w - n) small) in
    let all = whole_small w p in
    omega (arith, below, all)

equal_test : (a b : ℕ) → a ≡ b → (a == b) ≡ true
equal_test a b e = grind (arith, nat_tests, e)

-- more first bits than are shared differ
most_at : (w x y n m : ℕ) (b : Bool) → (x / 2 ^ (w - suc n) == y / 2 ^ (w - suc n)) ≡ b → (shared w x y n < m → m ≤ n → x / 2 ^ (w - m) ≡ y / 2 ^ (w - m) → ⊥)
    → (if b then suc n else shared w x y n) < m → m ≤ suc n → x / 2 ^ (w - m) ≡ y / 2 ^ (w - m) → ⊥
most_at w x y n m true t h p q e = absurd (omega (arith, p, q))
most_at w x y n m false t h p q e = elim (cases_lt n m) [
  | inl above ↦ (
      let last : m ≡ suc n = omega (arith, above, q) in
      let P : ℕ → Type 0 = λ k. x / 2 ^ (w - k) ≡ y / 2 ^ (w - k) in
      true≢false (sym (equal_test (x / 2 ^ (w - suc n)) (y / 2 ^ (w - suc n)) (subst P last e)) ∙ t))
  | inr below ↦ h p below e
]

pub shared_most : (w x y n m : ℕ) → shared w x y n < m → m ≤ n → x / 2 ^ (w - m) ≡ y / 2 ^ (w - m) → ⊥
shared_most w x y zero m p q e = absurd (omega (arith, p, q))
shared_most w x y (suc n) m p q e = most_at w x y n m (x / 2 ^ (w - suc n) == y / 2 ^ (w - suc n)) refl (shared_most w x y n m) p q e

other_test : (a b : ℕ) → (a ≡ b → ⊥) → (t : Bool) → (a == b) ≡ t → t ≡ false
other_test a b h true e = let same : a ≡ b = grind (arith, nat_tests, e) in absurd (h same)
other_test a b h false e = refl

-- the search for what is shared, from the limit down
pub shared_found : (w x y n : ℕ) → 0 < n → x / 2 ^ (w - n) ≡ y / 2 ^ (w - n) → shared w x y n ≡ n
shared_found w x y zero pos e = absurd (omega (arith, pos))
shared_found w x y (suc n) pos e = rw (equal_test (x / 2 ^ (w - suc n)) (y / 2 ^ (w - suc n)) e) refl

missed_at : (w x y n : ℕ) (t : Bool) → t ≡ false → (if t then suc n else shared w x y n) ≡ shared w x y n
missed_at w x y n true e = absurd (true≢false e)
missed_at w x y n false e = refl

pub shared_missed : (w x y m n : ℕ) → m ≡ suc n → (x / 2 ^ (w - m) ≡ y / 2 ^ (w - m) → ⊥) → shared w x y m ≡ shared w x y n
shared_missed w x y m n is other =
    let P : ℕ → Type 0 = λ t. x / 2 ^ (w - t) ≡ y / 2 ^ (w - t) → ⊥ in
    ap (shared w x y) is ∙ missed_at w x y n (x / 2 ^ (w - suc n) == y / 2 ^ (w - suc n)) (other_test (x / 2 ^ (w - suc n)) (y / 2 ^ (w - suc n)) (subst P is other) (x / 2 ^ (w - suc n) == y / 2 ^ (w - suc n)) refl)
