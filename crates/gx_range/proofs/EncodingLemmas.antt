-- The bytes of a range are its own.
use Rattle.std.proofs.Common.{◌≡◌, ◌≢◌, ℕ, Bool, true, false, ◌&&◌, List, [], ◌∷◌, ◌++◌, take, drop, Option, Some, None, is_some, refl, sym, ◌∙◌, ap, subst, arith, true≢false, ℤ, ◌≤ℤ◌, FitsSigned, w64, of_z, to_z, to_z-of_z, append-nil, nat_eq, ◌/◌, ◌%◌}
use Rattle.std.proofs.Math.Facts.{Fits-of_z}
use Rattle.std.specs.Prelude.{int_le}
use Rattle.std.specs.Int.{to_le_bytes, from_le_bytes}
use Rattle.std.proofs.lemmas.Int.{ints}
use Rattle.std.proofs.lemmas.Nat.{from_le_bytes-to_le_bytes_8}
use borrow.Author.Differences.{le-true, fits_in}
use Rattle.gx_range.specs.declared.range.Range.{Range}
use Rattle.gx_range.specs.declared.range.Range.TheVariants.{Empty, Span}
use Rattle.gx_range.specs.declared.range.RangeKind.{RangeKind}
use Rattle.gx_range.specs.declared.range.RangeKind.TheVariants.{Int4, Int8, Date}
use Rattle.gx_range.specs.Values.{least, greatest, fits, rises, IsRange}
use Rattle.gx_range.specs.Encodings.{flags, bound_bytes, encoded}

pub both_true : (a b : Bool) → (a && b) ≡ true → (a ≡ true) × (b ≡ true)
both_true true true e = (refl, refl)
both_true true false e = absurd (true≢false (sym e))
both_true false b e = absurd (true≢false (sym e))

low_flag : (a b : Bool) → nat_eq (flags a b % 4) 2 ≡ a
low_flag true true = refl
low_flag true false = refl
low_flag false true = refl
low_flag false false = refl

high_flag : (a b : Bool) → nat_eq (flags a b / 4) 1 ≡ b
high_flag true true = refl
high_flag true false = refl
high_flag false true = refl
high_flag false false = refl

flags_same : (a b c d : Bool) → flags a b ≡ flags c d → (a ≡ c) × (b ≡ d)
flags_same a b c d e = (
  sym (low_flag a b) ∙ ap (λ k. nat_eq (k % 4) 2) e ∙ low_flag c d,
  sym (high_flag a b) ∙ ap (λ k. nat_eq (k / 4) 1) e ∙ high_flag c d,
)

-- a bound of 64 bits
wide_fits : (n : ℤ) → fits Int8 (Some n) ≡ true → FitsSigned w64 n
wide_fits n h =
    let both = both_true (int_le (least Int8) n) (int_le n (greatest Int8)) h in
    let low = le-true (least Int8) n both.0 in
    let high = le-true n (greatest Int8) both.1 in
    fits_in w64 n (omega arith)

eight_same : (m n : ℤ) → FitsSigned w64 m → FitsSigned w64 n → to_le_bytes w64 (of_z w64 m) ≡ to_le_bytes w64 (of_z w64 n) → m ≡ n
eight_same m n fm fn e =
    let a = Fits-of_z fm in
    let b = Fits-of_z fn in
    let bits : of_z w64 m ≡ of_z w64 n =
    sym (from_le_bytes-to_le_bytes_8 (of_z w64 m) (omega (arith, a))) ∙ ap (from_le_bytes w64) e ∙ from_le_bytes-to_le_bytes_8 (of_z w64 n) (omega (arith, b)) in
    sym (to_z-of_z fm) ∙ ap (to_z w64) bits ∙ to_z-of_z fn

one_bound_bytes : (a b : Option ℤ) (x y : List ℕ) → fits Int8 a ≡ true → fits Int8 b ≡ true → is_some a ≡ is_some b → bound_bytes a ++ x ≡ bound_bytes b ++ y → (a ≡ b) × (x ≡ y)
one_bound_bytes None None x y fa fb s e = (refl, e)
one_bound_bytes None (Some n) x y fa fb s e = absurd (true≢false (sym s))
one_bound_bytes (Some m) None x y fa fb s e = absurd (true≢false s)
one_bound_bytes (Some m) (Some n) x y fa fb s e =
    let front : to_le_bytes w64 (of_z w64 m) ≡ to_le_bytes w64 (of_z w64 n) = ap (take 8) e in
    let rest : x ≡ y = ap (drop 8) e in
    (ap Some (eight_same m n (wide_fits m fa) (wide_fits n fb) front), rest)

pub same_spans : (l u m v : Option ℤ) → fits Int8 l ≡ true → fits Int8 u ≡ true → fits Int8 m ≡ true → fits Int8 v ≡ true → encoded (Span l u) ≡ encoded (Span m v) → (l ≡ m) × (u ≡ v)
same_spans l u m v fl fu fm fv e =
    let head : flags (is_some l) (is_some u) ≡ flags (is_some m) (is_some v) = cc e in
    let tail : bound_bytes l ++ bound_bytes u ≡ bound_bytes m ++ bound_bytes v = cc e in
    let same = flags_same (is_some l) (is_some u) (is_some m) (is_some v) head in
    let lower = one_bound_bytes l m (bound_bytes u) (bound_bytes v) fl fm same.0 tail in
    let upper = one_bound_bytes u v [] [] fu fv same.1 (ap (λ (t : List ℕ). t ++ []) lower.1) in
    (lower.0, upper.0)

wider : (low high n : ℤ) → least Int8 ≤ℤ low → high ≤ℤ greatest Int8 → (int_le low n && int_le n high) ≡ true → fits Int8 (Some n) ≡ true
wider low high n below above h =
    let both = both_true (int_le low n) (int_le n high) h in
    let from = le-true low n both.0 in
    let to = le-true n high both.1 in
    let first : int_le (least Int8) n ≡ true = grind (arith, ints) in
    let second : int_le n (greatest Int8) ≡ true = grind (arith, ints) in
    rw (first, second) refl

-- a bound of each type is one of int8range
pub fits_wide : (kind : RangeKind) (b : Option ℤ) → fits kind b ≡ true → fits Int8 b ≡ true
fits_wide kind None h = refl
fits_wide Int4 (Some n) h = wider (least Int4) (greatest Int4) n (omega (arith, ints)) (omega (arith, ints)) h
fits_wide Int8 (Some n) h = h
fits_wide Date (Some n) h = wider (least Date) (greatest Date) n (omega (arith, ints)) (omega (arith, ints)) h

not_one : (a b : Bool) → flags a b ≡ 1 → ⊥
not_one true true e = omega (arith, e)
not_one true false e = omega (arith, e)
not_one false true e = omega (arith, e)
not_one false false e = omega (arith, e)

empty_no_span : (l u : Option ℤ) → 1 ∷ [] ≡ encoded (Span l u) → ⊥
empty_no_span l u e = let head : 1 ≡ flags (is_some l) (is_some u) = cc e in not_one (is_some l) (is_some u) (sym head)

pub one_encoding : (kind : RangeKind) (a b : Range) → IsRange kind a → IsRange kind b → encoded a ≡ encoded b → a ≡ b
one_encoding kind Empty Empty p q e = refl
one_encoding kind Empty (Span l u) p q e = absurd (empty_no_span l u e)
one_encoding kind (Span l u) Empty p q e = absurd (empty_no_span l u (sym e))
one_encoding kind (Span l u) (Span m v) p q e =
    let same = same_spans l u m v (fits_wide kind l p.0) (fits_wide kind u p.1) (fits_wide kind m q.0) (fits_wide kind v q.1) e in
    ap (λ t. Span t u) same.0 ∙ ap (Span m) same.1

-- where nothing is left for the upper bound, no two bounds have the bytes
pub no_upper : (bytes behind : List ℕ) (lower upper : Bool) (l : Option ℤ) → is_some l ≡ lower → bytes ≡ bound_bytes l ++ behind → fits Int8 l ≡ true
    → ((b : Option ℤ) (rest : List ℕ) → is_some b ≡ upper → behind ≡ bound_bytes b ++ rest → ⊥)
    → (m u : Option ℤ) → is_some m ≡ lower → is_some u ≡ upper → fits Int8 m ≡ true → bytes ≡ bound_bytes m ++ bound_bytes u → ⊥
no_upper bytes behind lower upper l has parts fl none m u hm hu fm e =
    let same = one_bound_bytes l m behind (bound_bytes u) fl fm (has ∙ sym hm) (sym parts ∙ e) in
    none u [] hu (same.1 ∙ sym (append-nil (bound_bytes u)))

all_true : (kind : RangeKind) (l u : Option ℤ) → IsRange kind (Span l u) → (fits kind l && (fits kind u && rises l u)) ≡ true
all_true kind l u p = rw (p.0, p.1, p.2) refl

-- where the two bounds that the bytes give are no span of the type, no range of the type has the bytes
pub not_span : (kind : RangeKind) (l u : Option ℤ) (bytes : List ℕ) (b : Bool) → fits Int8 l ≡ true → fits Int8 u ≡ true → bytes ≡ encoded (Span l u)
    → b ≡ (fits kind l && (fits kind u && rises l u)) → b ≡ false → bytes ≢ 1 ∷ [] → (range : Range) → IsRange kind range → bytes ≡ encoded range → ⊥
not_span kind l u bytes b fl fu parts test isnt one Empty p e = one e
not_span kind l u bytes b fl fu parts test isnt one (Span m v) p e =
    let same = same_spans m v l u (fits_wide kind m p.0) (fits_wide kind v p.1) fl fu (sym e ∙ parts) in
    let P : Option ℤ → Type 0 = λ t. (fits kind t && (fits kind u && rises t u)) ≡ true in
    let Q : Option ℤ → Type 0 = λ t. (fits kind m && (fits kind t && rises m t)) ≡ true in
    let all : (fits kind l && (fits kind u && rises l u)) ≡ true = subst P same.0 (subst Q same.1 (all_true kind m v p)) in
    true≢false (sym all ∙ sym test ∙ isnt)
