-- A key has one spelling.
use Rattle.std.specs.Prelude.{◌≡◌, ℕ, ◌+◌, ◌/◌, ◌%◌, ◌^◌, ◌<◌, ◌≤◌, Bool, true, false, nat_lt, List, [], ◌∷◌, ◌++◌, length, take, drop, ℤ, if◌then◌else◌, refl, FitsSigned}
use Rattle.std.proofs.Common.{sym, ap, ap₂, ◌∙◌, arith, ltb-true, append_assoc, length-append, of_z, to_z, to_z-of_z, w32, w64}
use Rattle.std.proofs.Math.Facts.{Fits-of_z}
use Rattle.std.specs.Int.{w128, to_le_bytes, to_be_bytes, from_le_bytes, from_be_bytes}
use Rattle.std.proofs.lemmas.Int.{ints}
use Rattle.std.proofs.lemmas.Nat.{from_le_bytes-to_le_bytes_4, from_le_bytes-to_le_bytes_8}
use Rattle.uuid.proofs.OrderLemmas.{from_be_bytes-to_be_bytes_16}
use Rattle.gx_bytes.specs.Wholes.{IsWithin}
use Rattle.gx_bytes.specs.Days.{IsDateDay}
use Rattle.gx_scalar.specs.declared.scalar.ScalarKind.{ScalarKind}
use Rattle.gx_scalar.specs.Values.{least_int4, greatest_int4, least_int8, greatest_int8}
use Rattle.gx_class_scalar.specs.declared.key.Part.{Part}
use Rattle.gx_class_scalar.specs.declared.key.ScalarKey.{ScalarKey}
use Rattle.gx_class_scalar.specs.declared.key.ScalarKey.TheVariants.{Int4, Int8, Date, Uuid, Cut}
use Rattle.gx_class_scalar.specs.Keys.{IsPart, IsKey, size_bytes, flag_of, part_bytes, spelled}
use Rattle.gx_class_scalar.specs.Laws.{key_tag, same_tag}

pub fits4 : (n : ℤ) → IsWithin least_int4 greatest_int4 n → FitsSigned w32 n
fits4 n h = let low = h.0 in let high = h.1 in omega (arith, ints)

pub fits8 : (n : ℤ) → IsWithin least_int8 greatest_int8 n → FitsSigned w64 n
fits8 n h = let low = h.0 in let high = h.1 in omega (arith, ints)

pub date_fits : (n : ℤ) → IsDateDay n → FitsSigned w32 n
date_fits n h = let low = h.0 in let high = h.1 in omega (arith, ints)

pub four_same : (m n : ℤ) → FitsSigned w32 m → FitsSigned w32 n → to_le_bytes w32 (of_z w32 m) ≡ to_le_bytes w32 (of_z w32 n) → m ≡ n
four_same m n fm fn e =
    let a = Fits-of_z fm in
    let b = Fits-of_z fn in
    let bits : of_z w32 m ≡ of_z w32 n =
    sym (from_le_bytes-to_le_bytes_4 (of_z w32 m) (omega (arith, a))) ∙ ap (from_le_bytes w32) e ∙ from_le_bytes-to_le_bytes_4 (of_z w32 n) (omega (arith, b)) in
    sym (to_z-of_z fm) ∙ ap (to_z w32) bits ∙ to_z-of_z fn

pub eight_same : (m n : ℤ) → FitsSigned w64 m → FitsSigned w64 n → to_le_bytes w64 (of_z w64 m) ≡ to_le_bytes w64 (of_z w64 n) → m ≡ n
eight_same m n fm fn e =
    let a = Fits-of_z fm in
    let b = Fits-of_z fn in
    let bits : of_z w64 m ≡ of_z w64 n =
    sym (from_le_bytes-to_le_bytes_8 (of_z w64 m) (omega (arith, a))) ∙ ap (from_le_bytes w64) e ∙ from_le_bytes-to_le_bytes_8 (of_z w64 n) (omega (arith, b)) in
    sym (to_z-of_z fm) ∙ ap (to_z w64) bits ∙ to_z-of_z fn

pub sixteen_same : (m n : ℕ) → m < 2 ^ 128 → n < 2 ^ 128 → to_be_bytes w128 m ≡ to_be_bytes w128 n → m ≡ n
sixteen_same m n fm fn e = sym (from_be_bytes-to_be_bytes_16 m fm) ∙ ap (from_be_bytes w128) e ∙ from_be_bytes-to_be_bytes_16 n fn

pub same_front : (a b x y : List ℕ) → length a ≡ length b → a ++ x ≡ b ++ y → (a ≡ b) × (x ≡ y)
same_front [] [] x y l e = (refl, e)
same_front [] (b ∷ bs) x y l e = absurd (omega (arith, l))
same_front (a ∷ as') [] x y l e = absurd (omega (arith, l))
same_front (a ∷ as') (b ∷ bs) x y l e =
    let head : a ≡ b = cc e in
    let tail : as' ++ x ≡ bs ++ y = cc e in
    let rest = same_front as' bs x y (omega (arith, l)) tail in
    let lists : as' ≡ bs = rest.0 in
    (cc (head, lists), rest.1)

pub size_at : (n m : ℕ) (x y : List ℕ) (a b : Bool) → nat_lt n 128 ≡ a → nat_lt m 128 ≡ b → n ≤ 900 → m ≤ 900
    → (if a then n ∷ [] else (128 + n % 128) ∷ (n / 128) ∷ []) ++ x ≡ (if b then m ∷ [] else (128 + m % 128) ∷ (m / 128) ∷ []) ++ y → (n ≡ m) × (x ≡ y)
size_at n m x y true true ea eb fn fm e = (cc e, cc e)
size_at n m x y true false ea eb fn fm e =
    let head : n ≡ 128 + m % 128 = cc e in absurd (omega (arith, head, ltb-true n 128 ea))
size_at n m x y false true ea eb fn fm e =
    let head : 128 + n % 128 ≡ m = cc e in absurd (omega (arith, head, ltb-true m 128 eb))
size_at n m x y false false ea eb fn fm e =
    let head : 128 + n % 128 ≡ 128 + m % 128 = cc e in
    let next : n / 128 ≡ m / 128 = cc e in
    let rest : x ≡ y = cc e in
    (omega (arith, head, next), rest)

flag_same : (a b : Bool) → flag_of a ≡ flag_of b → a ≡ b
flag_same true true e = refl
flag_same true false e = absurd (omega (arith, e))
flag_same false true e = absurd (omega (arith, e))
flag_same false false e = refl

pub spread : (p : Part) (x : List ℕ) → part_bytes p ++ x ≡ size_bytes (length p.bytes) ++ (p.bytes ++ flag_of p.more ∷ x)
spread p x =
    append_assoc (size_bytes (length p.bytes)) (p.bytes ++ flag_of p.more ∷ []) x
    ∙ ap (λ (t : List ℕ). size_bytes (length p.bytes) ++ t) (append_assoc p.bytes (flag_of p.more ∷ []) x)

part_same : (p q : Part) → p.bytes ≡ q.bytes → p.more ≡ q.more → p ≡ q
part_same p q a b = λ i. record { bytes = a i; more = b i }

pub one_part : (p q : Part) (x y : List ℕ) → IsPart p → IsPart q → part_bytes p ++ x ≡ part_bytes q ++ y → (p ≡ q) × (x ≡ y)
one_part p q x y vp vq e =
    let parts = sym (spread p x) ∙ e ∙ spread q y in
    let sizes = size_at (length p.bytes) (length q.bytes) (p.bytes ++ flag_of p.more ∷ x) (q.bytes ++ flag_of q.more ∷ y) (nat_lt (length p.bytes) 128) (nat_lt (length q.bytes) 128) refl refl vp.size vq.size parts in
    let fronts = same_front p.bytes q.bytes (flag_of p.more ∷ x) (flag_of q.more ∷ y) sizes.0 sizes.1 in
    let flag : flag_of p.more ≡ flag_of q.more = cc fronts.1 in
    let rest : x ≡ y = cc fronts.1 in
    (part_same p q fronts.0 (flag_same p.more q.more flag), rest)

one_of : (kind : ScalarKind) (a b : ScalarKey) → key_tag a ≡ key_tag b → IsKey kind a → IsKey kind b → spelled a ≡ spelled b → a ≡ b
unfolding key_tag
one_of kind (Int4 a b) (Int4 c d) t p q e =
    ap₂ Int4 (four_same a c (fits4 a p.1) (fits4 c q.1) (ap (take 4) e)) (four_same b d (fits4 b p.2) (fits4 d q.2) (ap (drop 4) e))
one_of kind (Int8 a b) (Int8 c d) t p q e =
    ap₂ Int8 (eight_same a c (fits8 a p.1) (fits8 c q.1) (ap (take 8) e)) (eight_same b d (fits8 b p.2) (fits8 d q.2) (ap (drop 8) e))
one_of kind (Date a b) (Date c d) t p q e =
    ap₂ Date (four_same a c (date_fits a p.1) (date_fits c q.1) (ap (take 4) e)) (four_same b d (date_fits b p.2) (date_fits d q.2) (ap (drop 4) e))
one_of kind (Uuid a b) (Uuid c d) t p q e =
    ap₂ Uuid (sixteen_same a c p.1 q.1 (ap (take 16) e)) (sixteen_same b d p.2 q.2 (ap (drop 16) e))
one_of kind (Cut a b) (Cut c d) t p q e =
    let low = one_part a c (part_bytes b) (part_bytes d) p.1 q.1 e in
    let high = one_part b d [] [] p.2 q.2 (ap (λ (s : List ℕ). s ++ []) low.1) in
    ap₂ Cut low.0 high.0
one_of kind a b t p q e = absurd (omega (arith, t))

pub one_spelling : (kind : ScalarKind) (a b : ScalarKey) → IsKey kind a → IsKey kind b → spelled a ≡ spelled b → a ≡ b
one_spelling kind a b p q e = one_of kind a b (same_tag kind a b p q) p q e

size_short : (n : ℕ) (b : Bool) → length (if b then n ∷ [] else (128 + n % 128) ∷ (n / 128) ∷ []) ≤ 2
size_short n true = omega arith
size_short n false = omega arith

part_short : (p : Part) → IsPart p → length (part_bytes p) ≤ 903
part_short p v =
    let size = size_short (length p.bytes) (nat_lt (length p.bytes) 128) in
    omega (arith, length-append (size_bytes (length p.bytes)) (p.bytes ++ flag_of p.more ∷ []), length-append p.bytes (flag_of p.more ∷ []), v.size)

-- a spelling has at most 1,900 bytes
pub short_spelling : (kind : ScalarKind) (k : ScalarKey) → IsKey kind k → length (spelled k) ≤ 1900
short_spelling kind (Int4 a b) p = omega arith
short_spelling kind (Int8 a b) p = omega arith
short_spelling kind (Date a b) p = omega arith
short_spelling kind (Uuid a b) p = omega arith
short_spelling kind (Cut a b) p = omega (arith, length-append (part_bytes a) (part_bytes b), part_short a p.1, part_short b p.2)
