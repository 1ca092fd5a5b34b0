-- Keys as bytes: each has one spelling.
use Rattle.std.specs.Prelude.{◌≡◌, ◌≢◌, ℕ, ◌+◌, ◌*◌, ◌≤◌, Bool, true, false, ◌&&◌, ℤ, pos, int_le, ◌≤ℤ◌, ◌+ℤ◌, List, [], ◌∷◌, ◌++◌, length, take, drop, Option, Some, None, refl}
use Rattle.std.specs.List.{flat_map, AllByRecursion}
use Rattle.std.proofs.Common.{ap, ap₂, arith, length-append}
use Rattle.std.proofs.lemmas.Int.{ints}
use Rattle.gx_bytes.specs.Varints.{varint_bytes}
use Rattle.gx_bytes.proofs.Spellings.{varint_is, varint_short, varints_same}
use Rattle.gx_intarr.specs.Arrays.{least, greatest, IsInt4, number_bytes}
use Rattle.gx_intarr.proofs.EncodingLemmas.{one_encoding}
use Rattle.gx_class_intset.specs.declared.interval.Interval.{Interval}
use Rattle.gx_class_intset.specs.declared.interval.IntKey.{IntKey}
use Rattle.gx_class_intset.specs.Intervals.{AreAbove, AreIntervals, rises}
use Rattle.gx_class_intset.specs.IntervalLaws.{le_of, of_le, and_true, and_both}
use Rattle.gx_class_intset.specs.Keys.{IsLimit, IsKey}

-- an interval: its least and its greatest number, four bytes each
abbrev pub interval_bytes : Interval → List ℕ
interval_bytes i = number_bytes i.least ++ number_bytes i.greatest

abbrev pub pieces : List Interval → List ℕ
pieces is = flat_map interval_bytes is

-- how many there are, and each of them
abbrev pub listed : List Interval → List ℕ
listed is = varint_bytes (length is) ++ pieces is

-- a byte 1 where the key is exact, else 0
abbrev pub flag : Bool → ℕ
flag true = 1
flag false = 0

abbrev pub spelled : IntKey → List ℕ
spelled k = flag k.exact ∷ listed k.intervals

-- the valid key with these bytes, or none where they spell no key
abbrev pub ReadsTo : ℕ → List ℕ → Option IntKey → Type 0
ReadsTo r bytes None = (key : IntKey) → IsKey r key → bytes ≢ spelled key
ReadsTo r bytes (Some key) = IsKey r key × (bytes ≡ spelled key)

-- intervals of numbers of int4
abbrev pub AreInt4s : List Interval → Type 0
AreInt4s is = AllByRecursion (λ i. IsInt4 i.least × IsInt4 i.greatest) is

pub int4s_of : (is : List Interval) (f : ℤ) → least ≤ℤ f → AreAbove f is → AreInt4s is
int4s_of [] f low a = tt
int4s_of (i ∷ is) f low a =
    let from = a.0 in
    let some = a.1 in
    let high = a.2 in
    let first : least ≤ℤ i.least = omega (arith, ints) in
    let second : i.least ≤ℤ greatest = omega (arith, ints) in
    let third : least ≤ℤ i.greatest = omega (arith, ints) in
    let behind : least ≤ℤ (i.greatest +ℤ pos 1) = omega (arith, ints) in
    (((first, second), (third, high)), int4s_of is (i.greatest +ℤ pos 1) behind a.3)

least_self : least ≤ℤ least
least_self = omega (arith, ints)

pub key_int4s : (is : List Interval) → AreIntervals is → AreInt4s is
key_int4s is a = int4s_of is least least_self a

-- The test that they rise.
pub rises_to : (is : List Interval) (f : ℤ) → AreAbove f is → rises f is ≡ true
rises_to [] f a = refl
rises_to (i ∷ is) f a =
    and_true (int_le f i.least && int_le i.least i.greatest) (rises (i.greatest +ℤ pos 1) is) (and_true (int_le f i.least) (int_le i.least i.greatest) (of_le f i.least a.0) (of_le i.least i.greatest a.1))
    (rises_to is (i.greatest +ℤ pos 1) a.3)

pub rises_from : (is : List Interval) (f : ℤ) → AreInt4s is → rises f is ≡ true → AreAbove f is
rises_from [] f p e = tt
rises_from (i ∷ is) f p e =
    let all = and_both (int_le f i.least && int_le i.least i.greatest) (rises (i.greatest +ℤ pos 1) is) e in
    let both = and_both (int_le f i.least) (int_le i.least i.greatest) all.0 in
    (le_of f i.least both.0, le_of i.least i.greatest both.1, p.0.1.1, rises_from is (i.greatest +ℤ pos 1) p.1 all.1)

-- A number has its own bytes, and so have intervals.
number_same : (m n : ℤ) → IsInt4 m → IsInt4 n → number_bytes m ≡ number_bytes n → m ≡ n
number_same m n p q h =
    let e : m ∷ [] ≡ n ∷ [] =
    one_encoding (1 ∷ number_bytes m) (m ∷ []) (n ∷ []) (p, tt) (q, tt) (1 ∷ [], (omega arith, refl), refl) (1 ∷ [], (omega arith, refl), ap (λ (x : List ℕ). 1 ∷ x) h) in
    cc e

length-piece : (i : Interval) (rest : List ℕ) → length (interval_bytes i ++ rest) ≡ length rest + 8
length-piece i rest = omega arith

pub length-pieces : (is : List Interval) → length (pieces is) ≡ length is * 8
length-pieces [] = refl
length-pieces (i ∷ is) = omega (arith, length-piece i (pieces is), length-pieces is)

same_interval_is : (i j : Interval) → i.least ≡ j.least → i.greatest ≡ j.greatest → i ≡ j
same_interval_is i j p q = λ t. record { least = p t; greatest = q t }

pub one_list : (a b : List Interval) → AreInt4s a → AreInt4s b → pieces a ≡ pieces b → a ≡ b
one_list [] [] p q e = refl
one_list [] (j ∷ b) p q e = absurd (omega (arith, ap length e, length-piece j (pieces b)))
one_list (i ∷ a) [] p q e = absurd (omega (arith, ap length e, length-piece i (pieces a)))
one_list (i ∷ a) (j ∷ b) p q e =
    let low : number_bytes i.least ≡ number_bytes j.least = ap (take 4) e in
    let high : number_bytes i.greatest ≡ number_bytes j.greatest = ap (λ (x : List ℕ). take 4 (drop 4 x)) e in
    let rest : pieces a ≡ pieces b = ap (drop 8) e in
    ap₂ (λ (k : Interval) (ks : List Interval). k ∷ ks)
    (same_interval_is i j (number_same i.least j.least p.0.0 q.0.0 low) (number_same i.greatest j.greatest p.0.1 q.0.1 high)) (one_list a b p.1 q.1 rest)

flag_same : (a b : Bool) → flag a ≡ flag b → a ≡ b
flag_same true true e = refl
flag_same true false e = absurd (omega (arith, e))
flag_same false true e = absurd (omega (arith, e))
flag_same false false e = refl

pub one_spelling : (r : ℕ) (a b : IntKey) → IsKey r a → IsKey r b → spelled a ≡ spelled b → a ≡ b
one_spelling r a b p q e =
    let head : flag a.exact ≡ flag b.exact = cc e in
    let tail : listed a.intervals ≡ listed b.intervals = cc e in
    let exact : a.exact ≡ b.exact = flag_same a.exact b.exact head in
    let same = varints_same (varint_bytes (length a.intervals)) (varint_bytes (length b.intervals)) (pieces a.intervals) (pieces b.intervals) (length a.intervals) (length b.intervals)
    (varint_is (length a.intervals)) (varint_is (length b.intervals)) tail in
    let intervals : a.intervals ≡ b.intervals = one_list a.intervals b.intervals (key_int4s a.intervals p.rise) (key_int4s b.intervals q.rise) same.2 in
    λ t. record { exact = exact t; intervals = intervals t }

pub short_spelling : (r : ℕ) (k : IntKey) → IsLimit r → IsKey r k → length (spelled k) ≤ 1900
short_spelling r k limit p =
    let few = p.few in
    let count = varint_short (length k.intervals) (varint_bytes (length k.intervals)) (omega (arith, limit.1, few)) (varint_is (length k.intervals)) in
    omega (arith, count, few, limit.1, length-append (varint_bytes (length k.intervals)) (pieces k.intervals), length-pieces k.intervals)
