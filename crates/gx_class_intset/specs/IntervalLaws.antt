-- What operations on lists of intervals keep.
use Rattle.std.specs.Prelude.{◌≡◌, ℕ, zero, suc, ◌+◌, ◌-◌, ◌<◌, ◌≤◌, nat_lt, Bool, true, false, ◌&&◌, ◌||◌, ℤ, pos, int_le, int_lt, ◌≤ℤ◌, ◌<ℤ◌, ◌+ℤ◌, List, [], ◌∷◌, length, slice_index_or, if◌then◌else◌, refl}
use Rattle.std.proofs.Common.{sym, ap, ◌∙◌, arith, true≢false}
use Rattle.std.proofs.lemmas.Int.{ints, clamps}
use Rattle.gx_intarr.specs.Arrays.{greatest}
use Rattle.gx_class_intset.specs.declared.interval.Interval.{Interval}
use Rattle.gx_class_intset.specs.Intervals.{within, has, AreAbove, hull, put, together, gaps, first_least, across, join_at, join_closest, joins, reduced}

-- tests of numbers
pub le_of : (m n : ℤ) → int_le m n ≡ true → m ≤ℤ n
le_of m n e = grind (arith, ints)

pub of_le : (m n : ℤ) → m ≤ℤ n → int_le m n ≡ true
of_le m n h = grind (arith, ints)

pub lt_of : (m n : ℤ) → int_lt m n ≡ true → m <ℤ n
lt_of m n e = grind (arith, ints)

pub ge_of : (m n : ℤ) → int_lt m n ≡ false → n ≤ℤ m
ge_of m n e = grind (arith, ints)

pub and_true : (a b : Bool) → a ≡ true → b ≡ true → (a && b) ≡ true
and_true a b p q = rw (p, q) refl

pub and_both : (a b : Bool) → (a && b) ≡ true → (a ≡ true) × (b ≡ true)
and_both true b e = (refl, e)
and_both false b e = absurd (true≢false (sym e))

pub or_left : (a b : Bool) → a ≡ true → (a || b) ≡ true
or_left a b p = rw p refl

pub or_right : (a b : Bool) → b ≡ true → (a || b) ≡ true
or_right true b p = refl
or_right false b p = p

-- a number that the first interval has, or another one
pub or_cases : (a b : Bool) (P : Type 0) → (a ≡ true → P) → (b ≡ true → P) → (a || b) ≡ true → P
or_cases true b P f g e = f refl
or_cases false b P f g e = g e

pub within_of : (n : ℤ) (i : Interval) → within n i ≡ true → (i.least ≤ℤ n) × (n ≤ℤ i.greatest)
within_of n i e =
    let both = and_both (int_le i.least n) (int_le n i.greatest) e in
    (le_of i.least n both.0, le_of n i.greatest both.1)

pub of_within : (n : ℤ) (i : Interval) → i.least ≤ℤ n → n ≤ℤ i.greatest → within n i ≡ true
of_within n i p q = and_true (int_le i.least n) (int_le n i.greatest) (of_le i.least n p) (of_le n i.greatest q)

-- a lower floor will do
pub lower_floor : (f g : ℤ) (is : List Interval) → f ≤ℤ g → AreAbove g is → AreAbove f is
lower_floor f g [] h a = tt
lower_floor f g (i ∷ is) h a = (let low = a.0 in omega (arith, ints), a.1, a.2, a.3)

-- The least interval over two.
hull_least : (i j : Interval) (f : ℤ) → f ≤ℤ i.least → f ≤ℤ j.least → f ≤ℤ (hull i j).least
hull_least i j f p q = omega (arith, ints, clamps)

hull_some : (i j : Interval) → i.least ≤ℤ i.greatest → (hull i j).least ≤ℤ (hull i j).greatest
hull_some i j p = omega (arith, ints, clamps)

hull_greatest : (i j : Interval) (g : ℤ) → i.greatest ≤ℤ g → j.greatest ≤ℤ g → (hull i j).greatest ≤ℤ g
hull_greatest i j g p q = omega (arith, ints, clamps)

hull_from : (n : ℤ) (i j : Interval) → i.least ≤ℤ n → (hull i j).least ≤ℤ n
hull_from n i j p = omega (arith, ints, clamps)

hull_to : (n : ℤ) (i j : Interval) → n ≤ℤ i.greatest → n ≤ℤ (hull i j).greatest
hull_to n i j p = omega (arith, ints, clamps)

hull_from_other : (n : ℤ) (i j : Interval) → j.least ≤ℤ n → (hull i j).least ≤ℤ n
hull_from_other n i j p = omega (arith, ints, clamps)

hull_to_other : (n : ℤ) (i j : Interval) → n ≤ℤ j.greatest → n ≤ℤ (hull i j).greatest
hull_to_other n i j p = omega (arith, ints, clamps)

hull_left : (n : ℤ) (i j : Interval) → within n i ≡ true → within n (hull i j) ≡ true
hull_left n i j e = let w = within_of n i e in of_within n (hull i j) (hull_from n i j w.0) (hull_to n i j w.1)

hull_right : (n : ℤ) (i j : Interval) → within n j ≡ true → within n (hull i j) ≡ true
hull_right n i j e = let w = within_of n j e in of_within n (hull i j) (hull_from_other n i j w.0) (hull_to_other n i j w.1)

-- One more interval: they still rise and are disjoint.
behind : (m n : ℤ) → m <ℤ n → (m +ℤ pos 1) ≤ℤ n
behind m n h = omega (arith, ints)

from_behind : (f m : ℤ) → f ≤ℤ m → f ≤ℤ (m +ℤ pos 1)
from_behind f m h = omega (arith, ints)

le_trans : (a b c : ℤ) → a ≤ℤ b → b ≤ℤ c → a ≤ℤ c
le_trans a b c p q = omega (arith, ints)

put_at : (f : ℤ) (i j : Interval) (js : List Interval) (b c : Bool) → int_lt i.greatest j.least ≡ b → int_lt j.greatest i.least ≡ c
    → ((g : ℤ) (k : Interval) → AreAbove g js → g ≤ℤ k.least → k.least ≤ℤ k.greatest → k.greatest ≤ℤ greatest → AreAbove g (put k js))
    → AreAbove f (j ∷ js) → f ≤ℤ i.least → i.least ≤ℤ i.greatest → i.greatest ≤ℤ greatest
    → AreAbove f (if b then i ∷ j ∷ js else (if c then j ∷ put i js else put (hull i j) js))
put_at f i j js true c p q more a low some high = (low, some, high, (behind i.greatest j.least (lt_of i.greatest j.least p), a.1, a.2, a.3))
put_at f i j js false true p q more a low some high = (a.0, a.1, a.2, more (j.greatest +ℤ pos 1) i a.3 (behind j.greatest i.least (lt_of j.greatest i.least q)) some high)
put_at f i j js false false p q more a low some high =
    more f (hull i j) (lower_floor f (j.greatest +ℤ pos 1) js (from_behind f j.greatest (le_trans f j.least j.greatest a.0 a.1)) a.3)
    (hull_least i j f low a.0) (hull_some i j some) (hull_greatest i j greatest high a.2)

pub put_above : (is : List Interval) (f : ℤ) (i : Interval) → AreAbove f is → f ≤ℤ i.least → i.least ≤ℤ i.greatest → i.greatest ≤ℤ greatest → AreAbove f (put i is)
put_above [] f i a low some high = (low, some, high, tt)
put_above (j ∷ js) f i a low some high =
    put_at f i j js (int_lt i.greatest j.least) (int_lt j.greatest i.least) refl refl (λ g k. put_above js g k) a low some high

-- They have its numbers, and what they had.
put_new_at : (n : ℤ) (i j : Interval) (js : List Interval) (b c : Bool) → ((k : Interval) → within n k ≡ true → has (put k js) n ≡ true) → within n i ≡ true
    → has (if b then i ∷ j ∷ js else (if c then j ∷ put i js else put (hull i j) js)) n ≡ true
put_new_at n i j js true c more e = or_left (within n i) (has (j ∷ js) n) e
put_new_at n i j js false true more e = or_right (within n j) (has (put i js) n) (more i e)
put_new_at n i j js false false more e = more (hull i j) (hull_left n i j e)

pub put_new : (is : List Interval) (n : ℤ) (i : Interval) → within n i ≡ true → has (put i is) n ≡ true
put_new [] n i e = or_left (within n i) false e
put_new (j ∷ js) n i e = put_new_at n i j js (int_lt i.greatest j.least) (int_lt j.greatest i.least) (λ k. put_new js n k) e

put_old_at : (n : ℤ) (i j : Interval) (js : List Interval) (b c : Bool) → ((k : Interval) → has js n ≡ true → has (put k js) n ≡ true) → has (j ∷ js) n ≡ true
    → has (if b then i ∷ j ∷ js else (if c then j ∷ put i js else put (hull i j) js)) n ≡ true
put_old_at n i j js true c more e = or_right (within n i) (has (j ∷ js) n) e
put_old_at n i j js false true more e =
    or_cases (within n j) (has js n) (has (j ∷ put i js) n ≡ true) (λ here. or_left (within n j) (has (put i js) n) here) (λ there. or_right (within n j) (has (put i js) n) (more i there)) e
put_old_at n i j js false false more e =
    or_cases (within n j) (has js n) (has (put (hull i j) js) n ≡ true) (λ here. put_new js n (hull i j) (hull_right n i j here)) (λ there. more (hull i j) there) e

pub put_old : (is : List Interval) (n : ℤ) (i : Interval) → has is n ≡ true → has (put i is) n ≡ true
put_old [] n i e = absurd (true≢false (sym e))
put_old (j ∷ js) n i e = put_old_at n i j js (int_lt i.greatest j.least) (int_lt j.greatest i.least) (λ k. put_old js n k) e

-- Two lists together.
pub together_above : (b a : List Interval) (f : ℤ) → AreAbove f a → AreAbove f b → AreAbove f (together a b)
together_above [] a f p q = p
together_above (i ∷ is) a f p q =
    together_above is (put i a) f (put_above a f i p q.0 q.1 q.2) (lower_floor f (i.greatest +ℤ pos 1) is (from_behind f i.greatest (le_trans f i.least i.greatest q.0 q.1)) q.3)

pub together_left : (b a : List Interval) (n : ℤ) → has a n ≡ true → has (together a b) n ≡ true
together_left [] a n e = e
together_left (i ∷ is) a n e = together_left is (put i a) n (put_old a n i e)

pub together_right : (b a : List Interval) (n : ℤ) → has b n ≡ true → has (together a b) n ≡ true
together_right [] a n e = absurd (true≢false (sym e))
together_right (i ∷ is) a n e =
    or_cases (within n i) (has is n) (has (together (put i a) is) n ≡ true) (λ here. together_left is (put i a) n (put_new a n i here)) (λ there. together_right is (put i a) n there) e

-- No number is added: overlapping intervals have those of their hull.
gt_of : (m n : ℤ) → int_le m n ≡ false → n <ℤ m
gt_of m n e = grind (arith, ints)

hull_other : (n : ℤ) (i j : Interval) (b : Bool) → int_le i.least n ≡ b → (b && int_le n i.greatest) ≡ false → j.least ≤ℤ i.greatest → i.least ≤ℤ j.greatest → (hull i j).least ≤ℤ n
    → n ≤ℤ (hull i j).greatest → (j.least ≤ℤ n) × (n ≤ℤ j.greatest)
hull_other n i j true t e p q low high =
    let from = le_of i.least n t in
    let past = gt_of n i.greatest e in
    (omega (arith, ints, clamps), omega (arith, ints, clamps))
hull_other n i j false t e p q low high =
    let before = gt_of i.least n t in
    (omega (arith, ints, clamps), omega (arith, ints, clamps))

or_other : (a b : Bool) → (a ≡ false → b ≡ true) → (a || b) ≡ true
or_other true b f = refl
or_other false b f = f refl

hull_only : (n : ℤ) (i j : Interval) → int_lt i.greatest j.least ≡ false → int_lt j.greatest i.least ≡ false → within n (hull i j) ≡ true → (within n i || within n j) ≡ true
hull_only n i j p q e =
    let w = within_of n (hull i j) e in
    or_other (within n i) (within n j)
    (λ out. let at = hull_other n i j (int_le i.least n) refl out (ge_of i.greatest j.least p) (ge_of j.greatest i.least q) w.0 w.1 in of_within n j at.0 at.1)

both_ways : (a b : Bool) → (a ≡ true → b ≡ true) → (b ≡ true → a ≡ true) → a ≡ b
both_ways true b f g = sym (f refl)
both_ways false true f g = g refl
both_ways false false f g = refl

hull_has : (n : ℤ) (i j : Interval) → int_lt i.greatest j.least ≡ false → int_lt j.greatest i.least ≡ false → within n (hull i j) ≡ (within n i || within n j)
hull_has n i j p q =
    both_ways (within n (hull i j)) (within n i || within n j) (hull_only n i j p q)
    (or_cases (within n i) (within n j) (within n (hull i j) ≡ true) (hull_left n i j) (hull_right n i j))

or_swap : (a b c : Bool) → (a || (b || c)) ≡ (b || (a || c))
or_swap true true c = refl
or_swap true false c = refl
or_swap false b c = refl

or_assoc : (a b c : Bool) → ((a || b) || c) ≡ (a || (b || c))
or_assoc true b c = refl
or_assoc false b c = refl

put_has_at : (n : ℤ) (i j : Interval) (js : List Interval) (b c : Bool) → int_lt i.greatest j.least ≡ b → int_lt j.greatest i.least ≡ c
    → ((k : Interval) → has (put k js) n ≡ (within n k || has js n)) → has (if b then i ∷ j ∷ js else (if c then j ∷ put i js else put (hull i j) js)) n ≡ (within n i || has (j ∷ js) n)
put_has_at n i j js true c p q more = refl
put_has_at n i j js false true p q more = ap (λ t. within n j || t) (more i) ∙ or_swap (within n j) (within n i) (has js n)
put_has_at n i j js false false p q more =
    more (hull i j) ∙ ap (λ t. t || has js n) (hull_has n i j p q) ∙ or_assoc (within n i) (within n j) (has js n)

put_has : (is : List Interval) (n : ℤ) (i : Interval) → has (put i is) n ≡ (within n i || has is n)
put_has [] n i = refl
put_has (j ∷ js) n i = put_has_at n i j js (int_lt i.greatest j.least) (int_lt j.greatest i.least) refl refl (put_has js n)

or_none : (a : Bool) → a ≡ (a || false)
or_none true = refl
or_none false = refl

together_step : (a b c : Bool) → ((a || b) || c) ≡ (b || (a || c))
together_step a b c = or_assoc a b c ∙ or_swap a b c

pub together_has : (b a : List Interval) (n : ℤ) → has (together a b) n ≡ (has a n || has b n)
together_has [] a n = or_none (has a n)
together_has (i ∷ is) a n =
    together_has is (put i a) n ∙ ap (λ t. t || has is n) (put_has a n i) ∙ together_step (within n i) (has a n) (has is n)

-- Neighbours joined: they still rise and are disjoint, have what they had, and are one less.
pub join_above : (is : List Interval) (k : ℕ) (f : ℤ) → AreAbove f is → AreAbove f (join_at k is)
join_above [] k f a = tt
join_above (i ∷ []) k f a = a
join_above (i ∷ j ∷ js) zero f a = (a.0, let p = a.1 in let q = a.3.0 in let r = a.3.1 in omega (arith, ints), a.3.2, a.3.3)
join_above (i ∷ j ∷ js) (suc k) f a = (a.0, a.1, a.2, join_above (j ∷ js) k (i.greatest +ℤ pos 1) a.3)

join_within : (n f : ℤ) (i j : Interval) (js : List Interval) → AreAbove f (i ∷ j ∷ js) → within n i ≡ true → within n (across i j) ≡ true
join_within n f i j js a e =
    let w = within_of n i e in
    of_within n (across i j) w.0 (let p = w.1 in let q = a.3.0 in let r = a.3.1 in omega (arith, ints))

join_within_other : (n f : ℤ) (i j : Interval) (js : List Interval) → AreAbove f (i ∷ j ∷ js) → within n j ≡ true → within n (across i j) ≡ true
join_within_other n f i j js a e =
    let w = within_of n j e in
    of_within n (across i j) (let p = w.0 in let q = a.3.0 in let r = a.1 in omega (arith, ints)) w.1

pub join_has : (is : List Interval) (k : ℕ) (f n : ℤ) → AreAbove f is → has is n ≡ true → has (join_at k is) n ≡ true
join_has [] k f n a e = e
join_has (i ∷ []) k f n a e = e
join_has (i ∷ j ∷ js) zero f n a e =
    let goal : Type 0 = has (join_at zero (i ∷ j ∷ js)) n ≡ true in
    let both : Interval = across i j in
    or_cases (within n i) (has (j ∷ js) n) goal (λ here. or_left (within n both) (has js n) (join_within n f i j js a here))
    (λ there. or_cases (within n j) (has js n) goal (λ here. or_left (within n both) (has js n) (join_within_other n f i j js a here)) (λ last. or_right (within n both) (has js n) last) there) e
join_has (i ∷ j ∷ js) (suc k) f n a e =
    or_cases (within n i) (has (j ∷ js) n) (has (i ∷ join_at k (j ∷ js)) n ≡ true) (λ here. or_left (within n i) (has (join_at k (j ∷ js)) n) here)
    (λ there. or_right (within n i) (has (join_at k (j ∷ js)) n) (join_has (j ∷ js) k (i.greatest +ℤ pos 1) n a.3 there)) e

pub length-join : (is : List Interval) (k : ℕ) → k + 1 < length is → length (join_at k is) + 1 ≡ length is
length-join [] k h = omega (arith, h)
length-join (i ∷ []) k h = omega (arith, h)
length-join (i ∷ j ∷ js) zero h = omega arith
length-join (i ∷ j ∷ js) (suc k) h = let rest = length-join (j ∷ js) k (omega (arith, h)) in omega (arith, rest)

-- The place of the least of some numbers is one of theirs.
least_at : (g : ℕ) (gs : List ℕ) (b : Bool) → nat_lt (slice_index_or gs (first_least gs) g) g ≡ b → (0 < length gs → first_least gs < length gs)
    → (if b then suc (first_least gs) else zero) < length (g ∷ gs)
least_at g gs false e more = omega arith
least_at g [] true e more = absurd (grind (arith, e))
least_at g (h ∷ hs) true e more = let rest = more (omega arith) in omega (arith, rest)

pub least_in : (gs : List ℕ) → 0 < length gs → first_least gs < length gs
least_in [] h = omega (arith, h)
least_in (g ∷ gs) h = least_at g gs (nat_lt (slice_index_or gs (first_least gs) g) g) refl (least_in gs)

pub length-gaps : (is : List Interval) → 0 < length is → length (gaps is) + 1 ≡ length is
length-gaps [] h = omega (arith, h)
length-gaps (i ∷ []) h = omega arith
length-gaps (i ∷ j ∷ js) h = let rest = length-gaps (j ∷ js) (omega arith) in omega (arith, rest)

pub length-closest : (is : List Interval) → 2 ≤ length is → length (join_closest is) + 1 ≡ length is
length-closest is h =
    let all = length-gaps is (omega (arith, h)) in
    let place = least_in (gaps is) (omega (arith, h, all)) in
    length-join is (first_least (gaps is)) (omega (arith, all, place))

-- As often as it takes.
pub joins_above : (n : ℕ) (is : List Interval) (f : ℤ) → AreAbove f is → AreAbove f (joins n is)
joins_above zero is f a = a
joins_above (suc n) is f a = join_above (joins n is) (first_least (gaps (joins n is))) f (joins_above n is f a)

pub joins_has : (k : ℕ) (is : List Interval) (f n : ℤ) → AreAbove f is → has is n ≡ true → has (joins k is) n ≡ true
joins_has zero is f n a e = e
joins_has (suc k) is f n a e = join_has (joins k is) (first_least (gaps (joins k is))) f n (joins_above k is f a) (joins_has k is f n a e)

pub length-joins : (n : ℕ) (is : List Interval) → n < length is → length (joins n is) + n ≡ length is
length-joins zero is h = omega arith
length-joins (suc n) is h =
    let before = length-joins n is (omega (arith, h)) in
    let after = length-closest (joins n is) (omega (arith, h, before)) in
    omega (arith, before, after)

few_at : (r : ℕ) (is : List Interval) (n : ℕ) → length is - r ≡ n → 1 ≤ r → length (joins n is) ≤ r
few_at r is zero e some = omega (arith, e)
few_at r is (suc n) e some = let all = length-joins (suc n) is (omega (arith, e, some)) in omega (arith, e, all)

pub reduced_few : (r : ℕ) (is : List Interval) → 1 ≤ r → length (reduced r is) ≤ r
reduced_few r is some = few_at r is (length is - r) refl some
