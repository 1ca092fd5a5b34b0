-- Neighbours and their gaps by place.
use Rattle.std.proofs.Common.{◌≡◌, ℕ, zero, suc, ◌+◌, ◌<◌, ◌≤◌, Bool, true, false, nat_lt, List, [], ◌∷◌, length, drop, set, get_or, Some, refl, sym, ap, ap₂, ◌∙◌, subst, arith}
use Rattle.std.specs.List.{slice_get, slice_index_or, remove}
use Rattle.std.proofs.lemmas.Option.{get_or_from_slice_get, slice_get-get_or}
use Rattle.std.proofs.lemmas.Bool.Decides.{nat_tests}
use Rattle.gx_class_intset.specs.declared.interval.Interval.{Interval}
use Rattle.gx_class_intset.specs.Intervals.{gap, gaps, first_least, across, join_at}

-- the gap behind the interval at a place
gap_from : (is : List Interval) (k : ℕ) (x y : Interval) → slice_get is k ≡ Some x → slice_get is (suc k) ≡ Some y → slice_get (gaps is) k ≡ Some (gap x y)
gap_from [] k x y p q = cc p
gap_from (i ∷ []) zero x y p q = cc q
gap_from (i ∷ []) (suc k) x y p q = cc p
gap_from (i ∷ j ∷ js) zero x y p q = let a : i ≡ x = cc p in let b : j ≡ y = cc q in ap₂ (λ (u v : Interval). Some (gap u v)) a b
gap_from (i ∷ j ∷ js) (suc k) x y p q = gap_from (j ∷ js) k x y p q

get_is : (is : List Interval) (k : ℕ) (x : Interval) → k < length is → x ≡ get_or is k x → slice_get is k ≡ Some x
get_is is k x h e = slice_get-get_or is k x h ∙ ap (λ (i : Interval). Some i) (sym e)

pub gap_is : (is : List Interval) (k m : ℕ) (x y : Interval) → m ≡ suc k → slice_get is k ≡ Some x → slice_get is m ≡ Some y → slice_get (gaps is) k ≡ Some (gap x y)
gap_is is k m x y e p q = gap_from is k x y p (subst (λ (n : ℕ). slice_get is n ≡ Some y) e q)

pub gap_read : (is : List Interval) (k m g : ℕ) (d : Interval) → m ≡ k + 1 → m < length is → g ≡ gap (get_or is k d) (get_or is m d) → slice_get (gaps is) k ≡ Some g
gap_read is k m g d e h f =
    gap_is is k m (get_or is k d) (get_or is m d) (omega (arith, e)) (slice_get-get_or is k d (omega (arith, e, h))) (slice_get-get_or is m d h) ∙ ap (λ (n : ℕ). Some n) (sym f)

-- an interval joined with its neighbour, which is removed
pub join_is : (is : List Interval) (k : ℕ) (x y : Interval) → slice_get is k ≡ Some x → slice_get is (suc k) ≡ Some y → set (remove is (suc k)) k (across x y) ≡ join_at k is
join_is [] k x y p q = cc
join_is (i ∷ []) zero x y p q = cc q
join_is (i ∷ []) (suc k) x y p q = cc p
join_is (i ∷ j ∷ js) zero x y p q =
    let a : i ≡ x = cc p in
    let b : j ≡ y = cc q in
    ap₂ (λ (u v : Interval). across u v ∷ js) (sym a) (sym b)
join_is (i ∷ j ∷ js) (suc k) x y p q = ap (λ (ks : List Interval). i ∷ ks) (join_is (j ∷ js) k x y p q)

pub join_made : (is made : List Interval) (k m : ℕ) (x y z : Interval) → m ≡ k + 1 → m < length is → x ≡ get_or is k x → y ≡ get_or is m y → made ≡ remove is m → z ≡ across x y → set made k z ≡ join_at k is
join_made is made k m x y z e h p q r f =
    let next : m ≡ suc k = omega (arith, e) in
    let here = get_is is k x (omega (arith, e, h)) p in
    let there = subst (λ (n : ℕ). slice_get is n ≡ Some y) next (get_is is m y h q) in
    ap₂ (λ (l : List Interval) (i : Interval). set l k i) (r ∙ ap (remove is) next) f ∙ join_is is k x y here there

-- the place of the least from a place on
drop_at : (gs : List ℕ) (a g : ℕ) → slice_get gs a ≡ Some g → drop a gs ≡ g ∷ drop (suc a) gs
drop_at [] a g e = cc e
drop_at (x ∷ xs) zero g e = let same : x ≡ g = cc e in ap (λ (n : ℕ). n ∷ xs) same
drop_at (x ∷ xs) (suc a) g e = drop_at xs a g e

get_behind : (gs : List ℕ) (a k : ℕ) → slice_get gs (a + k) ≡ slice_get (drop a gs) k
get_behind gs zero k = let e : 0 + k ≡ k = omega arith in ap (slice_get gs) e
get_behind [] (suc a) k = refl
get_behind (x ∷ xs) (suc a) k = let e : suc a + k ≡ suc (a + k) = omega arith in ap (slice_get (x ∷ xs)) e ∙ get_behind xs a k

head_at : (g : ℕ) (gs : List ℕ) (h : ℕ) (b : Bool) → get_or gs (first_least gs) g ≡ h → nat_lt h g ≡ b → nat_lt (slice_index_or gs (first_least gs) g) g ≡ b
head_at g gs h b e f = ap (λ (n : ℕ). nat_lt n g) e ∙ f

is_less : (h g : ℕ) → h < g → nat_lt h g ≡ true
is_less h g p = grind (arith, nat_tests, p)

not_less : (h g : ℕ) → g ≤ h → nat_lt h g ≡ false
not_less h g p = grind (arith, nat_tests, p)

first_behind : (g : ℕ) (gs : List ℕ) (h : ℕ) → slice_get gs (first_least gs) ≡ Some h → h < g → first_least (g ∷ gs) ≡ suc (first_least gs)
first_behind g gs h e p = rw (head_at g gs h true (get_or_from_slice_get gs (first_least gs) h g e) (is_less h g p)) refl

first_here : (g : ℕ) (gs : List ℕ) (h : ℕ) → slice_get gs (first_least gs) ≡ Some h → g ≤ h → first_least (g ∷ gs) ≡ zero
first_here g gs h e p = rw (head_at g gs h false (get_or_from_slice_get gs (first_least gs) h g e) (not_less h g p)) refl

-- The best place behind a place and its number are known: the place itself is better where its number is no greater.
best_number : (gs : List ℕ) (a best h : ℕ) → best ≡ suc a + first_least (drop (suc a) gs) → slice_get gs best ≡ Some h → slice_get (drop (suc a) gs) (first_least (drop (suc a) gs)) ≡ Some h
best_number gs a best h e f = sym (get_behind gs (suc a) (first_least (drop (suc a) gs))) ∙ ap (slice_get gs) (sym e) ∙ f

pub better_behind : (gs : List ℕ) (a best g h : ℕ) → slice_get gs a ≡ Some g → slice_get gs best ≡ Some h → best ≡ suc a + first_least (drop (suc a) gs) → h < g → best ≡ a + first_least (drop a gs)
better_behind gs a best g h p q e less =
    let step = ap first_least (drop_at gs a g p) ∙ first_behind g (drop (suc a) gs) h (best_number gs a best h e q) less in
    omega (arith, e, step)

pub better_here : (gs : List ℕ) (a best g h : ℕ) → slice_get gs a ≡ Some g → slice_get gs best ≡ Some h → best ≡ suc a + first_least (drop (suc a) gs) → g ≤ h → a ≡ a + first_least (drop a gs)
better_here gs a best g h p q e more =
    let step = ap first_least (drop_at gs a g p) ∙ first_here g (drop (suc a) gs) h (best_number gs a best h e q) more in
    omega (arith, step)

-- from the last place on
alone : (x : ℕ) → first_least (x ∷ []) ≡ 0
alone x = rw (not_less x x (omega arith)) refl

pub last_is : (gs : List ℕ) (a g : ℕ) → slice_get gs a ≡ Some g → a + 1 ≡ length gs → a ≡ a + first_least (drop a gs)
last_is [] a g e h = cc e
last_is (x ∷ []) zero g e h = omega (arith, alone x)
last_is (x ∷ []) (suc a) g e h = cc e
last_is (x ∷ y ∷ ys) zero g e h = absurd (omega (arith, h))
last_is (x ∷ y ∷ ys) (suc a) g e h = let rest = last_is (y ∷ ys) a g e (omega (arith, h)) in omega (arith, rest)

pub gap_there : (is : List Interval) (k : ℕ) → k + 1 < length is → (g : ℕ) × (slice_get (gaps is) k ≡ Some g)
gap_there [] k h = absurd (omega (arith, h))
gap_there (i ∷ []) k h = absurd (omega (arith, h))
gap_there (i ∷ j ∷ js) zero h = (gap i j, refl)
gap_there (i ∷ j ∷ js) (suc k) h = gap_there (j ∷ js) k (omega (arith, h))
