-- What the laws of gist__int_ops stand on.
use Rattle.std.specs.Prelude.{◌≡◌, ◌≢◌, ℕ, ◌-◌, nat_le, Bool, true, false, ℤ, List, [], ◌∷◌, length, map, All, Any, Contains, refl}
use Rattle.std.specs.Bool.{Decides}
use Rattle.std.specs.List.{list_any, list_all, AllByRecursion}
use Rattle.std.specs.Cmp.Lexicographic.{pointwise}
use Rattle.std.specs.Ordering.{int_eq}
use Rattle.std.proofs.Common.{sym, ap, subst, arith, true≢false}
use Rattle.std.proofs.lemmas.List.{length-map}
use Rattle.std.proofs.lemmas.List.Folds.{Any-from_list_any}
use Rattle.std.proofs.lemmas.List.Elements.{All-from_recursion, All-contains_itself}
use Rattle.std.proofs.lemmas.Bool.Decides.{nat_tests, Decides-int_eq}
use Rattle.std.proofs.lemmas.Slice.Eq.{slice_eq-Decides}
use Rattle.gx_gist.specs.declared.test.Test.TheVariants.{No, Yes}
use Rattle.gx_kleene.specs.Laws as kleene
use Rattle.gx_kleene.specs.Laws.{IsRight}
use Rattle.gx_intarr.specs.Arrays.{least, IsArray}
use Rattle.gx_intarr.specs.Formula.{tree_of}
use Rattle.gx_class_sets.specs.declared.int_query.IntQuery.{IntQuery}
use Rattle.gx_class_sets.specs.declared.int_query.IntQuery.TheVariants as query
use Rattle.gx_class_sets.specs.SignatureLaws.{any_mono, all_mono, all_true, any_true}
use Rattle.gx_class_sets.specs.IntQueries.{Holds}
use Rattle.gx_class_intset.specs.declared.interval.Interval.{Interval}
use Rattle.gx_class_intset.specs.declared.interval.IntKey.{IntKey}
use Rattle.gx_class_intset.specs.Intervals.{single, has, AreIntervals, distinct, together, joins}
use Rattle.gx_class_intset.specs.IntervalLaws.{and_true, and_both, together_above, together_left, together_right, joins_above, joins_has, reduced_few}
use Rattle.gx_class_intset.specs.NumberLaws.{distinct_rise, singles_above, points_have, points_only}
use Rattle.gx_class_intset.specs.Keys.{IsLimit, IsKey, leaf_key, union, IsOver}
use Rattle.gx_class_intset.specs.Tests.{said, same_interval, same_flag, is_same, leaf_answer, inner_answer, IsQuery}

-- the intervals of an array before any are joined
abbrev points : List ℤ → List Interval
points v = map single (distinct v)

points_above : (v : List ℤ) → IsArray v → AreIntervals (points v)
points_above v p = singles_above (distinct v) least (distinct_rise v p)

pub leaf_is_valid : (r : ℕ) (v : List ℤ) → IsLimit r → IsArray v → IsKey r (leaf_key r v)
leaf_is_valid r v limit p = record {
  rise = joins_above (length (points v) - r) (points v) least (points_above v p);
  few = reduced_few r (points v) limit.0;
}

both_above : (r : ℕ) (a b : IntKey) → IsKey r a → IsKey r b → AreIntervals (together a.intervals b.intervals)
both_above r a b p q = together_above b.intervals a.intervals least p.rise q.rise

pub union_is_valid : (r : ℕ) (a b : IntKey) → IsLimit r → IsKey r a → IsKey r b → IsKey r (union r a b)
union_is_valid r a b limit p q = record {
  rise = joins_above (length (together a.intervals b.intervals) - r) (together a.intervals b.intervals) least (both_above r a b p q);
  few = reduced_few r (together a.intervals b.intervals) limit.0;
}

pub over_left : (r : ℕ) (a b l : IntKey) → IsKey r a → IsKey r b → IsOver a l → IsOver (union r a b) l
over_left r a b l p q over n e =
    joins_has (length (together a.intervals b.intervals) - r) (together a.intervals b.intervals) least n (both_above r a b p q) (together_left b.intervals a.intervals n (over n e))

pub over_right : (r : ℕ) (a b l : IntKey) → IsKey r a → IsKey r b → IsOver b l → IsOver (union r a b) l
over_right r a b l p q over n e =
    joins_has (length (together a.intervals b.intervals) - r) (together a.intervals b.intervals) least n (both_above r a b p q) (together_right b.intervals a.intervals n (over n e))

-- A leaf key has each element, and where it is exact no other number.
leaf_has : (r : ℕ) (v : List ℤ) → IsArray v → (n : ℤ) → Contains v n → has (leaf_key r v).intervals n ≡ true
leaf_has r v p n c = joins_has (length (points v) - r) (points v) least n (points_above v p) (points_have v n c)

none_joined : (m n r : ℕ) → m ≡ n → nat_le n r ≡ true → m - r ≡ 0
none_joined m n r e h = grind (arith, nat_tests, e, h)

leaf_only : (r : ℕ) (v : List ℤ) → (leaf_key r v).exact ≡ true → (n : ℤ) → has (leaf_key r v).intervals n ≡ true → Contains v n
leaf_only r v exact n e =
    let none : length (points v) - r ≡ 0 = none_joined (length (points v)) (length (distinct v)) r (length-map (distinct v) single) exact in
    points_only v n (subst (λ (k : ℕ). has (joins k (points v)) n ≡ true) none e)

-- What a key says.
said_sees : (e b : Bool) → b ≡ true → said e b ≢ No
said_sees e false p = absurd (true≢false (sym p))
said_sees true true p = λ q. cc q
said_sees false true p = λ q. cc q

said_sure : (e b : Bool) → said e b ≡ Yes → (e ≡ true) × (b ≡ true)
said_sure e false p = cc p
said_sure true true p = (refl, refl)
said_sure false true p = cc p

said_right : (e b : Bool) (P : Type 0) → (P → b ≡ true) → (e ≡ true → b ≡ true → P) → IsRight (said e b) P
said_right e b P to from = record { sees = λ p. said_sees e b (to p); sure = λ s. let both = said_sure e b s in from both.0 both.1 }

said_mono : (e f b c : Bool) → (b ≡ true → c ≡ true) → said e b ≢ No → said f c ≢ No
said_mono e f true c m p = said_sees f c (m refl)
said_mono e f false c m p = absurd (p refl)

-- from tests of all
each_of : {X : Type 0} (p : X → Bool) (P : X → Type 0) → ((x : X) → p x ≡ true → P x) → (xs : List X) → list_all p xs ≡ true → AllByRecursion P xs
each_of p P f [] e = tt
each_of p P f (x ∷ xs) e = let both = and_both (p x) (list_all p xs) e in (f x both.0, each_of p P f xs both.1)

-- Keys are told apart.
flags_same : (a b : Bool) → Decides (same_flag a b) (a ≡ b)
flags_same true true = (λ e. refl, λ e. refl)
flags_same true false = (λ e. sym e, λ e. sym e)
flags_same false true = (λ e. e, λ e. e)
flags_same false false = (λ e. refl, λ e. refl)

intervals_same : (i j : Interval) → Decides (same_interval i j) (i ≡ j)
intervals_same i j = (
  λ e.
      let both = and_both (int_eq i.least j.least) (int_eq i.greatest j.greatest) e in
      let low : i.least ≡ j.least = (Decides-int_eq i.least j.least).0 both.0 in
      let high : i.greatest ≡ j.greatest = (Decides-int_eq i.greatest j.greatest).0 both.1 in
      λ t. record { least = low t; greatest = high t },
  λ e.
      and_true (int_eq i.least j.least) (int_eq i.greatest j.greatest) ((Decides-int_eq i.least j.least).1 (ap (λ (k : Interval). k.least) e))
      ((Decides-int_eq i.greatest j.greatest).1 (ap (λ (k : Interval). k.greatest) e)),
)

pub lists_same : (a b : List Interval) (t : Bool) → t ≡ pointwise same_interval a b → Decides t (a ≡ b)
lists_same a b t e = slice_eq-Decides intervals_same a b t e

pub keys_same : (k l : IntKey) → Decides (is_same k l) (k ≡ l)
keys_same k l = (
  λ e.
      let both = and_both (same_flag k.exact l.exact) (pointwise same_interval k.intervals l.intervals) e in
      let exact : k.exact ≡ l.exact = (flags_same k.exact l.exact).0 both.0 in
      let intervals : k.intervals ≡ l.intervals = (lists_same k.intervals l.intervals (pointwise same_interval k.intervals l.intervals) refl).0 both.1 in
      λ t. record { exact = exact t; intervals = intervals t },
  λ e.
      and_true (same_flag k.exact l.exact) (pointwise same_interval k.intervals l.intervals) ((flags_same k.exact l.exact).1 (ap (λ (m : IntKey). m.exact) e))
      ((lists_same k.intervals l.intervals (pointwise same_interval k.intervals l.intervals) refl).1 (ap (λ (m : IntKey). m.intervals) e)),
)

-- The key of an array says No only where the query doesn't hold, and Yes only where it does.
pub leaf_is_right : (r : ℕ) (v : List ℤ) (q : IntQuery) → IsArray v → IsRight (leaf_answer r (leaf_key r v) q) (Holds q v)
leaf_is_right r v (query.Overlaps b) p =
    said_right (leaf_key r v).exact (list_any (has (leaf_key r v).intervals) b) (Any (λ m. Contains v m) b)
    (any_true (has (leaf_key r v).intervals) (λ m. Contains v m) (leaf_has r v p) b)
    (λ e t. let h = Any-from_list_any (has (leaf_key r v).intervals) b t in (h.0, h.1, h.2, h.3, leaf_only r v e h.1 h.4))
leaf_is_right r v (query.Contains b) p =
    said_right (leaf_key r v).exact (list_all (has (leaf_key r v).intervals) b) (All (λ m. Contains v m) b)
    (all_true (has (leaf_key r v).intervals) (λ m. Contains v m) (leaf_has r v p) b)
    (λ e t. All-from_recursion (λ m. Contains v m) b (each_of (has (leaf_key r v).intervals) (λ m. Contains v m) (leaf_only r v e) b t))
leaf_is_right r v (query.Equal b) p =
    said_right false (is_same (leaf_key r v) (leaf_key r b)) (v ≡ b) (λ e. (keys_same (leaf_key r v) (leaf_key r b)).1 (ap (leaf_key r) e)) (λ e t. absurd (true≢false (sym e)))
leaf_is_right r v (query.Formula q) p =
    kleene.leaf_is_right (λ m. said (leaf_key r v).exact (has (leaf_key r v).intervals m)) (λ m. Contains v m)
    (λ m. said_right (leaf_key r v).exact (has (leaf_key r v).intervals m) (Contains v m) (leaf_has r v p m) (λ e t. leaf_only r v e m t)) (tree_of q.formula)

-- A key over that of an array says No only where this one does.
equal_within : (r : ℕ) (k l : IntKey) (b : List ℤ) → IsOver k l → IsArray b → is_same l (leaf_key r b) ≡ true → list_all (has k.intervals) b ≡ true
equal_within r k l b over p e =
    let same = (keys_same l (leaf_key r b)).0 e in
    let each : (n : ℤ) → Contains b n → has k.intervals n ≡ true =
    λ n c. over n (subst (λ (m : IntKey). has m.intervals n ≡ true) (sym same) (leaf_has r b p n c)) in
    all_true (has k.intervals) (Contains b) each b (All-contains_itself b)

pub inner_sees : (r : ℕ) (k l : IntKey) (q : IntQuery) → IsOver k l → IsQuery q → leaf_answer r l q ≢ No → inner_answer k q ≢ No
inner_sees r k l (query.Overlaps b) over p =
    said_mono l.exact false (list_any (has l.intervals) b) (list_any (has k.intervals) b) (any_mono (has l.intervals) (has k.intervals) over b)
inner_sees r k l (query.Contains b) over p =
    said_mono l.exact false (list_all (has l.intervals) b) (list_all (has k.intervals) b) (all_mono (has l.intervals) (has k.intervals) over b)
inner_sees r k l (query.Equal b) over p = said_mono false false (is_same l (leaf_key r b)) (list_all (has k.intervals) b) (equal_within r k l b over p)
inner_sees r k l (query.Formula q) over p =
    kleene.inner_sees (λ m. said l.exact (has l.intervals m)) (λ m. said false (has k.intervals m)) (λ m. said_mono l.exact false (has l.intervals m) (has k.intervals m) (over m)) (tree_of q.formula)
