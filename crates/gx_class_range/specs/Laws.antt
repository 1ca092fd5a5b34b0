-- What the laws of the class stand on.
use Rattle.std.specs.Prelude.{◌≡◌, ◌≢◌, ◌^◌, Bool, true, false, ◌&&◌, ◌||◌, ℤ, pos, neg_ℤ, int_le, int_lt, ◌≤ℤ◌, ◌<ℤ◌, ◌⊎◌, Option, Some, None, is_some, if◌then◌else◌, refl}
use Rattle.std.proofs.Common.{sym, ap, inl, inr, arith, true≢false, ◌∙◌}
use Rattle.std.proofs.lemmas.Int.{ints}
use Rattle.gx_bytes.specs.Wholes.{IsWithin}
use Rattle.gx_gist.specs.declared.test.Test.{Test}
use Rattle.gx_gist.specs.declared.test.Test.TheVariants.{No, Maybe, Yes}
use Rattle.gx_range.specs.declared.range.Range.{Range}
use Rattle.gx_range.specs.declared.range.Range.TheVariants.{Empty, Span}
use Rattle.gx_range.specs.declared.range.RangeKind.TheVariants.{Int8}
use Rattle.gx_range.specs.declared.range.RangeOp.{RangeOp}
use Rattle.gx_range.specs.declared.range.RangeOp.TheVariants.{Equal, Overlaps, Contains, Within, Left, Right, NotRight, NotLeft, Adjacent}
use Rattle.gx_range.specs.Values.{IsRange, least, greatest, fits, rises}
use Rattle.gx_range.specs.Operators.{IsAtMost, IsBefore, lower_place, upper_place, EndsBy, EndsAt, HoldsOfSpans, Holds, HasElement}
use Rattle.gx_range.specs.Decisions.{holds, has_element}
use Rattle.gx_range.proofs.DecisionLemmas.{holds-Decides, has_element-Decides}
use Rattle.gx_range.proofs.EncodingLemmas.{both_true}
use Rattle.gx_class_range.specs.declared.key.Bounds.{Bounds}
use Rattle.gx_class_range.specs.declared.key.RangeKey.{RangeKey}
use Rattle.gx_class_range.specs.declared.query.RangeQuery.{RangeQuery}
use Rattle.gx_class_range.specs.declared.query.RangeQuery.TheVariants as queries
use Rattle.gx_class_range.specs.Keys.{low_at, high_at, IsSpan, IsKey, leaf_key, lower_of, upper_of, hull, joined, Covers, IsOver}
use Rattle.gx_class_range.specs.Tests.{IsQuery, QueryHolds, leaf_holds, leaf_answer, reaches_lower, reaches_upper, span_may, some_may, flag_may, empty_may, key_may, has, query_may, inner_answer}

-- tests of numbers
le_of : (m n : ℤ) → int_le m n ≡ true → m ≤ℤ n
le_of m n e = grind (arith, ints)

of_le : (m n : ℤ) → m ≤ℤ n → int_le m n ≡ true
of_le m n h = grind (arith, ints)

of_lt : (m n : ℤ) → m <ℤ n → int_lt m n ≡ true
of_lt m n h = grind (arith, ints)

lt_of_not : (m n : ℤ) → int_le n m ≡ false → m <ℤ n
lt_of_not m n e = grind (arith, ints)

lt_at : (m n : ℤ) (b : Bool) → int_le n m ≡ b → (n ≤ℤ m → ⊥) → m <ℤ n
lt_at m n true e h = absurd (h (le_of n m e))
lt_at m n false e h = lt_of_not m n e

not_le : (m n : ℤ) → (n ≤ℤ m → ⊥) → m <ℤ n
not_le m n h = lt_at m n (int_le n m) refl h

le_trans : (a b c : ℤ) → a ≤ℤ b → b ≤ℤ c → a ≤ℤ c
le_trans a b c p q = omega (arith, ints)

le_lt : (a b c : ℤ) → a ≤ℤ b → b <ℤ c → a <ℤ c
le_lt a b c p q = omega (arith, ints)

lt_le : (a b c : ℤ) → a <ℤ b → b ≤ℤ c → a <ℤ c
lt_le a b c p q = omega (arith, ints)

le_self : (a : ℤ) → a ≤ℤ a
le_self a = omega (arith, ints)

and_true : (a b : Bool) → a ≡ true → b ≡ true → (a && b) ≡ true
and_true a b p q = rw (p, q) refl

or_left : (a b : Bool) → a ≡ true → (a || b) ≡ true
or_left a b p = rw p refl

or_right : (a b : Bool) → b ≡ true → (a || b) ≡ true
or_right true b p = refl
or_right false b p = p

-- a bound of 64 bits
within : (n : ℤ) → fits Int8 (Some n) ≡ true → (least Int8 ≤ℤ n) × (n ≤ℤ greatest Int8)
within n h =
    let b = both_true (int_le (least Int8) n) (int_le n (greatest Int8)) h in
    (le_of (least Int8) n b.0, le_of n (greatest Int8) b.1)

fits_within : (n : ℤ) → IsWithin (least Int8) (greatest Int8) n → fits Int8 (Some n) ≡ true
fits_within n h = and_true (int_le (least Int8) n) (int_le n (greatest Int8)) (of_le (least Int8) n h.0) (of_le n (greatest Int8) h.1)

above_low : (n : ℤ) → fits Int8 (Some n) ≡ true → neg_ℤ (pos (2 ^ 64)) <ℤ n
above_low n h = let w = within n h in let low = w.0 in omega (arith, ints)

below_high : (n : ℤ) → fits Int8 (Some n) ≡ true → n <ℤ pos (2 ^ 64)
below_high n h = let w = within n h in let high = w.1 in omega (arith, ints)

ends_apart : neg_ℤ (pos (2 ^ 64)) <ℤ pos (2 ^ 64)
ends_apart = omega (arith, ints)

lt_is_le : (a b : ℤ) → a <ℤ b → a ≤ℤ b
lt_is_le a b h = omega (arith, ints)

-- what relations of bounds say of where they stand
lower_le : (a b : Option ℤ) → fits Int8 a ≡ true → fits Int8 b ≡ true → IsAtMost (lower_place a) (lower_place b) → low_at a ≤ℤ low_at b
lower_le None None p q h = le_self (neg_ℤ (pos (2 ^ 64)))
lower_le None (Some n) p q h = lt_is_le (neg_ℤ (pos (2 ^ 64))) n (above_low n q)
lower_le (Some m) None p q h = absurd h
lower_le (Some m) (Some n) p q h = h

upper_le : (a b : Option ℤ) → fits Int8 a ≡ true → fits Int8 b ≡ true → IsAtMost (upper_place a) (upper_place b) → high_at a ≤ℤ high_at b
upper_le None None p q h = le_self (pos (2 ^ 64))
upper_le None (Some n) p q h = absurd h
upper_le (Some m) None p q h = lt_is_le m (pos (2 ^ 64)) (below_high m p)
upper_le (Some m) (Some n) p q h = h

before_lt : (a b : Option ℤ) → fits Int8 a ≡ true → fits Int8 b ≡ true → IsBefore (lower_place a) (upper_place b) → low_at a <ℤ high_at b
before_lt None None p q h = ends_apart
before_lt None (Some n) p q h = above_low n q
before_lt (Some m) None p q h = below_high m p
before_lt (Some m) (Some n) p q h = not_le m n h

lt_int : (m n : ℤ) → int_lt m n ≡ true → m <ℤ n
lt_int m n e = grind (arith, ints)

rises_lt : (l u : Option ℤ) → IsRange Int8 (Span l u) → low_at l <ℤ high_at u
rises_lt None None p = ends_apart
rises_lt None (Some n) p = above_low n p.1
rises_lt (Some m) None p = below_high m p.0
rises_lt (Some m) (Some n) p = lt_int m n p.2

lt_rises : (l u : Option ℤ) → low_at l <ℤ high_at u → rises l u ≡ true
lt_rises None None h = refl
lt_rises None (Some n) h = refl
lt_rises (Some m) None h = refl
lt_rises (Some m) (Some n) h = of_lt m n h

-- leaf keys and unions
pub leaf_is_valid : (v : Range) → IsRange Int8 v → IsKey (leaf_key v)
leaf_is_valid Empty p = record { some = refl; span = tt }
leaf_is_valid (Span l u) p = record { some = refl; span = p }

picked_fits : (b : Bool) (x y : Option ℤ) → fits Int8 x ≡ true → fits Int8 y ≡ true → fits Int8 (if b then x else y) ≡ true
picked_fits true x y p q = p
picked_fits false x y p q = q

low_first : (a b : Option ℤ) (t : Bool) → int_le (low_at a) (low_at b) ≡ t → low_at (if t then a else b) ≤ℤ low_at a
low_first a b true e = le_self (low_at a)
low_first a b false e = lt_is_le (low_at b) (low_at a) (lt_of_not (low_at b) (low_at a) e)

low_second : (a b : Option ℤ) (t : Bool) → int_le (low_at a) (low_at b) ≡ t → low_at (if t then a else b) ≤ℤ low_at b
low_second a b true e = le_of (low_at a) (low_at b) e
low_second a b false e = le_self (low_at b)

high_first : (a b : Option ℤ) (t : Bool) → int_le (high_at b) (high_at a) ≡ t → high_at a ≤ℤ high_at (if t then a else b)
high_first a b true e = le_self (high_at a)
high_first a b false e = lt_is_le (high_at a) (high_at b) (lt_of_not (high_at a) (high_at b) e)

high_second : (a b : Option ℤ) (t : Bool) → int_le (high_at b) (high_at a) ≡ t → high_at b ≤ℤ high_at (if t then a else b)
high_second a b true e = le_of (high_at b) (high_at a) e
high_second a b false e = le_self (high_at b)

hull_valid : (s t : Option Bounds) → IsSpan s → IsSpan t → IsSpan (hull s t)
hull_valid None t p q = q
hull_valid (Some s) None p q = p
hull_valid (Some s) (Some t) p q =
    let low = low_first s.lower t.lower (int_le (low_at s.lower) (low_at t.lower)) refl in
    let high = high_first s.upper t.upper (int_le (high_at t.upper) (high_at s.upper)) refl in
    let wide = lt_le _ _ _ (le_lt _ _ _ low (rises_lt s.lower s.upper p)) high in (
      picked_fits (int_le (low_at s.lower) (low_at t.lower)) s.lower t.lower p.0 q.0,
      picked_fits (int_le (high_at t.upper) (high_at s.upper)) s.upper t.upper p.1 q.1,
      lt_rises (lower_of s.lower t.lower) (upper_of s.upper t.upper) wide,
    )

some_joined : (e f : Bool) (s t : Option Bounds) → (e || is_some s) ≡ true → ((e || f) || is_some (hull s t)) ≡ true
some_joined true f s t h = refl
some_joined false true s t h = refl
some_joined false false None t h = absurd (true≢false (sym h))
some_joined false false (Some s) None h = refl
some_joined false false (Some s) (Some t) h = refl

pub union_is_valid : (a b : RangeKey) → IsKey a → IsKey b → IsKey (joined a b)
union_is_valid a b p q = record { some = some_joined a.empty b.empty a.span b.span p.some; span = hull_valid a.span b.span p.span q.span }

pub over_itself : (v : Range) → IsOver (leaf_key v) (leaf_key v)
over_itself Empty = (λ e. e, tt)
over_itself (Span l u) = (λ e. e, (le_self (low_at l), le_self (high_at u)))

covers_left : (s t u : Option Bounds) → Covers s u → Covers (hull s t) u
covers_left s t None h = tt
covers_left None t (Some u) h = absurd h
covers_left (Some s) None (Some u) h = h
covers_left (Some s) (Some t) (Some u) h = (
  le_trans _ _ _ (low_first s.lower t.lower (int_le (low_at s.lower) (low_at t.lower)) refl) h.0,
  le_trans _ _ _ h.1 (high_first s.upper t.upper (int_le (high_at t.upper) (high_at s.upper)) refl),
)

covers_right : (s t u : Option Bounds) → Covers t u → Covers (hull s t) u
covers_right s t None h = tt
covers_right s None (Some u) h = absurd h
covers_right None (Some t) (Some u) h = h
covers_right (Some s) (Some t) (Some u) h = (
  le_trans _ _ _ (low_second s.lower t.lower (int_le (low_at s.lower) (low_at t.lower)) refl) h.0,
  le_trans _ _ _ h.1 (high_second s.upper t.upper (int_le (high_at t.upper) (high_at s.upper)) refl),
)

pub over_left : (a b l : RangeKey) → IsOver a l → IsOver (joined a b) l
over_left a b l over = (λ e. or_left a.empty b.empty (over.0 e), covers_left a.span b.span l.span over.1)

pub over_right : (a b l : RangeKey) → IsOver b l → IsOver (joined a b) l
over_right a b l over = (λ e. or_right a.empty b.empty (over.0 e), covers_right a.span b.span l.span over.1)

-- a span [l, u) within that of a key, and an operand [m, w)
record Lies (s : Bounds) (l u m w : Option ℤ) : Type 0 where
  low : low_at s.lower ≤ℤ low_at l
  high : high_at u ≤ℤ high_at s.upper
  value : IsRange Int8 (Span l u)
  operand : IsRange Int8 (Span m w)

same_low : (a b : Option ℤ) → a ≡ b → low_at a ≤ℤ low_at b
same_low a b e = rw e (le_self (low_at b))

same_high : (a b : Option ℤ) → a ≡ b → high_at a ≤ℤ high_at b
same_high a b e = rw e (le_self (high_at b))

same_le : (m n : ℤ) → m ≡ n → m ≤ℤ n
same_le m n e = rw e (le_self n)

ends_by_le : (u m : Option ℤ) → EndsBy u m → high_at u ≤ℤ low_at m
ends_by_le (Some u) (Some m) h = h
ends_by_le (Some u) None h = absurd h
ends_by_le None m h = absurd h

meets_lower : (s : Bounds) (u m : Option ℤ) → low_at s.lower <ℤ high_at u → high_at u ≤ℤ high_at s.upper → EndsAt u m → reaches_lower s m ≡ true
meets_lower s (Some u) (Some m) low high h =
    and_true (int_lt (low_at s.lower) m) (int_le m (high_at s.upper)) (of_lt (low_at s.lower) m (lt_le (low_at s.lower) u m low (same_le u m h)))
    (of_le m (high_at s.upper) (le_trans m u (high_at s.upper) (same_le m u (sym h)) high))
meets_lower s (Some u) None low high h = absurd h
meets_lower s None m low high h = absurd h

meets_upper : (s : Bounds) (w l : Option ℤ) → low_at s.lower ≤ℤ low_at l → low_at l <ℤ high_at s.upper → EndsAt w l → reaches_upper s w ≡ true
meets_upper s (Some w) (Some l) low high h =
    and_true (int_le (low_at s.lower) w) (int_lt w (high_at s.upper)) (of_le (low_at s.lower) w (le_trans (low_at s.lower) l w low (same_le l w (sym h))))
    (of_lt w (high_at s.upper) (le_lt w l (high_at s.upper) (same_le w l h) high))
meets_upper s (Some w) None low high h = absurd h
meets_upper s None l low high h = absurd h

span_sees : (op : RangeOp) (s : Bounds) (l u m w : Option ℤ) → Lies s l u m w → HoldsOfSpans op l u m w → span_may op s m w ≡ true
span_sees Equal s l u m w lies h =
    and_true (int_le (low_at s.lower) (low_at m)) (int_le (high_at w) (high_at s.upper)) (of_le _ _ (le_trans _ _ _ lies.low (same_low l m h.0)))
    (of_le _ _ (le_trans _ _ _ (same_high w u (sym h.1)) lies.high))
span_sees Overlaps s l u m w lies h =
    and_true (int_lt (low_at s.lower) (high_at w)) (int_lt (low_at m) (high_at s.upper))
    (of_lt _ _ (le_lt _ _ _ lies.low (before_lt l w lies.value.0 lies.operand.1 h.1)))
    (of_lt _ _ (lt_le _ _ _ (before_lt m u lies.operand.0 lies.value.1 h.2) lies.high))
span_sees Contains s l u m w lies h =
    and_true (int_le (low_at s.lower) (low_at m)) (int_le (high_at w) (high_at s.upper))
    (of_le _ _ (le_trans _ _ _ lies.low (lower_le l m lies.value.0 lies.operand.0 h.0)))
    (of_le _ _ (le_trans _ _ _ (upper_le w u lies.operand.1 lies.value.1 h.1) lies.high))
span_sees Within s l u m w lies h =
    let inside = rises_lt l u lies.value in
    and_true (int_lt (low_at s.lower) (high_at w)) (int_lt (low_at m) (high_at s.upper))
    (of_lt _ _ (lt_le _ _ _ (le_lt _ _ _ lies.low inside) (upper_le u w lies.value.1 lies.operand.1 h.1)))
    (of_lt _ _ (lt_le _ _ _ (le_lt _ _ _ (lower_le m l lies.operand.0 lies.value.0 h.0) inside) lies.high))
span_sees Left s l u m w lies h = of_lt _ _ (lt_le _ _ _ (le_lt _ _ _ lies.low (rises_lt l u lies.value)) (ends_by_le u m h))
span_sees Right s l u m w lies h = of_lt _ _ (le_lt _ _ _ (ends_by_le w l h) (lt_le _ _ _ (rises_lt l u lies.value) lies.high))
span_sees NotRight s l u m w lies h =
    of_lt _ _ (lt_le _ _ _ (le_lt _ _ _ lies.low (rises_lt l u lies.value)) (upper_le u w lies.value.1 lies.operand.1 h))
span_sees NotLeft s l u m w lies h =
    of_lt _ _ (lt_le _ _ _ (le_lt _ _ _ (lower_le m l lies.operand.0 lies.value.0 h) (rises_lt l u lies.value)) lies.high)
span_sees Adjacent s l u m w lies (inl h) =
    or_left (reaches_lower s m) (reaches_upper s w) (meets_lower s u m (le_lt _ _ _ lies.low (rises_lt l u lies.value)) lies.high h)
span_sees Adjacent s l u m w lies (inr h) =
    or_right (reaches_lower s m) (reaches_upper s w) (meets_upper s w l lies.low (lt_le _ _ _ (rises_lt l u lies.value) lies.high) h)

some_sees : (op : RangeOp) (e : Bool) (s : Option Bounds) (l u m w : Option ℤ) → Covers s (Some (record { lower = l; upper = u })) → IsRange Int8 (Span l u) → IsRange Int8 (Span m w)
    → HoldsOfSpans op l u m w → (flag_may op e || some_may op s m w) ≡ true
some_sees op e None l u m w over p r h = absurd over
some_sees op e (Some s) l u m w over p r h =
    or_right (flag_may op e) (span_may op s m w) (span_sees op s l u m w (record { low = over.0; high = over.1; value = p; operand = r }) h)

spans_see : (op : RangeOp) (k : RangeKey) (l u : Option ℤ) (operand : Range) → IsOver k (leaf_key (Span l u)) → IsRange Int8 (Span l u) → IsRange Int8 operand → Holds op (Span l u) operand
    → key_may op k operand ≡ true
spans_see op k l u (Span m w) over p r h = some_sees op k.empty k.span l u m w over.1 p r h
spans_see Contains k l u Empty over p r h = refl
spans_see Equal k l u Empty over p r h = absurd h
spans_see Overlaps k l u Empty over p r h = absurd h
spans_see Within k l u Empty over p r h = absurd h
spans_see Left k l u Empty over p r h = absurd h
spans_see Right k l u Empty over p r h = absurd h
spans_see NotRight k l u Empty over p r h = absurd h
spans_see NotLeft k l u Empty over p r h = absurd h
spans_see Adjacent k l u Empty over p r h = absurd h

empty_sees : (op : RangeOp) (k : RangeKey) (operand : Range) → k.empty ≡ true → Holds op Empty operand → key_may op k operand ≡ true
empty_sees Equal k Empty e h = e
empty_sees Contains k Empty e h = refl
empty_sees Within k Empty e h = e
empty_sees Overlaps k Empty e h = absurd h
empty_sees Left k Empty e h = absurd h
empty_sees Right k Empty e h = absurd h
empty_sees NotRight k Empty e h = absurd h
empty_sees NotLeft k Empty e h = absurd h
empty_sees Adjacent k Empty e h = absurd h
empty_sees Within k (Span m w) e h = or_left k.empty (some_may Within k.span m w) e
empty_sees Equal k (Span m w) e h = absurd h
empty_sees Contains k (Span m w) e h = absurd h
empty_sees Overlaps k (Span m w) e h = absurd h
empty_sees Left k (Span m w) e h = absurd h
empty_sees Right k (Span m w) e h = absurd h
empty_sees NotRight k (Span m w) e h = absurd h
empty_sees NotLeft k (Span m w) e h = absurd h
empty_sees Adjacent k (Span m w) e h = absurd h

element_sees : (k : RangeKey) (s : Option Bounds) (l u : Option ℤ) (n : ℤ) → Covers s (Some (record { lower = l; upper = u })) → IsRange Int8 (Span l u) → IsWithin (least Int8) (greatest Int8) n
    → HasElement (Span l u) n → has s n ≡ true
element_sees k None l u n over p r h = absurd over
element_sees k (Some s) l u n over p r h =
    let fit = fits_within n r in
    and_true (int_le (low_at s.lower) n) (int_lt n (high_at s.upper)) (of_le _ _ (le_trans _ _ _ over.0 (lower_le l (Some n) p.0 fit h.0)))
    (of_lt _ _ (lt_le _ _ _ (before_lt (Some n) u fit p.1 h.1) over.1))

may_see : (k : RangeKey) (v : Range) (q : RangeQuery) → IsRange Int8 v → IsQuery q → IsOver k (leaf_key v) → QueryHolds v q → query_may k q ≡ true
may_see k Empty (queries.Range op operand) p r over h = empty_sees op k operand (over.0 refl) h
may_see k Empty (queries.Element n) p r over h = absurd h
may_see k (Span l u) (queries.Range op operand) p r over h = spans_see op k l u operand over p r h
may_see k (Span l u) (queries.Element n) p r over h = element_sees k k.span l u n over.1 p r h

-- the leaf test decides
leaf_told : (v : Range) (q : RangeQuery) → leaf_answer (leaf_key v) q ≡ (if leaf_holds v q then Yes else No)
leaf_told Empty q = refl
leaf_told (Span l u) q = refl

told_holds : (v : Range) (q : RangeQuery) → leaf_holds v q ≡ true → QueryHolds v q
told_holds v (queries.Range op operand) e = (holds-Decides op v operand).0 e
told_holds v (queries.Element n) e = (has_element-Decides v n).0 e

holds_told : (v : Range) (q : RangeQuery) → QueryHolds v q → leaf_holds v q ≡ true
holds_told v (queries.Range op operand) h = (holds-Decides op v operand).1 h
holds_told v (queries.Element n) h = (has_element-Decides v n).1 h

yes_true : (b : Bool) → (if b then Yes else No) ≡ Yes → b ≡ true
yes_true true e = refl
yes_true false e = cc e

some_true : (b : Bool) → (if b then Yes else No) ≢ No → b ≡ true
some_true true e = refl
some_true false e = absurd (e refl)

true_some : (b : Bool) → b ≡ true → (if b then Yes else No) ≢ No
true_some true e never = cc never
true_some false e never = true≢false (sym e)

may_some : (b : Bool) → b ≡ true → (if b then Maybe else No) ≢ No
may_some true e never = cc never
may_some false e never = true≢false (sym e)

pub inner_sees : (k : RangeKey) (v : Range) (q : RangeQuery) → IsRange Int8 v → IsQuery q → IsOver k (leaf_key v) → leaf_answer (leaf_key v) q ≢ No → inner_answer k q ≢ No
inner_sees k v q p r over some =
    let told = some_true (leaf_holds v q) (λ no. some (leaf_told v q ∙ no)) in
    may_some (query_may k q) (may_see k v q p r over (told_holds v q told))

pub leaf_sees : (v : Range) (q : RangeQuery) → QueryHolds v q → leaf_answer (leaf_key v) q ≢ No
leaf_sees v q h never = true_some (leaf_holds v q) (holds_told v q h) (sym (leaf_told v q) ∙ never)

pub leaf_is_sure : (v : Range) (q : RangeQuery) → leaf_answer (leaf_key v) q ≡ Yes → QueryHolds v q
leaf_is_sure v q sure = told_holds v q (yes_true (leaf_holds v q) (sym (leaf_told v q) ∙ sure))
