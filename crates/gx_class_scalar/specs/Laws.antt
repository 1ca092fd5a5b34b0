-- What the laws of the class stand on.
use Rattle.std.specs.Prelude.{◌≡◌, ◌≢◌, ℕ, zero, suc, ◌^◌, ◌<◌, ◌≤◌, ◌⊎◌, Bool, true, false, not, ◌&&◌, cond, nat_lt, nat_le, List, [], ◌∷◌, length, take, ℤ, if◌then◌else◌, refl}
use Rattle.std.proofs.Common.{sym, ap, subst, ◌∙◌, inl, inr, arith, true≢false, length-take, ltb-true, ltb-false, leb-true}
use Rattle.std.specs.Ordering.{nat_cmp, int_cmp, bool_cmp, is_eq, is_lt, is_le, is_gt, is_ge, ordering_then, ordering_reverse}
use Rattle.std.specs.Cmp.{IsTotalOrder}
use Rattle.std.specs.Cmp.Lexicographic.{slice_cmp}
use Rattle.std.specs.declared.cmp.Ordering.{Ordering}
use Rattle.std.specs.declared.cmp.Ordering.TheVariants.{Less, Equal, Greater}
use Rattle.std.proofs.lemmas.Cmp.{upto, tied_itself, alike_right, nat_cmp_total, int_cmp_total, nat_list_cmp_total, then_total, on_total}
use Rattle.std.specs.Cmp.{bool_cmp_total}
use Rattle.std.proofs.lemmas.List.{take_all}
use Rattle.gx_gist.specs.declared.test.Test.{Test}
use Rattle.gx_gist.specs.declared.test.Test.TheVariants.{No, Maybe, Yes}
use Rattle.gx_scalar.specs.declared.scalar.Scalar.{Scalar}
use Rattle.gx_scalar.specs.declared.scalar.Scalar.TheVariants as scalars
use Rattle.gx_scalar.specs.declared.scalar.ScalarKind.{ScalarKind}
use Rattle.gx_scalar.specs.declared.scalar.ScalarKind.TheVariants as kinds
use Rattle.gx_scalar.specs.Values.{IsScalar, kind_of, least_int4, greatest_int4, least_int8, greatest_int8}
use Rattle.gx_bytes.specs.Wholes.{IsWithin}
use Rattle.gx_bytes.specs.Days.{IsDateDay}
use Rattle.gx_scalar.specs.Operators.{order, accepts, Holds}
use Rattle.gx_class_scalar.specs.declared.key.Part.{Part}
use Rattle.gx_class_scalar.specs.declared.key.ScalarKey.{ScalarKey}
use Rattle.gx_class_scalar.specs.declared.key.ScalarKey.TheVariants.{Int4, Int8, Date, Uuid, Cut}
use Rattle.gx_scalar.specs.declared.operators.ScalarOp.{ScalarOp}
use Rattle.gx_scalar.specs.declared.operators.ScalarOp.TheVariants as ops
use Rattle.gx_class_scalar.specs.declared.query.ScalarQuery.{ScalarQuery}
use Rattle.gx_class_scalar.specs.Orders.{may_accept, may_accept_cut, IsAtMost, lesser, greater}
use Rattle.gx_class_scalar.specs.Keys.{front, part_of, part_cmp, leaf_key, joined, IsOver, IsPart, IsKey}
use Rattle.gx_class_scalar.specs.Tests.{decided, cut_place, part_test, leaf_answer, may, inner_answer}

-- of any total order
back_of : (r : Ordering) → is_gt r ≡ true → is_gt (ordering_reverse r) ≡ false
back_of Less e = absurd (true≢false (sym e))
back_of Equal e = absurd (true≢false (sym e))
back_of Greater e = refl

gt_back : {T : Type 0} (R : T → T → Ordering) → IsTotalOrder R → (a b : T) → is_gt (R a b) ≡ true → is_gt (R b a) ≡ false
gt_back R o a b e = ap is_gt (o.antisymm b a) ∙ back_of (R a b) e

itself : {T : Type 0} (R : T → T → Ordering) → IsTotalOrder R → (a : T) → is_gt (R a a) ≡ false
itself R o a = ap is_gt (tied_itself o a)

lesser_left : {T : Type 0} (R : T → T → Ordering) → IsTotalOrder R → (a b : T) → (g : Bool) → is_gt (R a b) ≡ g → is_gt (R (cond g b a) a) ≡ false
lesser_left R o a b true e = gt_back R o a b e
lesser_left R o a b false e = itself R o a

lesser_right : {T : Type 0} (R : T → T → Ordering) → IsTotalOrder R → (a b : T) → (g : Bool) → is_gt (R a b) ≡ g → is_gt (R (cond g b a) b) ≡ false
lesser_right R o a b true e = itself R o b
lesser_right R o a b false e = e

greater_left : {T : Type 0} (R : T → T → Ordering) → IsTotalOrder R → (a b : T) → (g : Bool) → is_gt (R a b) ≡ g → is_gt (R a (cond g a b)) ≡ false
greater_left R o a b true e = itself R o a
greater_left R o a b false e = e

greater_right : {T : Type 0} (R : T → T → Ordering) → IsTotalOrder R → (a b : T) → (g : Bool) → is_gt (R a b) ≡ g → is_gt (R b (cond g a b)) ≡ false
greater_right R o a b true e = gt_back R o a b e
greater_right R o a b false e = itself R o b

span_left : {T : Type 0} (R : T → T → Ordering) → IsTotalOrder R → (a b c d v w : T) → IsAtMost R a v → IsAtMost R w b
    → IsAtMost R (lesser R a c) v × IsAtMost R w (greater R b d)
span_left R o a b c d v w low high = (
  upto o (lesser R a c) a v (lesser_left R o a c (is_gt (R a c)) refl) low,
  upto o w b (greater R b d) high (greater_left R o b d (is_gt (R b d)) refl),
)

span_right : {T : Type 0} (R : T → T → Ordering) → IsTotalOrder R → (a b c d v w : T) → IsAtMost R c v → IsAtMost R w d
    → IsAtMost R (lesser R a c) v × IsAtMost R w (greater R b d)
span_right R o a b c d v w low high = (
  upto o (lesser R a c) c v (lesser_right R o a c (is_gt (R a c)) refl) low,
  upto o w d (greater R b d) high (greater_right R o b d (is_gt (R b d)) refl),
)

span_rises : {T : Type 0} (R : T → T → Ordering) → IsTotalOrder R → (a b c d : T) → IsAtMost R a b → IsAtMost R (lesser R a c) (greater R b d)
span_rises R o a b c d le =
    let front = span_left R o a b c d b a le le in
    upto o (lesser R a c) b (greater R b d) front.0 (greater_left R o b d (is_gt (R b d)) refl)

picked : {T : Type 0} (P : T → Type 0) (a b : T) (g : Bool) → P a → P b → P (cond g a b)
picked P a b true p q = p
picked P a b false p q = q

-- a place from others
le_not_gt : (r : Ordering) → is_le r ≡ true → is_gt r ≡ false
le_not_gt Less e = refl
le_not_gt Equal e = refl
le_not_gt Greater e = absurd (true≢false (sym e))

not_gt_le : (r : Ordering) → is_gt r ≡ false → is_le r ≡ true
not_gt_le Less e = refl
not_gt_le Equal e = refl
not_gt_le Greater e = absurd (true≢false e)

ge_of : (r : Ordering) → is_gt (ordering_reverse r) ≡ false → is_ge r ≡ true
ge_of Less e = absurd (true≢false e)
ge_of Equal e = refl
ge_of Greater e = refl

ge_out : (r : Ordering) → is_ge r ≡ true → is_gt (ordering_reverse r) ≡ false
ge_out Less e = absurd (true≢false (sym e))
ge_out Equal e = refl
ge_out Greater e = refl

le_below : {T : Type 0} (R : T → T → Ordering) → IsTotalOrder R → (x y z : T) → IsAtMost R x y → is_le (R y z) ≡ true → is_le (R x z) ≡ true
le_below R o x y z low e = not_gt_le (R x z) (upto o x y z low (le_not_gt (R y z) e))

ge_above : {T : Type 0} (R : T → T → Ordering) → IsTotalOrder R → (x y z : T) → IsAtMost R y x → is_ge (R y z) ≡ true → is_ge (R x z) ≡ true
ge_above R o x y z high e =
    let below : is_gt (R z y) ≡ false = ap is_gt (o.antisymm z y) ∙ ge_out (R y z) e in
    ge_of (R x z) (sym (ap is_gt (o.antisymm z x)) ∙ upto o z y x below high)

lt_below : {T : Type 0} (R : T → T → Ordering) → IsTotalOrder R → (x y z : T) (r : Ordering) → R x y ≡ r → is_gt r ≡ false → R y z ≡ Less → R x z ≡ Less
lt_below R o x y z Less e low lt = o.trans x y z e lt
lt_below R o x y z Equal e low lt = o.congr x y z e ∙ lt
lt_below R o x y z Greater e low lt = absurd (true≢false low)

lt_is : (r : Ordering) → is_lt r ≡ true → r ≡ Less
lt_is Less e = refl
lt_is Equal e = absurd (true≢false (sym e))
lt_is Greater e = absurd (true≢false (sym e))

gt_is : (r : Ordering) → is_gt r ≡ true → r ≡ Greater
gt_is Less e = absurd (true≢false (sym e))
gt_is Equal e = absurd (true≢false (sym e))
gt_is Greater e = refl

eq_is : (r : Ordering) → is_eq r ≡ true → r ≡ Equal
eq_is Less e = absurd (true≢false (sym e))
eq_is Equal e = refl
eq_is Greater e = absurd (true≢false (sym e))

reverse_twice : (r : Ordering) → ordering_reverse (ordering_reverse r) ≡ r
reverse_twice Less = refl
reverse_twice Equal = refl
reverse_twice Greater = refl

less_then : {T : Type 0} (R : T → T → Ordering) → IsTotalOrder R → (z y x : T) (r : Ordering) → R y x ≡ r → is_gt r ≡ false → R z y ≡ Less → R z x ≡ Less
less_then R o z y x Less e high lt = o.trans z y x lt e
less_then R o z y x Equal e high lt = sym (alike_right o y x z e) ∙ lt
less_then R o z y x Greater e high lt = absurd (true≢false high)

gt_above : {T : Type 0} (R : T → T → Ordering) → IsTotalOrder R → (x y z : T) → IsAtMost R y x → R y z ≡ Greater → R x z ≡ Greater
gt_above R o x y z high e =
    let below : R z y ≡ Less = o.antisymm z y ∙ ap ordering_reverse e in
    let less : R z x ≡ Less = less_then R o z y x (R y x) refl high below in
    o.antisymm x z ∙ ap ordering_reverse less

both : (a b : Bool) → a ≡ true → b ≡ true → (a && b) ≡ true
both a b e f = rw (e, f) refl

eq_from : (r : Ordering) → is_gt r ≡ false → is_gt (ordering_reverse r) ≡ false → is_eq r ≡ true
eq_from Less a b = absurd (true≢false b)
eq_from Equal a b = refl
eq_from Greater a b = absurd (true≢false a)

both_out : (a b : Bool) → (a && b) ≡ true → (a ≡ true) × (b ≡ true)
both_out true true e = (refl, refl)
both_out true false e = absurd (true≢false (sym e))
both_out false b e = absurd (true≢false (sym e))

-- equal to both ends, and so equal
squeezed : {T : Type 0} (R : T → T → Ordering) → IsTotalOrder R → (lo v hi q : T) → IsAtMost R lo v → IsAtMost R v hi → (a b : Bool) → is_eq (R lo q) ≡ a → is_eq (R hi q) ≡ b → is_eq (R v q) ≡ false → not (a && b) ≡ true
squeezed R o lo v hi q low high true true ea eb e =
    let above : is_gt (R q v) ≡ false = ap is_gt (sym (o.congr lo q v (eq_is (R lo q) ea))) ∙ low in
    let below : is_gt (R v q) ≡ false = ap is_gt (sym (alike_right o hi q v (eq_is (R hi q) eb))) ∙ high in
    let same = eq_from (R v q) below (ap is_gt (sym (o.antisymm q v)) ∙ above) in
    absurd (true≢false (sym same ∙ e))
squeezed R o lo v hi q low high true false ea eb e = refl
squeezed R o lo v hi q low high false b ea eb e = refl

not_true : (b : Bool) → not b ≡ true → b ≡ false
not_true true e = absurd (true≢false (sym e))
not_true false e = refl

-- what an operator says of a value between two ends
between : {T : Type 0} (R : T → T → Ordering) → IsTotalOrder R → (op : ScalarOp) (lo v hi q : T) → IsAtMost R lo v → IsAtMost R v hi → accepts op (R v q) ≡ true → may_accept op (R lo q) (R hi q) ≡ true
between R o ops.Equal lo v hi q low high e =
    let same = eq_is (R v q) e in
    both (is_le (R lo q)) (is_ge (R hi q)) (le_below R o lo v q low (ap is_le same)) (ge_above R o hi v q high (ap is_ge same))
between R o ops.NotEqual lo v hi q low high e = squeezed R o lo v hi q low high (is_eq (R lo q)) (is_eq (R hi q)) refl refl (not_true (is_eq (R v q)) e)
between R o ops.Less lo v hi q low high e = ap is_lt (lt_below R o lo v q (R lo v) refl low (lt_is (R v q) e))
between R o ops.LessEqual lo v hi q low high e = le_below R o lo v q low e
between R o ops.Greater lo v hi q low high e = ap is_gt (gt_above R o hi v q high (gt_is (R v q) e))
between R o ops.GreaterEqual lo v hi q low high e = ge_above R o hi v q high e

-- of a value that was cut: what its front says of the operand's front
cut_between : {T : Type 0} (R : T → T → Ordering) → IsTotalOrder R → (op : ScalarOp) (lo v hi q : T) → IsAtMost R lo v → IsAtMost R v hi → may_accept_cut op (R v q) (R v q) ≡ true → may_accept_cut op (R lo q) (R hi q) ≡ true
cut_between R o ops.Equal lo v hi q low high e =
    let parts = both_out (is_le (R v q)) (is_ge (R v q)) e in
    both (is_le (R lo q)) (is_ge (R hi q)) (le_below R o lo v q low parts.0) (ge_above R o hi v q high parts.1)
cut_between R o ops.NotEqual lo v hi q low high e = refl
cut_between R o ops.Less lo v hi q low high e = le_below R o lo v q low e
cut_between R o ops.LessEqual lo v hi q low high e = le_below R o lo v q low e
cut_between R o ops.Greater lo v hi q low high e = ge_above R o hi v q high e
cut_between R o ops.GreaterEqual lo v hi q low high e = ge_above R o hi v q high e

-- lists of bytes and their fronts
abbrev bytes_cmp : List ℕ → List ℕ → Ordering
bytes_cmp = slice_cmp nat_cmp

then_le : (r s t : Ordering) → (is_gt s ≡ false → is_gt t ≡ false) → is_gt (ordering_then r s) ≡ false → is_gt (ordering_then r t) ≡ false
then_le Less s t f e = refl
then_le Equal s t f e = f e
then_le Greater s t f e = e

then_is : (r s t u : Ordering) → (s ≡ u → t ≡ u) → ordering_then r s ≡ u → ordering_then r t ≡ u
then_is Less s t u f e = e
then_is Equal s t u f e = f e
then_is Greater s t u f e = e

front_le : (n : ℕ) (a b : List ℕ) → is_gt (bytes_cmp a b) ≡ false → is_gt (bytes_cmp (take n a) (take n b)) ≡ false
front_le zero a b e = refl
front_le (suc n) [] [] e = refl
front_le (suc n) [] (y ∷ ys) e = refl
front_le (suc n) (x ∷ xs) [] e = e
front_le (suc n) (x ∷ xs) (y ∷ ys) e =
    then_le (nat_cmp x y) (bytes_cmp xs ys) (bytes_cmp (take n xs) (take n ys)) (front_le n xs ys) e

-- where the fronts differ, they decide
fronts_differ : (n : ℕ) (a b : List ℕ) (u : Ordering) → u ≢ Equal → bytes_cmp (take n a) (take n b) ≡ u → bytes_cmp a b ≡ u
fronts_differ zero a b u other e = absurd (other (sym e))
fronts_differ (suc n) [] [] u other e = e
fronts_differ (suc n) [] (y ∷ ys) u other e = e
fronts_differ (suc n) (x ∷ xs) [] u other e = e
fronts_differ (suc n) (x ∷ xs) (y ∷ ys) u other e =
    then_is (nat_cmp x y) (bytes_cmp (take n xs) (take n ys)) (bytes_cmp xs ys) u (fronts_differ n xs ys u other) e

then_equal : (r s : Ordering) → ordering_then r s ≡ Equal → (r ≡ Equal) × (s ≡ Equal)
then_equal Less s e = absurd (true≢false (ap is_lt e))
then_equal Equal s e = (refl, e)
then_equal Greater s e = absurd (true≢false (ap is_gt e))

-- where they are equal, and the operand is no longer than its front, a longer value is greater
goes_on : (n : ℕ) (a b : List ℕ) → bytes_cmp (take n a) (take n b) ≡ Equal → length b ≤ n → n < length a → bytes_cmp a b ≡ Greater
goes_on zero [] b e short long = absurd (omega (arith, long))
goes_on zero (x ∷ xs) [] e short long = refl
goes_on zero (x ∷ xs) (y ∷ ys) e short long = absurd (omega (arith, short))
goes_on (suc n) [] b e short long = absurd (omega (arith, long))
goes_on (suc n) (x ∷ xs) [] e short long = refl
goes_on (suc n) (x ∷ xs) (y ∷ ys) e short long =
    let parts = then_equal (nat_cmp x y) (bytes_cmp (take n xs) (take n ys)) e in
    let rest = goes_on n xs ys parts.1 (omega (arith, short)) (omega (arith, long)) in
    ap (λ r. ordering_then r (bytes_cmp xs ys)) parts.0 ∙ rest

front_is : (v : List ℕ) → front v ≡ take 900 v
unfolding front
front_is v = refl

front_short : (v : List ℕ) → length v ≤ 900 → front v ≡ v
front_short v short = front_is v ∙ take_all 900 v short

fronts : (v q : List ℕ) (r : Ordering) → bytes_cmp (front v) (front q) ≡ r → bytes_cmp (take 900 v) (take 900 q) ≡ r
fronts v q r e = rw (← front_is v, ← front_is q) e

-- what the test of one cut value tells: its place, or that the fronts are equal
abbrev Told : ScalarOp → List ℕ → List ℕ → Test → Type 0
Told op v q t = (t ≡ decided op (bytes_cmp v q)) ⊎ ((t ≡ Maybe) × (bytes_cmp (front v) (front q) ≡ Equal))

less_other : Less ≢ Equal
less_other e = true≢false (ap is_lt e)

greater_other : Greater ≢ Equal
greater_other e = true≢false (ap is_gt e)

told_at : (op : ScalarOp) (v q : List ℕ) (m : Bool) (r : Ordering) (w : Bool) → nat_lt 900 (length v) ≡ m → bytes_cmp (front v) (front q) ≡ r → nat_le (length q) 900 ≡ w
    → Told op v q (if m then cut_place op w r else decided op (bytes_cmp (front v) q))
told_at op v q false r w em er ew = inl (ap (λ t. decided op (bytes_cmp t q)) (front_short v (ltb-false 900 (length v) em)))
told_at op v q true Less w em er ew = inl (ap (decided op) (sym (fronts_differ 900 v q Less less_other (fronts v q Less er))))
told_at op v q true Greater w em er ew = inl (ap (decided op) (sym (fronts_differ 900 v q Greater greater_other (fronts v q Greater er))))
told_at op v q true Equal true em er ew = inl (ap (decided op) (sym (goes_on 900 v q (fronts v q Equal er) (leb-true (length q) 900 ew) (ltb-true 900 (length v) em))))
told_at op v q true Equal false em er ew = inr (refl, er)

part_told : (op : ScalarOp) (v q : List ℕ) → Told op v q (part_test op (part_of v) q)
part_told op v q = told_at op v q (nat_lt 900 (length v)) (bytes_cmp (front v) (front q)) (nat_le (length q) 900) refl refl refl

yes_true : (b : Bool) → (if b then Yes else No) ≡ Yes → b ≡ true
yes_true true e = refl
yes_true false e = cc e

some_true : (b : Bool) → (if b then Yes else No) ≢ No → b ≡ true
some_true true e = refl
some_true false e = absurd (e refl)

true_some : (b : Bool) → b ≡ true → (if b then Yes else No) ≢ No
true_some true e never = cc never
true_some false e never = true≢false (sym e)

may_some : (b : Bool) → b ≡ true → may b ≢ No
may_some true e never = cc never
may_some false e never = true≢false (sym e)

abbrev Answered : ScalarOp → Scalar → Scalar → Type 0
Answered op v w = (leaf_answer op (leaf_key v) w ≡ decided op (order v w)) ⊎ (leaf_answer op (leaf_key v) w ≡ Maybe)

told_answered : (op : ScalarOp) (v q : List ℕ) (t : Test) → Told op v q t → (t ≡ decided op (bytes_cmp v q)) ⊎ (t ≡ Maybe)
told_answered op v q t (inl e) = inl e
told_answered op v q t (inr e) = inr e.0

answered : (op : ScalarOp) (v w : Scalar) → kind_of v ≡ kind_of w → Answered op v w
answered op (scalars.Int4 m) (scalars.Int4 n) k = inl refl
answered op (scalars.Int8 m) (scalars.Int8 n) k = inl refl
answered op (scalars.Date m) (scalars.Date n) k = inl refl
answered op (scalars.Uuid m) (scalars.Uuid n) k = inl refl
answered op (scalars.Text v) (scalars.Text q) k = told_answered op v q (part_test op (part_of v) q) (part_told op v q)
answered op (scalars.Bytea v) (scalars.Bytea q) k = told_answered op v q (part_test op (part_of v) q) (part_told op v q)
answered op v w k = absurd (cc k)

same_kind : (kind : ScalarKind) (v w : Scalar) → IsScalar kind v → IsScalar kind w → kind_of v ≡ kind_of w
same_kind kind v w p q = p.0 ∙ sym q.0

pub leaf_sees : (kind : ScalarKind) (v : Scalar) (q : ScalarQuery) → IsScalar kind v → IsScalar kind q.operand → Holds q.op v q.operand → leaf_answer q.op (leaf_key v) q.operand ≢ No
leaf_sees kind v q p r holds never =
    elim (answered q.op v q.operand (same_kind kind v q.operand p r)) [
      | inl e ↦ true_some (accepts q.op (order v q.operand)) holds (sym e ∙ never)
      | inr e ↦ let both_ : Maybe ≡ No = sym e ∙ never in cc both_
    ]

pub leaf_is_sure : (kind : ScalarKind) (v : Scalar) (q : ScalarQuery) → IsScalar kind v → IsScalar kind q.operand → leaf_answer q.op (leaf_key v) q.operand ≡ Yes → Holds q.op v q.operand
leaf_is_sure kind v q p r sure =
    elim (answered q.op v q.operand (same_kind kind v q.operand p r)) [
      | inl e ↦ yes_true (accepts q.op (order v q.operand)) (sym e ∙ sure)
      | inr e ↦ let both_ : Maybe ≡ Yes = sym e ∙ sure in cc both_
    ]

-- the order of parts
part_total : IsTotalOrder part_cmp
part_total = then_total (on_total (λ (p : Part). p.bytes) nat_list_cmp_total) (on_total (λ (p : Part). p.more) bool_cmp_total)

first_le : (r s : Ordering) → is_gt (ordering_then r s) ≡ false → is_gt r ≡ false
first_le Less s e = refl
first_le Equal s e = refl
first_le Greater s e = e

part_le : (a b : Part) → IsAtMost part_cmp a b → is_gt (bytes_cmp a.bytes b.bytes) ≡ false
part_le a b e = first_le (bytes_cmp a.bytes b.bytes) (bool_cmp a.more b.more) e

-- the fronts keep what the values say
front_below : (v q : List ℕ) → is_gt (bytes_cmp v q) ≡ false → is_le (bytes_cmp (front v) (front q)) ≡ true
front_below v q e = rw (front_is v, front_is q) (not_gt_le (bytes_cmp (take 900 v) (take 900 q)) (front_le 900 v q e))

front_above : (v q : List ℕ) → is_gt (bytes_cmp q v) ≡ false → is_ge (bytes_cmp (front v) (front q)) ≡ true
front_above v q e =
    rw (front_is v, front_is q) (ge_of (bytes_cmp (take 900 v) (take 900 q)) (sym (ap is_gt (nat_list_cmp_total.antisymm (take 900 q) (take 900 v))) ∙ front_le 900 q v e))

flip_eq : (v q : List ℕ) → bytes_cmp v q ≡ Equal → is_gt (bytes_cmp q v) ≡ false
flip_eq v q e = ap is_gt (nat_list_cmp_total.antisymm q v ∙ ap ordering_reverse e)

front_fact : (op : ScalarOp) (v q : List ℕ) → accepts op (bytes_cmp v q) ≡ true → may_accept_cut op (bytes_cmp (front v) (front q)) (bytes_cmp (front v) (front q)) ≡ true
front_fact ops.Equal v q e =
    let same = eq_is (bytes_cmp v q) e in
    both (is_le (bytes_cmp (front v) (front q))) (is_ge (bytes_cmp (front v) (front q))) (front_below v q (ap is_gt same)) (front_above v q (flip_eq v q same))
front_fact ops.NotEqual v q e = refl
front_fact ops.Less v q e = front_below v q (ap is_gt (lt_is (bytes_cmp v q) e))
front_fact ops.LessEqual v q e = front_below v q (le_not_gt (bytes_cmp v q) e)
front_fact ops.Greater v q e = front_above v q (gt_back bytes_cmp nat_list_cmp_total v q e)
front_fact ops.GreaterEqual v q e = front_above v q (ap is_gt (nat_list_cmp_total.antisymm q v) ∙ ge_out (bytes_cmp v q) e)

equal_fact : (op : ScalarOp) (r : Ordering) → r ≡ Equal → may_accept_cut op r r ≡ true
equal_fact ops.Equal r e = rw e refl
equal_fact ops.NotEqual r e = refl
equal_fact ops.Less r e = ap is_le e
equal_fact ops.LessEqual r e = ap is_le e
equal_fact ops.Greater r e = ap is_ge e
equal_fact ops.GreaterEqual r e = ap is_ge e

told_fact : (op : ScalarOp) (v q : List ℕ) (t : Test) → Told op v q t → t ≢ No → may_accept_cut op (bytes_cmp (front v) (front q)) (bytes_cmp (front v) (front q)) ≡ true
told_fact op v q t (inl e) some = front_fact op v q (some_true (accepts op (bytes_cmp v q)) (λ no. some (e ∙ no)))
told_fact op v q t (inr e) some = equal_fact op (bytes_cmp (front v) (front q)) e.1

parts_see : (op : ScalarOp) (key : ScalarKey) (v q : List ℕ) (operand : Scalar) → (operand ≡ scalars.Text q) ⊎ (operand ≡ scalars.Bytea q) → IsOver key (Cut (part_of v) (part_of v))
    → part_test op (part_of v) q ≢ No → inner_answer op key operand ≢ No
parts_see op (Cut a b) v q operand is over some =
    let fact = told_fact op v q (part_test op (part_of v) q) (part_told op v q) some in
    let between_ = cut_between bytes_cmp nat_list_cmp_total op a.bytes (front v) b.bytes (front q) (part_le a (part_of v) over.0) (part_le (part_of v) b over.1) fact in
    let P : Scalar → Type 0 = λ w. inner_answer op (Cut a b) w ≢ No in
    elim is [ inl e ↦ subst P (sym e) (may_some _ between_) | inr e ↦ subst P (sym e) (may_some _ between_) ]
parts_see op (Int4 a b) v q operand is over some = absurd over
parts_see op (Int8 a b) v q operand is over some = absurd over
parts_see op (Date a b) v q operand is over some = absurd over
parts_see op (Uuid a b) v q operand is over some = absurd over

int4_sees : (op : ScalarOp) (key : ScalarKey) (v q : ℤ) → IsOver key (Int4 v v) → decided op (int_cmp v q) ≢ No → inner_answer op key (scalars.Int4 q) ≢ No
int4_sees op (Int4 a b) v q over some = may_some _ (between int_cmp int_cmp_total op a v b q over.0 over.1 (some_true (accepts op (int_cmp v q)) some))
int4_sees op (Int8 a b) v q over some = absurd over
int4_sees op (Date a b) v q over some = absurd over
int4_sees op (Uuid a b) v q over some = absurd over
int4_sees op (Cut a b) v q over some = absurd over

int8_sees : (op : ScalarOp) (key : ScalarKey) (v q : ℤ) → IsOver key (Int8 v v) → decided op (int_cmp v q) ≢ No → inner_answer op key (scalars.Int8 q) ≢ No
int8_sees op (Int8 a b) v q over some = may_some _ (between int_cmp int_cmp_total op a v b q over.0 over.1 (some_true (accepts op (int_cmp v q)) some))
int8_sees op (Int4 a b) v q over some = absurd over
int8_sees op (Date a b) v q over some = absurd over
int8_sees op (Uuid a b) v q over some = absurd over
int8_sees op (Cut a b) v q over some = absurd over

date_sees : (op : ScalarOp) (key : ScalarKey) (v q : ℤ) → IsOver key (Date v v) → decided op (int_cmp v q) ≢ No → inner_answer op key (scalars.Date q) ≢ No
date_sees op (Date a b) v q over some = may_some _ (between int_cmp int_cmp_total op a v b q over.0 over.1 (some_true (accepts op (int_cmp v q)) some))
date_sees op (Int4 a b) v q over some = absurd over
date_sees op (Int8 a b) v q over some = absurd over
date_sees op (Uuid a b) v q over some = absurd over
date_sees op (Cut a b) v q over some = absurd over

uuid_sees : (op : ScalarOp) (key : ScalarKey) (v q : ℕ) → IsOver key (Uuid v v) → decided op (nat_cmp v q) ≢ No → inner_answer op key (scalars.Uuid q) ≢ No
uuid_sees op (Uuid a b) v q over some = may_some _ (between nat_cmp nat_cmp_total op a v b q over.0 over.1 (some_true (accepts op (nat_cmp v q)) some))
uuid_sees op (Int4 a b) v q over some = absurd over
uuid_sees op (Int8 a b) v q over some = absurd over
uuid_sees op (Date a b) v q over some = absurd over
uuid_sees op (Cut a b) v q over some = absurd over

sees : (op : ScalarOp) (key : ScalarKey) (v w : Scalar) → kind_of v ≡ kind_of w → IsOver key (leaf_key v) → leaf_answer op (leaf_key v) w ≢ No → inner_answer op key w ≢ No
sees op key (scalars.Int4 m) (scalars.Int4 n) k over some = int4_sees op key m n over some
sees op key (scalars.Int8 m) (scalars.Int8 n) k over some = int8_sees op key m n over some
sees op key (scalars.Date m) (scalars.Date n) k over some = date_sees op key m n over some
sees op key (scalars.Uuid m) (scalars.Uuid n) k over some = uuid_sees op key m n over some
sees op key (scalars.Text v) (scalars.Text q) k over some = parts_see op key v q (scalars.Text q) (inl refl) over some
sees op key (scalars.Bytea v) (scalars.Bytea q) k over some = parts_see op key v q (scalars.Bytea q) (inr refl) over some
sees op key v w k over some = absurd (cc k)

pub inner_sees : (kind : ScalarKind) (key : ScalarKey) (v : Scalar) (q : ScalarQuery) → IsScalar kind v → IsScalar kind q.operand → IsOver key (leaf_key v) → leaf_answer q.op (leaf_key v) q.operand ≢ No → inner_answer q.op key q.operand ≢ No
inner_sees kind key v q p r over some = sees q.op key v q.operand (same_kind kind v q.operand p r) over some

-- a key of one value is over itself, and is valid
pub over_itself : (v : Scalar) → IsOver (leaf_key v) (leaf_key v)
over_itself (scalars.Int4 n) = (itself int_cmp int_cmp_total n, itself int_cmp int_cmp_total n)
over_itself (scalars.Int8 n) = (itself int_cmp int_cmp_total n, itself int_cmp int_cmp_total n)
over_itself (scalars.Date n) = (itself int_cmp int_cmp_total n, itself int_cmp int_cmp_total n)
over_itself (scalars.Uuid n) = (itself nat_cmp nat_cmp_total n, itself nat_cmp nat_cmp_total n)
over_itself (scalars.Text v) = (itself part_cmp part_total (part_of v), itself part_cmp part_total (part_of v))
over_itself (scalars.Bytea v) = (itself part_cmp part_total (part_of v), itself part_cmp part_total (part_of v))

pub part_valid : (v : List ℕ) → IsPart (part_of v)
part_valid v =
    let cut_ = ap length (front_is v) in
    record { size = omega (arith, cut_, length-take 900 v); full = λ more. omega (arith, cut_, length-take 900 v, ltb-true 900 (length v) more) }

pub leaf_is_valid : (kind : ScalarKind) (v : Scalar) → IsScalar kind v → IsKey kind (leaf_key v)
leaf_is_valid kind (scalars.Int4 n) p = (sym p.0, p.1, p.1, itself int_cmp int_cmp_total n)
leaf_is_valid kind (scalars.Int8 n) p = (sym p.0, p.1, p.1, itself int_cmp int_cmp_total n)
leaf_is_valid kind (scalars.Date n) p = (sym p.0, p.1, p.1, itself int_cmp int_cmp_total n)
leaf_is_valid kind (scalars.Uuid n) p = (sym p.0, p.1, p.1, itself nat_cmp nat_cmp_total n)
leaf_is_valid kind (scalars.Text v) p = (inl (sym p.0), part_valid v, part_valid v, itself part_cmp part_total (part_of v))
leaf_is_valid kind (scalars.Bytea v) p = (inr (sym p.0), part_valid v, part_valid v, itself part_cmp part_total (part_of v))

pub union_is_valid : (kind : ScalarKind) (a b : ScalarKey) → IsKey kind a → IsKey kind b → IsKey kind (joined a b)
union_is_valid kind (Int4 a b) (Int4 c d) p q = (
  p.0,
  picked (λ n. IsWithin least_int4 greatest_int4 n) c a (is_gt (int_cmp a c)) q.1 p.1,
  picked (λ n. IsWithin least_int4 greatest_int4 n) b d (is_gt (int_cmp b d)) p.2 q.2,
  span_rises int_cmp int_cmp_total a b c d p.3,
)
union_is_valid kind (Int8 a b) (Int8 c d) p q = (
  p.0,
  picked (λ n. IsWithin least_int8 greatest_int8 n) c a (is_gt (int_cmp a c)) q.1 p.1,
  picked (λ n. IsWithin least_int8 greatest_int8 n) b d (is_gt (int_cmp b d)) p.2 q.2,
  span_rises int_cmp int_cmp_total a b c d p.3,
)
union_is_valid kind (Date a b) (Date c d) p q = (
  p.0,
  picked (λ n. IsDateDay n) c a (is_gt (int_cmp a c)) q.1 p.1,
  picked (λ n. IsDateDay n) b d (is_gt (int_cmp b d)) p.2 q.2,
  span_rises int_cmp int_cmp_total a b c d p.3,
)
union_is_valid kind (Uuid a b) (Uuid c d) p q = (
  p.0,
  picked (λ n. n < 2 ^ 128) c a (is_gt (nat_cmp a c)) q.1 p.1,
  picked (λ n. n < 2 ^ 128) b d (is_gt (nat_cmp b d)) p.2 q.2,
  span_rises nat_cmp nat_cmp_total a b c d p.3,
)
union_is_valid kind (Cut a b) (Cut c d) p q = (
  p.0,
  picked (λ n. IsPart n) c a (is_gt (part_cmp a c)) q.1 p.1,
  picked (λ n. IsPart n) b d (is_gt (part_cmp b d)) p.2 q.2,
  span_rises part_cmp part_total a b c d p.3,
)
union_is_valid kind a b p q = p

-- a union is over what either part is over
pub over_left : (a b l : ScalarKey) → IsOver a l → IsOver (joined a b) l
over_left (Int4 a b) (Int4 c d) (Int4 e f) over = span_left int_cmp int_cmp_total a b c d e f over.0 over.1
over_left (Int8 a b) (Int8 c d) (Int8 e f) over = span_left int_cmp int_cmp_total a b c d e f over.0 over.1
over_left (Date a b) (Date c d) (Date e f) over = span_left int_cmp int_cmp_total a b c d e f over.0 over.1
over_left (Uuid a b) (Uuid c d) (Uuid e f) over = span_left nat_cmp nat_cmp_total a b c d e f over.0 over.1
over_left (Cut a b) (Cut c d) (Cut e f) over = span_left part_cmp part_total a b c d e f over.0 over.1
over_left a b l over = over

unfoldable pub key_tag : ScalarKey → ℕ
key_tag (Int4 a b) = 0
key_tag (Int8 a b) = 1
key_tag (Date a b) = 2
key_tag (Uuid a b) = 3
key_tag (Cut a b) = 4

kind_tag : ScalarKind → ℕ
kind_tag kinds.Int4 = 0
kind_tag kinds.Int8 = 1
kind_tag kinds.Date = 2
kind_tag kinds.Uuid = 3
kind_tag kinds.Text = 4
kind_tag kinds.Bytea = 4

tag_is : (kind : ScalarKind) (a : ScalarKey) → IsKey kind a → key_tag a ≡ kind_tag kind
unfolding key_tag kind_tag
tag_is kind (Int4 a b) p = ap kind_tag (sym p.0)
tag_is kind (Int8 a b) p = ap kind_tag (sym p.0)
tag_is kind (Date a b) p = ap kind_tag (sym p.0)
tag_is kind (Uuid a b) p = ap kind_tag (sym p.0)
tag_is kind (Cut a b) p = elim p.0 [ inl e ↦ ap kind_tag (sym e) | inr e ↦ ap kind_tag (sym e) ]

pub same_tag : (kind : ScalarKind) (a b : ScalarKey) → IsKey kind a → IsKey kind b → key_tag a ≡ key_tag b
same_tag kind a b p q = tag_is kind a p ∙ sym (tag_is kind b q)

right_of : (a b l : ScalarKey) → key_tag a ≡ key_tag b → IsOver b l → IsOver (joined a b) l
unfolding key_tag
right_of (Int4 a b) (Int4 c d) (Int4 e f) t over = span_right int_cmp int_cmp_total a b c d e f over.0 over.1
right_of (Int4 a b) (Int4 c d) l t over = over
right_of (Int8 a b) (Int8 c d) (Int8 e f) t over = span_right int_cmp int_cmp_total a b c d e f over.0 over.1
right_of (Int8 a b) (Int8 c d) l t over = over
right_of (Date a b) (Date c d) (Date e f) t over = span_right int_cmp int_cmp_total a b c d e f over.0 over.1
right_of (Date a b) (Date c d) l t over = over
right_of (Uuid a b) (Uuid c d) (Uuid e f) t over = span_right nat_cmp nat_cmp_total a b c d e f over.0 over.1
right_of (Uuid a b) (Uuid c d) l t over = over
right_of (Cut a b) (Cut c d) (Cut e f) t over = span_right part_cmp part_total a b c d e f over.0 over.1
right_of (Cut a b) (Cut c d) l t over = over
right_of a b l t over = absurd (omega (arith, t))

pub over_right : (kind : ScalarKind) (a b l : ScalarKey) → IsKey kind a → IsKey kind b → IsOver b l → IsOver (joined a b) l
over_right kind a b l p q over = right_of a b l (same_tag kind a b p q) over
