-- What the laws of the class stand on.
use Rattle.std.specs.Prelude.{◌≡◌, ◌≢◌, ℕ, ◌-◌, ◌*◌, ◌/◌, ◌^◌, ◌<◌, ◌≤◌, ◌==◌, nat_lt, nat_le, min, Bool, true, false, ◌&&◌, if◌then◌else◌, refl}
use Rattle.std.proofs.Common.{sym, ap, subst, ◌∙◌, arith, true≢false}
use Rattle.std.specs.Bool.{beq}
use Rattle.std.specs.Ordering.{nat_cmp, is_eq, is_lt, is_le, is_gt, is_ge, ordering_then}
use Rattle.std.specs.declared.cmp.Ordering.{Ordering}
use Rattle.std.specs.declared.cmp.Ordering.TheVariants.{Less, Equal, Greater}
use Rattle.std.proofs.lemmas.Bool.Decides.{nat_tests}
use Rattle.std.proofs.lemmas.Cmp.{ranked}
use Rattle.gx_gist.specs.declared.test.Test.TheVariants.{No, Maybe, Yes}
use Rattle.gx_inet.specs.declared.inet.Inet.{Inet}
use Rattle.gx_inet.specs.declared.inet.InetOp.{InetOp}
use Rattle.gx_inet.specs.declared.inet.InetOp.TheVariants as ops
use Rattle.gx_inet.specs.Value.{width, IsInet}
use Rattle.gx_inet.specs.Operators.{order, Holds}
use Rattle.gx_inet.specs.Decisions.{holds}
use Rattle.gx_inet.proofs.DecisionLemmas.{holds-Decides}
use Rattle.gx_class_inet.specs.declared.key.Net.{Net}
use Rattle.gx_class_inet.specs.declared.key.InetKey.{InetKey}
use Rattle.gx_class_inet.specs.declared.key.InetKey.TheVariants.{Mixed, Family}
use Rattle.gx_class_inet.specs.Keys.{first, IsNet, IsKey, leaf_net, leaf_key, common_of, cut_at, joined_nets, joined, IsOverNet, IsOver}
use Rattle.gx_class_inet.specs.Bits.{prefix, prefix_le, cut_front, cut_small, shared_few, shared_same}
use Rattle.gx_class_inet.specs.Tests.{leaf_answer, net_may, family_may, key_may, inner_answer}

-- leaf keys and unions
whole : (w x : ℕ) → x ≡ x / 2 ^ (w - w) * 2 ^ (w - w)
whole w x = let none : w - w ≡ 0 = omega arith in rw none (omega arith)

pub leaf_is_valid : (v : Inet) → IsInet v → IsKey (leaf_key v)
leaf_is_valid v p = record { mask = p.mask; common = omega arith; address = p.address; zeros = whole (width v.v6) v.address }

-- what both have in common is no more than either has
common_few : (a b : Net) → (common_of a b ≤ a.common) × (common_of a b ≤ b.common)
common_few a b =
    let few = shared_few (width a.v6) a.address b.address (min a.common b.common) in
    (omega (arith, few), omega (arith, few))

cut_valid : (a : Net) (mask n : ℕ) → IsNet a → mask ≤ width a.v6 → n ≤ width a.v6 → IsNet (cut_at a mask n)
cut_valid a mask n p q inside = record {
  mask = q;
  common = inside;
  address = cut_small (width a.v6) a.address n inside p.address;
  zeros = sym (ap (λ t. t * 2 ^ (width a.v6 - n)) (cut_front (width a.v6) a.address n n (omega arith) inside));
}

nets_valid : (a b : Net) → IsNet a → IsNet b → IsNet (joined_nets a b)
nets_valid a b p q =
    let few = common_few a b in
    let mask = p.mask in
    let common = p.common in
    cut_valid a (min a.mask b.mask) (common_of a b) p (omega arith) (omega (arith, few.0))

picked_valid : (t : Bool) (k l : InetKey) → IsKey k → IsKey l → IsKey (if t then k else l)
picked_valid true k l p q = p
picked_valid false k l p q = q

pub union_is_valid : (a b : InetKey) → IsKey a → IsKey b → IsKey (joined a b)
union_is_valid Mixed b p q = tt
union_is_valid (Family a) Mixed p q = tt
union_is_valid (Family a) (Family b) p q = picked_valid (beq a.v6 b.v6) (Family (joined_nets a b)) Mixed (nets_valid a b p q) tt

pub over_itself : (v : Inet) → IsOver (leaf_key v) (leaf_key v)
over_itself v = record { family = refl; mask = omega arith; common = omega arith; bits = refl }

same_family : (a b : Bool) → beq a b ≡ true → a ≡ b
same_family true true e = refl
same_family true false e = cc e
same_family false true e = cc e
same_family false false e = refl

-- first bits where the families are the same
bits_at : (a l : Net) (n : ℕ) → a.v6 ≡ l.v6 → first l n ≡ l.address / 2 ^ (width a.v6 - n)
bits_at a l n e = ap (λ t. l.address / 2 ^ (width t - n)) (sym e)

-- a cut of a key over another is over it, where no more is kept than the key has in common
cut_over : (a l : Net) (mask n : ℕ) → IsNet a → IsOverNet a l → mask ≤ a.mask → n ≤ a.common → IsOverNet (cut_at a mask n) l
cut_over a l mask n p over less few =
    let within = p.common in
    let w = width a.v6 in
    let lower = over.mask in
    let more = over.common in
    let same : a.address / 2 ^ (w - a.common) ≡ l.address / 2 ^ (w - a.common) = over.bits ∙ bits_at a l a.common over.family in
    record {
      family = over.family;
      mask = omega arith;
      common = omega arith;
      bits = cut_front w a.address n n (omega arith) (omega arith) ∙ prefix w a.address l.address a.common n few within same ∙ sym (bits_at a l n over.family);
    }

picked_over : (t : Bool) (k : Net) (l : InetKey) → (t ≡ true → IsOver (Family k) l) → IsOver (if t then Family k else Mixed) l
picked_over true k l h = h refl
picked_over false k l h = tt

left_nets : (a b l : Net) → IsNet a → IsOverNet a l → IsOverNet (joined_nets a b) l
left_nets a b l p over = cut_over a l (min a.mask b.mask) (common_of a b) p over (omega arith) (common_few a b).0

pub over_left : (a b l : InetKey) → IsKey a → IsOver a l → IsOver (joined a b) l
over_left Mixed b l p over = tt
over_left (Family a) Mixed l p over = tt
over_left (Family a) (Family b) Mixed p over = absurd over
over_left (Family a) (Family b) (Family l) p over = picked_over (beq a.v6 b.v6) (joined_nets a b) (Family l) (λ e. left_nets a b l p over)

-- the cut of one key is the cut of the other
right_nets : (a b l : Net) → IsNet a → IsNet b → a.v6 ≡ b.v6 → IsOverNet b l → IsOverNet (joined_nets a b) l
right_nets a b l p q e over =
    let w = width a.v6 in
    let few = common_few a b in
    let small = few.1 in
    let lower = over.mask in
    let more = over.common in
    let within : b.common ≤ w = subst (λ t. b.common ≤ width t) (sym e) q.common in
    let fits : b.address < 2 ^ w = subst (λ t. b.address < 2 ^ width t) (sym e) q.address in
    let here : a.address / 2 ^ (w - common_of a b) ≡ b.address / 2 ^ (w - common_of a b) = shared_same w a.address b.address (min a.common b.common) p.address fits in
    let there : b.address / 2 ^ (w - b.common) ≡ l.address / 2 ^ (w - b.common) =
    sym (bits_at a b b.common e) ∙ over.bits ∙ bits_at a l b.common (e ∙ over.family) in
    record {
      family = e ∙ over.family;
      mask = omega arith;
      common = omega arith;
      bits = cut_front w a.address (common_of a b) (common_of a b) (omega arith) (omega arith) ∙ here ∙ prefix w b.address l.address b.common (common_of a b) small within there
          ∙ sym (bits_at a l (common_of a b) (e ∙ over.family));
    }

pub over_right : (a b l : InetKey) → IsKey a → IsKey b → IsOver b l → IsOver (joined a b) l
over_right Mixed b l p q over = tt
over_right (Family a) Mixed l p q over = tt
over_right (Family a) (Family b) Mixed p q over = absurd over
over_right (Family a) (Family b) (Family l) p q over = picked_over (beq a.v6 b.v6) (joined_nets a b) (Family l) (λ e. right_nets a b l p q (same_family a.v6 b.v6 e) over)

-- orders of numbers
cmp_le : (a b : ℕ) (r : Ordering) → r ≡ nat_cmp a b → a ≤ b → is_le r ≡ true
cmp_le a b Less e h = refl
cmp_le a b Equal e h = refl
cmp_le a b Greater e h = let m = ranked a b Greater e in absurd (omega arith)

cmp_ge : (a b : ℕ) (r : Ordering) → r ≡ nat_cmp a b → b ≤ a → is_ge r ≡ true
cmp_ge a b Less e h = let m = ranked a b Less e in absurd (omega arith)
cmp_ge a b Equal e h = refl
cmp_ge a b Greater e h = refl

le_cmp : (a b : ℕ) (r : Ordering) → r ≡ nat_cmp a b → is_gt r ≡ false → a ≤ b
le_cmp a b Less e h = let m = ranked a b Less e in omega arith
le_cmp a b Equal e h = let m = ranked a b Equal e in omega arith
le_cmp a b Greater e h = absurd (true≢false h)

ge_cmp : (a b : ℕ) (r : Ordering) → r ≡ nat_cmp a b → is_lt r ≡ false → b ≤ a
ge_cmp a b Less e h = absurd (true≢false h)
ge_cmp a b Equal e h = let m = ranked a b Equal e in omega arith
ge_cmp a b Greater e h = let m = ranked a b Greater e in omega arith

first_le : (r s : Ordering) → is_gt (ordering_then r s) ≡ false → is_gt r ≡ false
first_le Less s e = refl
first_le Equal s e = refl
first_le Greater s e = e

first_ge : (r s : Ordering) → is_lt (ordering_then r s) ≡ false → is_lt r ≡ false
first_ge Less s e = e
first_ge Equal s e = refl
first_ge Greater s e = refl

lt_le : (r : Ordering) → is_lt r ≡ true → is_gt r ≡ false
lt_le Less e = refl
lt_le Equal e = refl
lt_le Greater e = absurd (true≢false (sym e))

le_le : (r : Ordering) → is_le r ≡ true → is_gt r ≡ false
le_le Less e = refl
le_le Equal e = refl
le_le Greater e = absurd (true≢false (sym e))

gt_ge : (r : Ordering) → is_gt r ≡ true → is_lt r ≡ false
gt_ge Less e = absurd (true≢false (sym e))
gt_ge Equal e = refl
gt_ge Greater e = refl

ge_ge : (r : Ordering) → is_ge r ≡ true → is_lt r ≡ false
ge_ge Less e = absurd (true≢false (sym e))
ge_ge Equal e = refl
ge_ge Greater e = refl

then_equal : (r s : Ordering) → is_eq (ordering_then r s) ≡ true → (is_eq r ≡ true) × (is_eq s ≡ true)
then_equal Less s e = absurd (true≢false (sym e))
then_equal Equal s e = (refl, e)
then_equal Greater s e = absurd (true≢false (sym e))

eq_cmp : (a b : ℕ) (r : Ordering) → r ≡ nat_cmp a b → is_eq r ≡ true → a ≡ b
eq_cmp a b Less e h = absurd (true≢false (sym h))
eq_cmp a b Equal e h = ranked a b Equal e
eq_cmp a b Greater e h = absurd (true≢false (sym h))

eq_test : (a b : ℕ) → a ≡ b → (a == b) ≡ true
eq_test a b e = grind (arith, nat_tests, e)

lt_test : (a b : ℕ) → a < b → nat_lt a b ≡ true
lt_test a b h = grind (arith, nat_tests, h)

le_test : (a b : ℕ) → a ≤ b → nat_le a b ≡ true
le_test a b h = grind (arith, nat_tests, h)

and_true : (a b : Bool) → a ≡ true → b ≡ true → (a && b) ≡ true
and_true a b p q = rw (p, q) refl

-- a key, an address below it and an operand, all of one family
abbrev net : Bool → ℕ → ℕ → ℕ → Net
net b m c a = record { v6 = b; mask = m; common = c; address = a }

abbrev inet : Bool → ℕ → ℕ → Inet
inet b m a = record { v6 = b; mask = m; address = a }

record Lies (w km kc ka vm va qm qa : ℕ) : Type 0 where
  common : kc ≤ w
  least : km ≤ vm
  mask : vm ≤ w
  other : qm ≤ w
  same : ka / 2 ^ (w - kc) ≡ va / 2 ^ (w - kc)

-- where the address and the operand share their first m bits, the key shares as many of these as it has in common
sees_same : (w km kc ka vm va qm qa m n : ℕ) → Lies w km kc ka vm va qm qa → n ≤ kc → n ≤ m → m ≤ w → va / 2 ^ (w - m) ≡ qa / 2 ^ (w - m) → ka / 2 ^ (w - n) ≡ qa / 2 ^ (w - n)
sees_same w km kc ka vm va qm qa m n lies p q r e =
    prefix w ka va kc n p lies.common lies.same ∙ prefix w va qa m n q r e

-- the order within a family
abbrev inner_order : ℕ → ℕ → ℕ → ℕ → ℕ → Ordering
inner_order w vm va qm qa =
    ordering_then (nat_cmp (va / 2 ^ (w - min vm qm)) (qa / 2 ^ (w - min vm qm))) (ordering_then (nat_cmp vm qm) (nat_cmp va qa))

order_is : (b : Bool) (vm va qm qa : ℕ) → order (inet b vm va) (inet b qm qa) ≡ inner_order (width b) vm va qm qa
order_is true vm va qm qa = refl
order_is false vm va qm qa = refl

sees_le : (w km kc ka vm va qm qa : ℕ) → Lies w km kc ka vm va qm qa → is_gt (inner_order w vm va qm qa) ≡ false
    → is_le (nat_cmp (ka / 2 ^ (w - min kc (min km qm))) (qa / 2 ^ (w - min kc (min km qm)))) ≡ true
sees_le w km kc ka vm va qm qa lies h =
    let n = min kc (min km qm) in
    let least = lies.least in
    let common = lies.common in
    let mask = lies.mask in
    let fronts = le_cmp (va / 2 ^ (w - min vm qm)) (qa / 2 ^ (w - min vm qm)) _ refl (first_le (nat_cmp (va / 2 ^ (w - min vm qm)) (qa / 2 ^ (w - min vm qm))) (ordering_then (nat_cmp vm qm) (nat_cmp va qa)) h) in
    let below = prefix_le w va qa (min vm qm) (min kc (min km qm)) (omega arith) (omega arith) fronts in
    let same = prefix w ka va kc (min kc (min km qm)) (omega arith) common lies.same in
    cmp_le (ka / 2 ^ (w - min kc (min km qm))) (qa / 2 ^ (w - min kc (min km qm))) _ refl (omega (arith, same, below))

sees_ge : (w km kc ka vm va qm qa : ℕ) → Lies w km kc ka vm va qm qa → is_lt (inner_order w vm va qm qa) ≡ false
    → is_ge (nat_cmp (ka / 2 ^ (w - min kc (min km qm))) (qa / 2 ^ (w - min kc (min km qm)))) ≡ true
sees_ge w km kc ka vm va qm qa lies h =
    let least = lies.least in
    let common = lies.common in
    let mask = lies.mask in
    let fronts = ge_cmp (va / 2 ^ (w - min vm qm)) (qa / 2 ^ (w - min vm qm)) _ refl (first_ge (nat_cmp (va / 2 ^ (w - min vm qm)) (qa / 2 ^ (w - min vm qm))) (ordering_then (nat_cmp vm qm) (nat_cmp va qa)) h) in
    let above = prefix_le w qa va (min vm qm) (min kc (min km qm)) (omega arith) (omega arith) fronts in
    let same = prefix w ka va kc (min kc (min km qm)) (omega arith) common lies.same in
    cmp_ge (ka / 2 ^ (w - min kc (min km qm))) (qa / 2 ^ (w - min kc (min km qm))) _ refl (omega (arith, same, above))

net_sees : (op : InetOp) (b : Bool) (km kc ka vm va qm qa : ℕ) → Lies (width b) km kc ka vm va qm qa → Holds op (inet b vm va) (inet b qm qa) → net_may op (net b km kc ka) (inet b qm qa) ≡ true
net_sees ops.Equal b km kc ka vm va qm qa lies h =
    let parts = then_equal (nat_cmp (va / 2 ^ (width b - min vm qm)) (qa / 2 ^ (width b - min vm qm))) (ordering_then (nat_cmp vm qm) (nat_cmp va qa)) (ap is_eq (sym (order_is b vm va qm qa)) ∙ h) in
    let ends = then_equal (nat_cmp vm qm) (nat_cmp va qa) parts.1 in
    let same : va ≡ qa = eq_cmp va qa (nat_cmp va qa) refl ends.1 in
    eq_test (ka / 2 ^ (width b - kc)) (qa / 2 ^ (width b - kc)) (lies.same ∙ ap (λ t. t / 2 ^ (width b - kc)) same)
net_sees ops.NotEqual b km kc ka vm va qm qa lies h = refl
net_sees ops.Less b km kc ka vm va qm qa lies h = sees_le (width b) km kc ka vm va qm qa lies (lt_le (inner_order (width b) vm va qm qa) (ap is_lt (sym (order_is b vm va qm qa)) ∙ h))
net_sees ops.LessEqual b km kc ka vm va qm qa lies h = sees_le (width b) km kc ka vm va qm qa lies (le_le (inner_order (width b) vm va qm qa) (ap is_le (sym (order_is b vm va qm qa)) ∙ h))
net_sees ops.Greater b km kc ka vm va qm qa lies h = sees_ge (width b) km kc ka vm va qm qa lies (gt_ge (inner_order (width b) vm va qm qa) (ap is_gt (sym (order_is b vm va qm qa)) ∙ h))
net_sees ops.GreaterEqual b km kc ka vm va qm qa lies h = sees_ge (width b) km kc ka vm va qm qa lies (ge_ge (inner_order (width b) vm va qm qa) (ap is_ge (sym (order_is b vm va qm qa)) ∙ h))
net_sees ops.Within b km kc ka vm va qm qa lies h =
    eq_test _ _ (sees_same (width b) km kc ka vm va qm qa qm (min kc qm) lies (omega arith) (omega arith) lies.other h.0.1)
net_sees ops.WithinEqual b km kc ka vm va qm qa lies h =
    eq_test _ _ (sees_same (width b) km kc ka vm va qm qa qm (min kc qm) lies (omega arith) (omega arith) lies.other h.0.1)
net_sees ops.Holds b km kc ka vm va qm qa lies h =
    let least = lies.least in
    let below = h.1 in
    and_true _ (nat_lt km qm) (eq_test _ _ (sees_same (width b) km kc ka vm va qm qa vm (min kc (min km qm)) lies (omega arith) (omega arith) lies.mask (sym h.0.1))) (lt_test km qm (omega arith))
net_sees ops.HoldsEqual b km kc ka vm va qm qa lies h =
    let least = lies.least in
    let below = h.1 in
    and_true _ (nat_le km qm) (eq_test _ _ (sees_same (width b) km kc ka vm va qm qa vm (min kc (min km qm)) lies (omega arith) (omega arith) lies.mask (sym h.0.1))) (le_test km qm (omega arith))
net_sees ops.Meets b km kc ka vm va qm qa lies h =
    let least = lies.least in
    let mask = lies.mask in
    eq_test _ _ (sees_same (width b) km kc ka vm va qm qa (min vm qm) (min kc (min km qm)) lies (omega arith) (omega arith) (omega arith) h.1)

-- an operand of another family
above : (op : InetOp) (vm va qm qa : ℕ) → Holds op (inet true vm va) (inet false qm qa) → family_may op Greater ≡ true
above ops.Equal vm va qm qa h = absurd (true≢false (sym h))
above ops.NotEqual vm va qm qa h = refl
above ops.Less vm va qm qa h = h
above ops.LessEqual vm va qm qa h = h
above ops.Greater vm va qm qa h = refl
above ops.GreaterEqual vm va qm qa h = refl
above ops.Within vm va qm qa h = absurd (true≢false h.0.0)
above ops.WithinEqual vm va qm qa h = absurd (true≢false h.0.0)
above ops.Holds vm va qm qa h = absurd (true≢false (sym h.0.0))
above ops.HoldsEqual vm va qm qa h = absurd (true≢false (sym h.0.0))
above ops.Meets vm va qm qa h = absurd (true≢false h.0)

below : (op : InetOp) (vm va qm qa : ℕ) → Holds op (inet false vm va) (inet true qm qa) → family_may op Less ≡ true
below ops.Equal vm va qm qa h = absurd (true≢false (sym h))
below ops.NotEqual vm va qm qa h = refl
below ops.Less vm va qm qa h = refl
below ops.LessEqual vm va qm qa h = refl
below ops.Greater vm va qm qa h = h
below ops.GreaterEqual vm va qm qa h = h
below ops.Within vm va qm qa h = absurd (true≢false (sym h.0.0))
below ops.WithinEqual vm va qm qa h = absurd (true≢false (sym h.0.0))
below ops.Holds vm va qm qa h = absurd (true≢false h.0.0)
below ops.HoldsEqual vm va qm qa h = absurd (true≢false h.0.0)
below ops.Meets vm va qm qa h = absurd (true≢false (sym h.0))

families_see : (op : InetOp) (b : Bool) (km kc ka vm va : ℕ) (c : Bool) (qm qa : ℕ) → kc ≤ width b → km ≤ vm → vm ≤ width b → qm ≤ width c → ka / 2 ^ (width b - kc) ≡ va / 2 ^ (width b - kc)
    → Holds op (inet b vm va) (inet c qm qa) → key_may op (Family (net b km kc ka)) (inet c qm qa) ≡ true
families_see op true km kc ka vm va true qm qa p q r s e h = net_sees op true km kc ka vm va qm qa (record { common = p; least = q; mask = r; other = s; same = e }) h
families_see op false km kc ka vm va false qm qa p q r s e h = net_sees op false km kc ka vm va qm qa (record { common = p; least = q; mask = r; other = s; same = e }) h
families_see op true km kc ka vm va false qm qa p q r s e h = above op vm va qm qa h
families_see op false km kc ka vm va true qm qa p q r s e h = below op vm va qm qa h

may_see : (op : InetOp) (k : InetKey) (v q : Inet) → IsKey k → IsInet v → IsInet q → IsOver k (leaf_key v) → Holds op v q → key_may op k q ≡ true
may_see op Mixed v q p r s over h = refl
may_see op (Family k) v q p r s over h =
    let e : v.v6 ≡ k.v6 = sym over.family in
    let fits : v.mask ≤ width k.v6 = subst (λ t. v.mask ≤ width t) e r.mask in
    let same : k.address / 2 ^ (width k.v6 - k.common) ≡ v.address / 2 ^ (width k.v6 - k.common) = over.bits ∙ bits_at k (leaf_net v) k.common over.family in
    let P : Bool → Type 0 = λ t. Holds op (inet t v.mask v.address) q in
    families_see op k.v6 k.mask k.common k.address v.mask v.address q.v6 q.mask q.address p.common over.mask fits s.mask same (subst P e h)

-- the leaf test decides
yes_true : (b : Bool) → (if b then Yes else No) ≡ Yes → b ≡ true
yes_true true e = refl
yes_true false e = cc e

some_true : (b : Bool) → (if b then Yes else No) ≢ No → b ≡ true
some_true true e = refl
some_true false e = absurd (e refl)

true_some : (b : Bool) → b ≡ true → (if b then Yes else No) ≢ No
true_some true e never = cc never
true_some false e never = true≢false (sym e)

may_some : (b : Bool) → b ≡ true → (if b then Maybe else No) ≢ No
may_some true e never = cc never
may_some false e never = true≢false (sym e)

pub inner_sees : (op : InetOp) (k : InetKey) (v q : Inet) → IsKey k → IsInet v → IsInet q → IsOver k (leaf_key v) → leaf_answer op (leaf_key v) q ≢ No → inner_answer op k q ≢ No
inner_sees op k v q p r s over some = may_some (key_may op k q) (may_see op k v q p r s over ((holds-Decides op v q).0 (some_true (holds op v q) some)))

pub leaf_sees : (op : InetOp) (v q : Inet) → Holds op v q → leaf_answer op (leaf_key v) q ≢ No
leaf_sees op v q h = true_some (holds op v q) ((holds-Decides op v q).1 h)

pub leaf_is_sure : (op : InetOp) (v q : Inet) → leaf_answer op (leaf_key v) q ≡ Yes → Holds op v q
leaf_is_sure op v q sure = (holds-Decides op v q).0 (yes_true (holds op v q) sure)
