-- What the laws of classes over signatures stand on.
use Rattle.std.specs.Prelude.{◌≡◌, ◌≢◌, ◌↔◌, ◌⊎◌, ℕ, zero, suc, ◌+◌, ◌*◌, ◌%◌, ◌<◌, ◌≤◌, ◌==◌, ◌||◌, ◌&&◌, Bool, true, false, cond, List, [], ◌∷◌, map, length, replicate, All, Any, Contains, refl}
use Rattle.std.specs.List.{fold, list_any, list_all, AllByRecursion}
use Rattle.std.proofs.Common.{sym, ap, ◌∙◌, subst, inl, inr, arith, true≢false}
use Rattle.std.proofs.lemmas.Bool.Decides.{nat_tests}
use Rattle.std.proofs.lemmas.Nat.{mod_below}
use Rattle.std.proofs.lemmas.Nat.Bits.{bit_at-lt}
use Rattle.std.proofs.lemmas.List.Elements.{All-from_recursion, All-contains, All-head, All-tail}
use Rattle.std.proofs.lemmas.List.Folds.{list_any-from_Any}
use Rattle.gx_gist.specs.declared.test.Test.{Test}
use Rattle.gx_gist.specs.declared.test.Test.TheVariants.{No, Maybe, Yes}
use Rattle.gx_kleene.specs.Laws.{IsRight, maybe_no, maybe_yes}
use Rattle.gx_sig.specs.BitSets.{bit_of, HasBit, with_bit, both, differing, IsSignatureLength, IsSignature}
use Rattle.gx_sig.proofs.Bits.{is_one, same_or_not}
use Rattle.gx_sig.proofs.Bytes.{with_bit_has, both_have, are_signatures}
use Rattle.gx_class_sets.specs.Signatures.{bit_for, with_hash, sign, has, IsOver, growth, is_same, is_within, maybe}

pub some_bits : (n : ℕ) → IsSignatureLength n → 0 < 8 * n
some_bits n = elim [
  | inl e ↦ omega (arith, e)
  | inr (inl e) ↦ omega (arith, e)
  | inr (inr (inl e)) ↦ omega (arith, e)
  | inr (inr (inr (inl e))) ↦ omega (arith, e)
  | inr (inr (inr (inr (inl e)))) ↦ omega (arith, e)
  | inr (inr (inr (inr (inr (inl e))))) ↦ omega (arith, e)
  | inr (inr (inr (inr (inr (inr (inl e)))))) ↦ omega (arith, e)
  | inr (inr (inr (inr (inr (inr (inr e)))))) ↦ omega (arith, e)
]

pub few_bytes : (n : ℕ) → IsSignatureLength n → n ≤ 1900
few_bytes n = elim [
  | inl e ↦ omega (arith, e)
  | inr (inl e) ↦ omega (arith, e)
  | inr (inr (inl e)) ↦ omega (arith, e)
  | inr (inr (inr (inl e))) ↦ omega (arith, e)
  | inr (inr (inr (inr (inl e)))) ↦ omega (arith, e)
  | inr (inr (inr (inr (inr (inl e))))) ↦ omega (arith, e)
  | inr (inr (inr (inr (inr (inr (inl e)))))) ↦ omega (arith, e)
  | inr (inr (inr (inr (inr (inr (inr e)))))) ↦ omega (arith, e)
]

-- The signature of some hashes is one, and keeps the bits that it began with.
signs : (n : ℕ) (hashes key : List ℕ) → IsSignature n key → IsSignature n (fold (with_hash n) key hashes)
signs n [] key s = s
signs n (h ∷ hs) key s = signs n hs (with_hash n key h) (are_signatures.1 n key (bit_for n h) s)

pub sign_is : (n : ℕ) (hashes : List ℕ) → IsSignature n (sign n hashes)
sign_is n hashes = signs n hashes (replicate n 0) (are_signatures.0 n)

below : (n hash : ℕ) → 0 < 8 * n → bit_for n hash < 8 * n
below n hash some = mod_below hash (8 * n) some

kept : (n : ℕ) (hashes key : List ℕ) (b : ℕ) → IsSignature n key → 0 < 8 * n → HasBit key b → HasBit (fold (with_hash n) key hashes) b
kept n [] key b s some has = has
kept n (h ∷ hs) key b s some has =
    kept n hs (with_hash n key h) b (are_signatures.1 n key (bit_for n h) s) some ((with_bit_has n key (bit_for n h) b s (below n h some)).1 (inr has))

-- It has the bit of each hash.
sets : {X : Type 0} (hash : X → ℕ) (n : ℕ) (xs : List X) (key : List ℕ) → IsSignature n key → 0 < 8 * n
    → AllByRecursion (λ x. HasBit (fold (with_hash n) key (map hash xs)) (bit_for n (hash x))) xs
sets hash n [] key s some = tt
sets hash n (x ∷ xs) key s some =
    let after = are_signatures.1 n key (bit_for n (hash x)) s in (
      kept n (map hash xs) (with_hash n key (hash x)) (bit_for n (hash x)) after some ((with_bit_has n key (bit_for n (hash x)) (bit_for n (hash x)) s (below n (hash x) some)).1 (inl refl)),
      sets hash n xs (with_hash n key (hash x)) after some,
    )

pub signed : {X : Type 0} (hash : X → ℕ) (n : ℕ) (xs : List X) (x : X) → IsSignatureLength n → Contains xs x → has n (sign n (map hash xs)) (hash x) ≡ true
signed {X} hash n xs x long in' =
    let all = All-from_recursion (λ (y : X). HasBit (sign n (map hash xs)) (bit_for n (hash y))) xs (sets hash n xs (replicate n 0) (are_signatures.0 n) (some_bits n long)) in
    (is_one (bit_of (sign n (map hash xs)) (bit_for n (hash x)))).1 (All-contains (λ (y : X). HasBit (sign n (map hash xs)) (bit_for n (hash y))) xs x all in')

-- A key over another has what the other has.
pub has_over : (n : ℕ) (k l : List ℕ) (hash : ℕ) → IsOver k l → has n l hash ≡ true → has n k hash ≡ true
has_over n k l hash over e = (is_one (bit_of k (bit_for n hash))).1 (over (bit_for n hash) ((is_one (bit_of l (bit_for n hash))).0 e))

pub over_left : (n : ℕ) (a b l : List ℕ) → IsSignature n a → IsSignature n b → IsOver a l → IsOver (both a b) l
over_left n a b l s t over bit has = (both_have n a b bit s t).1 (inl (over bit has))

pub over_right : (n : ℕ) (a b l : List ℕ) → IsSignature n a → IsSignature n b → IsOver b l → IsOver (both a b) l
over_right n a b l s t over bit has = (both_have n a b bit s t).1 (inr (over bit has))

-- Bits that differ are counted.
-- how many of two bits differ
abbrev unlike : ℕ → ℕ → ℕ
unlike a b = cond (a == b) 0 1

cond_same : (a b : ℕ) → a ≡ b → unlike a b ≡ 0
cond_same a b e = grind (arith, nat_tests)

same_of_cond : (a b : ℕ) → unlike a b ≡ 0 → a ≡ b
same_of_cond a b e = grind (arith, nat_tests)

none_differ : (xs ys : List ℕ) (m : ℕ) → ((b : ℕ) → b < m → bit_of xs b ≡ bit_of ys b) → differing xs ys m ≡ 0
none_differ xs ys zero same = refl
none_differ xs ys (suc m) same =
    let first = cond_same (bit_of xs m) (bit_of ys m) (same m (omega arith)) in
    let rest = none_differ xs ys m (λ b h. same b (omega arith)) in
    omega (arith, first, rest)

each_same : (xs ys : List ℕ) (m : ℕ) → differing xs ys m ≡ 0 → (b : ℕ) → b < m → bit_of xs b ≡ bit_of ys b
each_same xs ys zero e b h = absurd (omega (arith, h))
each_same xs ys (suc m) e b h =
    let first : unlike (bit_of xs m) (bit_of ys m) ≡ 0 = omega (arith, e) in
    let rest : differing xs ys m ≡ 0 = omega (arith, e) in
    elim (same_or_not b m) [
      | inl at ↦ (rw at (same_of_cond (bit_of xs m) (bit_of ys m) first))
      | inr other ↦ each_same xs ys m rest b (omega (arith, h, other))
    ]

is_zero : (m : ℕ) → m ≡ 0 → (m == 0) ≡ true
is_zero m e = grind (arith, nat_tests, e)

zero_is : (m : ℕ) → (m == 0) ≡ true → m ≡ 0
zero_is m e = grind (arith, nat_tests, e)

pub same_itself : (n : ℕ) (k : List ℕ) → is_same n k k ≡ true
same_itself n k = is_zero (differing k k (8 * n)) (none_differ k k (8 * n) (λ b h. refl))

bits_same : (a b : ℕ) → a < 2 → b < 2 → (a ≡ 1 → b ≡ 1) → (b ≡ 1 → a ≡ 1) → a ≡ b
bits_same a b p q f g = elim (same_or_not a 1) [
  | inl e ↦ (let other : b ≡ 1 = f e in omega arith)
  | inr other_bit ↦ elim (same_or_not b 1) [ inl e ↦ (let other : a ≡ 1 = g e in omega arith) | inr none ↦ omega arith ]
]

bit_small : (xs : List ℕ) (b : ℕ) → bit_of xs b < 2
bit_small xs b = bit_at-lt _ _

-- A key over one that has the bits of a third one has them too.
pub within_over : (n : ℕ) (k l m : List ℕ) → IsSignature n k → IsSignature n m → IsOver k l → is_same n l m ≡ true → is_within n k m ≡ true
within_over n k l m s t over e =
    let same = each_same l m (8 * n) (zero_is (differing l m (8 * n)) e) in
    is_zero (growth n k m) (none_differ k (both k m) (8 * n) (λ b h. bits_same (bit_of k b) (bit_of (both k m) b) (bit_small k b) (bit_small (both k m) b)
    (λ has. (both_have n k m b s t).1 (inl has))
    (λ has. elim ((both_have n k m b s t).0 has) [ inl here ↦ here | inr there ↦ over b (same b h ∙ there) ])))

-- Tests of lists.
or_true : (a b : Bool) → b ≡ true → (a || b) ≡ true
or_true true b e = refl
or_true false b e = e

or_mono : (a b c d : Bool) → (a ≡ true → b ≡ true) → (c ≡ true → d ≡ true) → (a || c) ≡ true → (b || d) ≡ true
or_mono true b c d f g e = rw (f refl) refl
or_mono false b c d f g e = or_true b d (g e)

pub both_true : (a b : Bool) → a ≡ true → b ≡ true → (a && b) ≡ true
both_true a b p q = rw (p, q) refl

pub both_mono : (a b c d : Bool) → (a ≡ true → b ≡ true) → (c ≡ true → d ≡ true) → (a && c) ≡ true → (b && d) ≡ true
both_mono true b c d f g e = both_true b d (f refl) (g e)
both_mono false b c d f g e = absurd (true≢false (sym e))

pub any_mono : {X : Type 0} (p q : X → Bool) → ((x : X) → p x ≡ true → q x ≡ true) → (xs : List X) → list_any p xs ≡ true → list_any q xs ≡ true
any_mono p q m [] e = e
any_mono p q m (x ∷ xs) e = or_mono (p x) (q x) (list_any p xs) (list_any q xs) (m x) (any_mono p q m xs) e

pub all_mono : {X : Type 0} (p q : X → Bool) → ((x : X) → p x ≡ true → q x ≡ true) → (xs : List X) → list_all p xs ≡ true → list_all q xs ≡ true
all_mono p q m [] e = e
all_mono p q m (x ∷ xs) e = both_mono (p x) (q x) (list_all p xs) (list_all q xs) (m x) (all_mono p q m xs) e

pub all_true : {X : Type 0} (p : X → Bool) (P : X → Type 0) → ((x : X) → P x → p x ≡ true) → (xs : List X) → All P xs → list_all p xs ≡ true
all_true p P f [] a = refl
all_true p P f (x ∷ xs) a = both_true (p x) (list_all p xs) (f x (All-head P x xs a)) (all_true p P f xs (All-tail P x xs a))

pub any_true : {X : Type 0} (p : X → Bool) (P : X → Type 0) → ((x : X) → P x → p x ≡ true) → (xs : List X) → Any P xs → list_any p xs ≡ true
any_true p P f xs h = list_any-from_Any p xs (h.0, h.1, h.2, h.3, f h.1 h.4)

-- What Maybe says.
pub maybe_true : (b : Bool) → b ≡ true → maybe b ≢ No
maybe_true true e = maybe_no
maybe_true false e = absurd (true≢false (sym e))

pub maybe_sees : (b c : Bool) → (b ≡ true → c ≡ true) → maybe b ≢ No → maybe c ≢ No
maybe_sees true c f p = maybe_true c (f refl)
maybe_sees false c f p = absurd (p refl)

pub never_sure : (b : Bool) → maybe b ≡ Yes → ⊥
never_sure true e = maybe_yes e
never_sure false e = cc e

pub short_spelling : (n : ℕ) (k : List ℕ) → IsSignatureLength n → IsSignature n k → length k ≤ 1900
short_spelling n k long s = rw (s.long) (few_bytes n long)

pub maybe_right : (b : Bool) (P : Type 0) → (P → b ≡ true) → IsRight (maybe b) P
maybe_right b P f = record { sees = λ p. maybe_true b (f p); sure = λ e. absurd (never_sure b e) }
