-- Entries with shorter keys first: there is one such order, and a stable sort gives it.
use Rattle.std.proofs.Common.{◌≡◌, ℕ, zero, suc, ◌<◌, ◌≤◌, Bool, true, false, cond, if◌then◌else◌, ◌==◌, List, [], ◌∷◌, length, get_or, map, filter, nat_lt, nat_cmp, is_lt, IsPermutation, refl, sym, ap, ◌∙◌, arith, Bor, inl, inr}
use Rattle.std.specs.List.{AllByRecursion}
use Rattle.std.proofs.lemmas.Bool.{cond-true, cond-false, cases_Bool, cases_lt}
use Rattle.std.proofs.lemmas.Bool.Decides.{nat_tests}
use Rattle.std.proofs.lemmas.List.Elements.{filter_agree}
use Rattle.std.proofs.lemmas.List.Sorted.{IsPermutation-refl, IsPermutation-cons, IsPermutation-trans, IsPermutation-middle, IsPermutation-sym}
use Rattle.std.specs.List.Sorted.{ties, IsNonDecreasingBy, IsStableByKey}
use Rattle.gx_json.specs.declared.document.Json.{Json}
use Rattle.gx_json.specs.Tree.{data_of, members_data}
use Rattle.serde_json.specs.Data.{Members, no_members, member}
use Rattle.gx_json.specs.Valid.{IsBelow, IsBelowAll, IsRising}
use Rattle.gx_json.specs.Print.{IsBefore, AreByLengthThenBytes, Entry, put_by_length, shorter_first, of_length, IsShorterFirst, entries_of, printed}

no_less : (a b : ℕ) → nat_lt a b ≡ false → b ≤ a
no_less a b e = grind (arith, nat_tests, e)

less : (a b : ℕ) → nat_lt a b ≡ true → a < b
less a b e = grind (arith, nat_tests, e)

-- ---- the same entries

put_same : (e : Entry) (es : List Entry) → IsPermutation (e ∷ es) (put_by_length e es)
put_same e [] = IsPermutation-refl (e ∷ [])
put_same e (f ∷ es) = elim (nat_lt (length f.0) (length e.0)) as (λ b. IsPermutation (e ∷ f ∷ es) (if b then f ∷ put_by_length e es else e ∷ f ∷ es)) [
  | true ↦ IsPermutation-trans _ (f ∷ e ∷ es) _ (IsPermutation-sym _ _ (IsPermutation-middle (f ∷ []) e es)) (IsPermutation-cons f _ _ (put_same e es))
  | false ↦ IsPermutation-refl (e ∷ f ∷ es)
]

pub same_entries : (es : List Entry) → IsPermutation es (shorter_first es)
same_entries [] = IsPermutation-refl []
same_entries (e ∷ es) = IsPermutation-trans _ _ _ (IsPermutation-cons e _ _ (same_entries es)) (put_same e (shorter_first es))

-- ---- by length

abbrev AreAtLeast : ℕ → List Entry → Type 0
AreAtLeast n [] = Unit {0}
AreAtLeast n (e ∷ es) = (n ≤ length e.0) × AreAtLeast n es

abbrev Rises : List Entry → Type 0
Rises [] = Unit {0}
Rises (e ∷ es) = AreAtLeast (length e.0) es × Rises es

still_at_least : (m n : ℕ) (es : List Entry) → m ≤ n → AreAtLeast n es → AreAtLeast m es
still_at_least m n [] le h = tt
still_at_least m n (e ∷ es) le h = let first = h.0 in (omega arith, still_at_least m n es le h.1)

put_at_least : (n : ℕ) (e : Entry) (es : List Entry) → n ≤ length e.0 → AreAtLeast n es → AreAtLeast n (put_by_length e es)
put_at_least n e [] h g = (h, tt)
put_at_least n e (f ∷ es) h g = elim (nat_lt (length f.0) (length e.0)) as (λ b. AreAtLeast n (if b then f ∷ put_by_length e es else e ∷ f ∷ es)) [
  | true ↦ (g.0, put_at_least n e es h g.1)
  | false ↦ (h, g)
]

put_rises : (e : Entry) (es : List Entry) → Rises es → Rises (put_by_length e es)
put_rises e [] h = (tt, tt)
put_rises e (f ∷ es) h = elim (cases_Bool (nat_lt (length f.0) (length e.0))) [
  | inl lt ↦
      let below : length f.0 ≤ length e.0 = omega (arith, less (length f.0) (length e.0) lt) in
      rw lt (put_at_least (length f.0) e es below h.0, put_rises e es h.1)
  | inr other ↦
      let below : length e.0 ≤ length f.0 = no_less (length f.0) (length e.0) other in
      rw other ((below, still_at_least (length e.0) (length f.0) es below h.0), h)
]

rises : (es : List Entry) → Rises (shorter_first es)
rises [] = tt
rises (e ∷ es) = put_rises e (shorter_first es) (rises es)

at_least_there : (n : ℕ) (es : List Entry) (i : ℕ) (d : Entry) → AreAtLeast n es → i < length es → n ≤ length (get_or es i d).0
at_least_there n [] i d h below = absurd (omega arith)
at_least_there n (e ∷ es) zero d h below = h.0
at_least_there n (e ∷ es) (suc i) d h below = at_least_there n es i d h.1 (omega arith)

non_decreasing : (es : List Entry) → Rises es → IsNonDecreasingBy (λ (e : Entry). length e.0) es
non_decreasing [] h i j d le below = absurd (omega arith)
non_decreasing (e ∷ es) h zero zero d le below = omega arith
non_decreasing (e ∷ es) h zero (suc j) d le below = at_least_there (length e.0) es j d h.0 (omega arith)
non_decreasing (e ∷ es) h (suc i) zero d le below = absurd (omega arith)
non_decreasing (e ∷ es) h (suc i) (suc j) d le below = non_decreasing es h.1 i j d (omega arith) (omega arith)

at_least_each : (n : ℕ) (es : List Entry) → ((i : ℕ) (d : Entry) → i < length es → n ≤ length (get_or es i d).0) → AreAtLeast n es
at_least_each n [] h = tt
at_least_each n (e ∷ es) h = (h 0 e (omega arith), at_least_each n es (λ i d below. h (suc i) d (omega arith)))

rises_from : (es : List Entry) → IsNonDecreasingBy (λ (e : Entry). length e.0) es → Rises es
rises_from [] h = tt
rises_from (e ∷ es) h = (
  at_least_each (length e.0) es (λ i d below. h 0 (suc i) d (omega arith) (omega arith)),
  rises_from es (λ i j d le below. h (suc i) (suc j) d (omega arith) (omega arith)),
)

-- ---- in the same order

two_puts : (p q : Bool) (e f : Entry) (es : List Entry) → (p ≡ true → q ≡ true → ⊥)
    → cond q (f ∷ cond p (e ∷ es) es) (cond p (e ∷ es) es) ≡ cond p (e ∷ cond q (f ∷ es) es) (cond q (f ∷ es) es)
two_puts true true e f es h = absurd (h refl refl)
two_puts true false e f es h = refl
two_puts false true e f es h = refl
two_puts false false e f es h = refl

not_both : (n a b : ℕ) → a < b → (b == n) ≡ true → (a == n) ≡ true → ⊥
not_both n a b lt p q = grind (arith, nat_tests, lt, p, q)

put_of_length : (n : ℕ) (e : Entry) (es : List Entry) → of_length n (put_by_length e es) ≡ of_length n (e ∷ es)
put_of_length n e [] = refl
put_of_length n e (f ∷ es) = elim (cases_Bool (nat_lt (length f.0) (length e.0))) [
  | inl lt ↦
      let put : put_by_length e (f ∷ es) ≡ f ∷ put_by_length e es = cond-true _ _ _ lt in
      ap (of_length n) put
      ∙ ap (λ (t : List Entry). cond (length f.0 == n) (f ∷ t) t) (put_of_length n e es)
      ∙ two_puts (length e.0 == n) (length f.0 == n) e f (of_length n es) (not_both n (length f.0) (length e.0) (less (length f.0) (length e.0) lt))
  | inr other ↦ ap (of_length n) (cond-false _ _ _ other)
]

pub same_order : (n : ℕ) (es : List Entry) → of_length n (shorter_first es) ≡ of_length n es
same_order n [] = refl
same_order n (e ∷ es) = put_of_length n e (shorter_first es) ∙ ap (λ (t : List Entry). cond (length e.0 == n) (e ∷ t) t) (same_order n es)

pub is_shorter_first : (es : List Entry) → IsShorterFirst es (shorter_first es)
is_shorter_first es = record { same = same_entries es; rising = non_decreasing (shorter_first es) (rises es); stable = λ n. same_order n es }

-- ---- no other order

itself : (n : ℕ) → (n == n) ≡ true
itself n = grind (arith, nat_tests)

kept : (n : ℕ) (e : Entry) (es : List Entry) → (length e.0 == n) ≡ true → of_length n (e ∷ es) ≡ e ∷ of_length n es
kept n e es h = cond-true _ _ _ h

dropped : (n : ℕ) (e : Entry) (es : List Entry) → (length e.0 == n) ≡ false → of_length n (e ∷ es) ≡ of_length n es
dropped n e es h = cond-false _ _ _ h

-- an entry of this length is among them
found_above : (m n : ℕ) (es : List Entry) (w : Entry) (ws : List Entry) → AreAtLeast m es → of_length n es ≡ w ∷ ws → m ≤ n
found_above m n [] w ws h e = cc
found_above m n (f ∷ es) w ws h e = elim (cases_Bool (length f.0 == n)) [
  | inl is ↦ let low = h.0 in grind (arith, nat_tests, is, low)
  | inr other ↦ found_above m n es w ws h.1 (sym (dropped n f es other) ∙ e)
]

same_lists : (es fs : List Entry) → Rises es → Rises fs → ((n : ℕ) → of_length n es ≡ of_length n fs) → es ≡ fs
same_lists [] [] left right same = refl
same_lists [] (f ∷ fs) left right same = let clash = same (length f.0) ∙ kept (length f.0) f fs (itself (length f.0)) in cc
same_lists (e ∷ es) [] left right same = let clash = sym (same (length e.0)) ∙ kept (length e.0) e es (itself (length e.0)) in cc
same_lists (e ∷ es) (f ∷ fs) left right same =
    let at_e = kept (length e.0) e es (itself (length e.0)) in
    let at_f = kept (length f.0) f fs (itself (length f.0)) in
    let up = found_above (length f.0) (length e.0) (f ∷ fs) e _ (omega arith, right.0) (sym (same (length e.0)) ∙ at_e) in
    let down = found_above (length e.0) (length f.0) (e ∷ es) f _ (omega arith, left.0) (same (length f.0) ∙ at_f) in
    let long : length f.0 ≡ length e.0 = omega (arith, up, down) in
    let fits : (length f.0 == length e.0) ≡ true = rw long (itself (length e.0)) in
    let heads = sym at_e ∙ same (length e.0) ∙ kept (length e.0) f fs fits in
    let head : e ≡ f = cc in
    let tails : (n : ℕ) → of_length n es ≡ of_length n fs =
    λ n. elim (cases_Bool (length e.0 == n)) [
      | inl is ↦
          let both = sym (kept n e es is) ∙ same n ∙ kept n f fs (ap (λ (x : Entry). length x.0 == n) (sym head) ∙ is) in cc
      | inr other ↦ sym (dropped n e es other) ∙ same n ∙ dropped n f fs (ap (λ (x : Entry). length x.0 == n) (sym head) ∙ other)
    ] in
    ap (λ (x : Entry). x ∷ es) head ∙ ap (λ (t : List Entry). f ∷ t) (same_lists es fs left.1 right.1 tails)

pub one_order : (es sorted : List Entry) → IsShorterFirst es sorted → sorted ≡ shorter_first es
one_order es sorted h = same_lists sorted (shorter_first es) (rises_from sorted h.rising) (rises es) (λ n. h.stable n ∙ sym (same_order n es))

-- ---- by their bytes, where they rise by them

abbrev AllAbove : List ℕ → List Entry → Type 0
AllAbove k es = AllByRecursion (λ e. IsBelow k e.0) es

put_above : (k : List ℕ) (e : Entry) (es : List Entry) → IsBelow k e.0 → AllAbove k es → AllAbove k (put_by_length e es)
put_above k e [] h all = (h, tt)
put_above k e (f ∷ es) h all = elim (nat_lt (length f.0) (length e.0)) as (λ b. AllAbove k (if b then f ∷ put_by_length e es else e ∷ f ∷ es)) [
  | true ↦ (all.0, put_above k e es h all.1)
  | false ↦ (h, all)
]

all_above : (k : List ℕ) (ms : Members) → IsBelowAll k ms → AllAbove k (shorter_first (entries_of ms))
all_above k no_members h = tt
all_above k (member l d ms) h = put_above k (l, printed d) (shorter_first (entries_of ms)) h.0 (all_above k ms h.1)

put_after : (f e : Entry) (es : List Entry) → IsBefore f e → AllByRecursion (IsBefore f) es → AllByRecursion (IsBefore f) (put_by_length e es)
put_after f e [] h all = (h, tt)
put_after f e (g ∷ es) h all = elim (nat_lt (length g.0) (length e.0)) as (λ b. AllByRecursion (IsBefore f) (if b then g ∷ put_by_length e es else e ∷ g ∷ es)) [
  | true ↦ (all.0, put_after f e es h all.1)
  | false ↦ (h, all)
]

-- no shorter and above
before_at : (e f : Entry) → length e.0 ≤ length f.0 → IsBelow e.0 f.0 → IsBefore e f
before_at e f le below = elim (cases_lt (length e.0) (length f.0)) [
  | inl lt ↦ inl lt
  | inr ge ↦ inr (omega (arith, le, ge), below)
]

before_all : (e : Entry) (es : List Entry) → AreAtLeast (length e.0) es → AllAbove e.0 es → AllByRecursion (IsBefore e) es
before_all e [] h all = tt
before_all e (f ∷ es) h all = (before_at e f h.0 all.0, before_all e es h.1 all.1)

put_in_order : (e : Entry) (es : List Entry) → Rises es → AllAbove e.0 es → AreByLengthThenBytes es → AreByLengthThenBytes (put_by_length e es)
put_in_order e [] r all h = (tt, tt)
put_in_order e (f ∷ es) r all h = elim (cases_Bool (nat_lt (length f.0) (length e.0))) [
  | inl lt ↦ rw lt (put_after f e es (inl (less (length f.0) (length e.0) lt)) h.0, put_in_order e es r.1 all.1 h.1)
  | inr ge ↦
      let low : length e.0 ≤ length f.0 = no_less (length f.0) (length e.0) ge in
      rw ge ((before_at e f low all.0, before_all e es (still_at_least (length e.0) (length f.0) es low r.0) all.1), h)
]

pub by_length_then_bytes : (ms : Members) → IsRising ms → AreByLengthThenBytes (shorter_first (entries_of ms))
by_length_then_bytes no_members h = tt
by_length_then_bytes (member k d ms) h =
    put_in_order (k, printed d) (shorter_first (entries_of ms)) (rises (entries_of ms)) (all_above k ms h.0) (by_length_then_bytes ms h.1)

-- ---- a stable sort

module _ {X : Type 0} (entry : X → Entry) where
  abbrev key : X → ℕ
  key x = length (entry x).0

  of_length-map : (n : ℕ) (xs : List X) → of_length n (map entry xs) ≡ map entry (filter (λ x. key x == n) xs)
  of_length-map n [] = refl
  of_length-map n (x ∷ xs) = elim (cases_Bool (key x == n)) [
    | inl is ↦ cond-true _ _ _ is ∙ ap (λ (t : List Entry). entry x ∷ t) (of_length-map n xs) ∙ sym (ap (map entry) (cond-true _ _ _ is))
    | inr other ↦ cond-false _ _ _ other ∙ of_length-map n xs ∙ sym (ap (map entry) (cond-false _ _ _ other))
  ]

  first_passes : (n : ℕ) (xs : List X) (y : X) (ys : List X) → filter (λ x. key x == n) xs ≡ y ∷ ys → key y ≡ n
  first_passes n [] y ys e = cc
  first_passes n (x ∷ xs) y ys e = elim (cases_Bool (key x == n)) [
    | inl is ↦
        let both = sym (cond-true _ _ _ is) ∙ e in
        let same : x ≡ y = cc in
        let at : key x ≡ n = grind (arith, nat_tests, is) in
        sym (ap key same) ∙ at
    | inr other ↦ first_passes n xs y ys (sym (cond-false _ _ _ other) ∙ e)
  ]

  tied : (n m : ℕ) → ties (λ x y. is_lt (nat_cmp x y)) n m ≡ (m == n)
  tied n m = grind (arith, nat_tests)

  module _ (old new : List X) (stable : IsStableByKey key nat_cmp old new) where
    at_element : (x : X) (n : ℕ) → key x ≡ n → filter (λ y. key y == n) new ≡ filter (λ y. key y == n) old
    at_element x n at =
        let q : (y : X) → ties (λ a b. is_lt (nat_cmp (key a) (key b))) x y ≡ (key y == n) = λ y. tied (key x) (key y) ∙ ap (λ (k : ℕ). key y == k) at in
        sym (filter_agree _ (λ y. key y == n) q new) ∙ stable x ∙ filter_agree _ (λ y. key y == n) q old

    at_length : (n : ℕ) → filter (λ y. key y == n) new ≡ filter (λ y. key y == n) old
    at_length n = by (filter (λ y. key y == n) new) (filter (λ y. key y == n) old) refl refl
      where
        by : (a b : List X) → filter (λ y. key y == n) new ≡ a → filter (λ y. key y == n) old ≡ b → filter (λ y. key y == n) new ≡ filter (λ y. key y == n) old
        by [] [] p q = p ∙ sym q
        by (x ∷ a) b p q = at_element x n (first_passes n new x a p)
        by [] (x ∷ b) p q = at_element x n (first_passes n old x b q)

    mapped : (xs : List X) → IsNonDecreasingBy key xs → Rises (map entry xs)
    mapped [] h = tt
    mapped (x ∷ xs) h = (
      at_least_mapped (key x) xs (λ i d below. h 0 (suc i) d (omega arith) (omega arith)),
      mapped xs (λ i j d le below. h (suc i) (suc j) d (omega arith) (omega arith)),
    )
      where
        at_least_mapped : (n : ℕ) (ys : List X) → ((i : ℕ) (d : X) → i < length ys → n ≤ key (get_or ys i d)) → AreAtLeast n (map entry ys)
        at_least_mapped n [] g = tt
        at_least_mapped n (y ∷ ys) g = (g 0 y (omega arith), at_least_mapped n ys (λ i d below. g (suc i) d (omega arith)))

    pub sorted_by_length : IsNonDecreasingBy key new → map entry new ≡ shorter_first (map entry old)
    sorted_by_length up =
        same_lists (map entry new) (shorter_first (map entry old)) (mapped new up) (rises (map entry old))
        (λ n. of_length-map n new ∙ ap (map entry) (at_length n) ∙ sym (of_length-map n old) ∙ sym (same_order n (map entry old)))

-- ---- members that a list of references gives

abbrev pub entry_at : Bor (List ℕ × Json) → Entry
entry_at r = (r.now.0, printed (data_of r.now.1))

pub entries_at : (rs : List (Bor (List ℕ × Json))) → entries_of (members_data (map (λ r. r.now) rs)) ≡ map entry_at rs
entries_at [] = refl
entries_at (r ∷ rs) = ap (λ (t : List Entry). entry_at r ∷ t) (entries_at rs)
