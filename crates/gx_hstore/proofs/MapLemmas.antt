-- Look-ups in lists of pairs.
use Rattle.std.proofs.Common.{◌≡◌, ℕ, zero, suc, Err, ◌+◌, ◌-◌, ◌<◌, ◌≤◌, Bool, true, false, cond, not, ◌&&◌, T, List, [], ◌∷◌, length, get_or, slice_get, Option, None, Some, bytes_eq, refl, sym, ap, ap₂, ◌∙◌, subst, filter, arith, All, ◌↔◌}
use Rattle.std.specs.declared.cmp.Ordering.{Ordering}
use Rattle.std.specs.declared.cmp.Ordering.TheVariants.{Less, Equal, Greater}
use Rattle.std.specs.BTreeMap.{is_at}
use Rattle.std.specs.List.{HoldsAt, AllByRecursion, IsDistinct, dedup, dedup_from}
use Rattle.std.specs.List.Sorted.{IsStrictlySortedBy, IsSorted, IsSortedBy, IsStableBy, ties, IsBinarySearchResult}
use Rattle.std.specs.Cmp.{IsStrictWeakOrder}
use Rattle.std.specs.Map.{keys_of, lookup}
use Rattle.std.specs.Ordering.{is_lt, is_eq, eq_by_cmp, ordering_reverse}
use Rattle.std.specs.FinMap.Entries.{below_all, is_sorted, same_entries}
use Rattle.std.specs.FinMap.Entries as entries
use Rattle.std.proofs.lemmas.List.Sorted.{ranks_by, searchable_from_sorted}
use Rattle.std.proofs.lemmas.List.Kept.{IsStrictlySortedBy-dedup}
use Rattle.std.proofs.lemmas.List.Elements.{filter_agree}
use Rattle.std.proofs.lemmas.List.{get_or-map}
use Rattle.std.proofs.lemmas.Map.Entries.{length-keys_of, lookup_from_place, lookup_at_gap, place_from_lookup}
use Rattle.std.proofs.lemmas.Option.{slice_get-get_or, get_or_from_slice_get}
use Rattle.std.proofs.lemmas.Slice.Eq.{bytes_eq-Decides}
use Rattle.std.proofs.lemmas.Map.Keys.{sorted_head, sorted_tail, IsDistinct-from_sorted, Less-from_sorted, sorted_from_all_adjacent}
use Rattle.gx_hstore.specs.Map.{Pair, key_order, IsMap, find}
use Rattle.gx_hstore.specs.Operators.{ContainsMap}
use Rattle.gx_hstore.proofs.OrderLemmas.{key_total, key_exact, same_test, bytes_equiv}

-- whether a pair stands before another by its key, and whether their keys are equal
abbrev pub before : Pair → Pair → Bool
before a b = is_lt (key_order a.0 b.0)

abbrev pub same_key : Pair → Pair → Bool
same_key a b = bytes_eq a.0 b.0

pub before_order : IsStrictWeakOrder before
before_order = ranks_by key_total (λ (p : Pair). p.0)

-- the value of the first pair
abbrev pub first_value : List Pair → Option (Option (List ℕ))
first_value [] = None
first_value (p ∷ pairs) = Some p.1

-- a look-up answers with the first of the pairs that pass
lookup_first : (test : List ℕ → Bool) (pairs : List Pair) → lookup test pairs ≡ first_value (filter (λ p. test p.0) pairs)
lookup_first test [] = refl
lookup_first test (p ∷ pairs) =
    elim (test p.0) as (λ b. cond b (Some p.1) (lookup test pairs) ≡ first_value (cond b (p ∷ filter (λ (q : Pair). test q.0) pairs) (filter (λ (q : Pair). test q.0) pairs))) [
      | true ↦ refl
      | false ↦ lookup_first test pairs
    ]

tied : (r : Ordering) → (not (is_lt r) && not (is_lt (ordering_reverse r))) ≡ is_eq r
tied Less = refl
tied Equal = refl
tied Greater = refl

tie_is : (key : List ℕ) (p : Pair) → ties before (key, None) p ≡ bytes_eq key p.0
tie_is key p =
    ap (λ s. not (is_lt (key_order key p.0)) && not (is_lt s)) (key_total.antisymm p.0 key) ∙ tied (key_order key p.0) ∙ sym (same_test key p.0)

-- pairs that tie keep their order, so the first of them stays the first
pub find_sorted : (pairs sorted : List Pair) → IsStableBy before pairs sorted → (key : List ℕ) → find key sorted ≡ find key pairs
find_sorted pairs sorted stable key =
    let agree = filter_agree (λ (p : Pair). bytes_eq key p.0) (ties before (key, None)) (λ p. sym (tie_is key p)) in
    lookup_first (bytes_eq key) sorted ∙ ap first_value (agree sorted ∙ stable (key, None) ∙ sym (agree pairs)) ∙ sym (lookup_first (bytes_eq key) pairs)

-- a test that is repeated
shadowed : {A : Type 0} (b : Bool) (x y z : A) → cond b x z ≡ cond b x (cond b y z)
shadowed true x y z = refl
shadowed false x y z = refl

find_from : (key : List ℕ) (k : Pair) (pairs : List Pair) → find key (dedup_from same_key k pairs) ≡ find key (k ∷ pairs)
find_from key k [] = refl
find_from key k (p ∷ pairs) =
    elim (same_key p k) as (λ b. same_key p k ≡ b → find key (cond b (dedup_from same_key k pairs) (k ∷ dedup_from same_key p pairs)) ≡ find key (k ∷ p ∷ pairs)) [
      | true ↦ λ e. find_from key k pairs ∙ shadowed (bytes_eq key k.0) (Some k.1) (Some p.1) (find key pairs) ∙ ap (λ x. cond (bytes_eq key k.0) (Some k.1) (cond (bytes_eq key x) (Some p.1) (find key pairs))) (sym ((bytes_eq-Decides p.0 k.0).0 e))
      | false ↦ λ e. ap (λ r. cond (bytes_eq key k.0) (Some k.1) r) (find_from key p pairs)
    ] refl

-- of neighbours with one key the first stays
pub find_dedup : (key : List ℕ) (pairs : List Pair) → find key (dedup same_key pairs) ≡ find key pairs
find_dedup key [] = refl
find_dedup key (p ∷ pairs) = find_from key p pairs

keys_from : (k : Pair) (pairs : List Pair) → keys_of (dedup_from same_key k pairs) ≡ dedup_from bytes_eq k.0 (keys_of pairs)
keys_from k [] = refl
keys_from k (p ∷ pairs) =
    elim (bytes_eq p.0 k.0) as (λ b. keys_of (cond b (dedup_from same_key k pairs) (k ∷ dedup_from same_key p pairs)) ≡ cond b (dedup_from bytes_eq k.0 (keys_of pairs)) (k.0 ∷ dedup_from bytes_eq p.0 (keys_of pairs))) [
      | true ↦ keys_from k pairs
      | false ↦ ap (λ (ks : List (List ℕ)). k.0 ∷ ks) (keys_from p pairs)
    ]

keys_dedup : (pairs : List Pair) → keys_of (dedup same_key pairs) ≡ dedup bytes_eq (keys_of pairs)
keys_dedup [] = refl
keys_dedup (p ∷ pairs) = keys_from p pairs

keys_sorted : (pairs : List Pair) → IsSortedBy before pairs → IsSorted key_order (keys_of pairs)
keys_sorted pairs rise k d low high =
    let within : k + 1 < length pairs = omega (arith, high, length-keys_of pairs) in
    let first : k < length pairs = omega arith in
    ap₂ (λ x y. is_lt (key_order x y)) (get_or-map (λ (p : Pair). p.0) pairs (k + 1) (d, None) d within) (get_or-map (λ (p : Pair). p.0) pairs k (d, None) d first) ∙ rise k (d, None) low within

-- pairs that are sorted, and without those whose key stood before
pub map_dedup : (pairs : List Pair) → IsSortedBy before pairs → IsMap (dedup same_key pairs)
map_dedup pairs rise =
    subst (IsStrictlySortedBy key_order) (sym (keys_dedup pairs)) (IsStrictlySortedBy-dedup key_total same_test (keys_of pairs) (keys_sorted pairs rise))

-- ---- one list to a map

less : (a b : List ℕ) → key_order a b ≡ Less → T (is_lt (key_order a b))
less a b e = subst (λ r. T (is_lt r)) (sym e) tt

both : (a b : Bool) → T a → T b → T (a && b)
both true b p q = q
both false b p q = p

below : (x : List ℕ) (pairs : List Pair) → AllByRecursion (λ y. key_order x y ≡ Less) (keys_of pairs) → T (below_all key_order x pairs)
below x [] h = tt
below x (p ∷ pairs) h = both _ _ (less x p.0 h.0) (below x pairs h.1)

rising : (pairs : List Pair) → IsMap pairs → T (is_sorted key_order pairs)
rising [] h = tt
rising (p ∷ pairs) h = both _ _ (below p.0 pairs (sorted_head key_order p.0 (keys_of pairs) h)) (rising pairs (sorted_tail key_order p.0 (keys_of pairs) h))

found_alike : (key : List ℕ) (pairs : List Pair) → entries.find key_order key pairs ≡ find key pairs
found_alike key [] = refl
found_alike key (p ∷ pairs) = ap₂ (λ b r. cond b (Some p.1) r) (sym (same_test key p.0)) (found_alike key pairs)

pub one_list : (a b : List Pair) → IsMap a → IsMap b → ((key : List ℕ) → find key a ≡ find key b) → a ≡ b
one_list a b m n h =
    same_entries key_order key_total key_exact a b (rising a m) (rising b n) (λ key. found_alike key a ∙ h key ∙ sym (found_alike key b))

-- keys of a map differ
pub distinct : (pairs : List Pair) → IsMap pairs → IsDistinct bytes_eq (keys_of pairs)
distinct pairs h =
    let P : (List ℕ → List ℕ → Bool) → Type 0 = λ e. IsDistinct e (keys_of pairs) in
    let same : eq_by_cmp key_order ≡ bytes_eq = sym (λ i a b. same_test a b i) in
    subst P same (IsDistinct-from_sorted key_order (keys_of pairs) h)

-- ---- a search in a map

-- no pair stands after one that its key is before
not_after : (a b : List ℕ) → key_order a b ≡ Less → is_lt (key_order b a) ≡ false
not_after a b e = ap is_lt (key_total.antisymm b a ∙ ap ordering_reverse e)

-- each pair stands before the next one
pub adjacent : (pairs : List Pair) → IsMap pairs → (k : ℕ) (d : Pair) → k + 1 < length pairs → key_order (get_or pairs k d).0 (get_or pairs (k + 1) d).0 ≡ Less
adjacent pairs h k d high =
    let within : k + 1 < length (keys_of pairs) = omega (arith, high, length-keys_of pairs) in
    let first : k < length pairs = omega arith in
    ap₂ key_order (sym (get_or-map (λ (p : Pair). p.0) pairs k d d.0 first)) (sym (get_or-map (λ (p : Pair). p.0) pairs (k + 1) d d.0 high)) ∙ Less-from_sorted key_order (keys_of pairs) k (k + 1) d.0 h (omega arith) within

pub map_from_adjacent : (pairs : List Pair) → ((k : ℕ) (d : Pair) → k + 1 < length pairs → key_order (get_or pairs k d).0 (get_or pairs (k + 1) d).0 ≡ Less) → IsMap pairs
map_from_adjacent pairs each =
    sorted_from_all_adjacent key_total (keys_of pairs) []
    (λ k within.
    let high : k + 1 < length pairs = omega (arith, within, length-keys_of pairs) in
    let first : k < length pairs = omega arith in
    ap₂ key_order (get_or-map (λ (p : Pair). p.0) pairs k ([], None) [] first) (get_or-map (λ (p : Pair). p.0) pairs (k + 1) ([], None) [] high) ∙ each k ([], None) high)

map_sorted : (pairs : List Pair) → IsMap pairs → IsSortedBy before pairs
map_sorted pairs h k d low high = not_after (get_or pairs k d).0 (get_or pairs (k + 1) d).0 (adjacent pairs h k d high)

-- how the key of a pair compares to a key
abbrev pub compared : List ℕ → Pair → Ordering
compared key p = key_order p.0 key

-- what a search found, and what one that found nothing says
pub hit : (pairs : List Pair) (key : List ℕ) (at : ℕ) (p : Pair) → IsMap pairs → at < length pairs → p ≡ get_or pairs at p → HoldsAt (λ y. compared key y ≡ Equal) pairs at → find key pairs ≡ Some p.1
hit pairs key at p h within is holds =
    let keys : p.0 ≡ key = key_exact p.0 key (ap (compared key) is ∙ holds p) in
    let place : slice_get pairs at ≡ Some (p.0, p.1) = slice_get-get_or pairs at p within ∙ ap Some (sym is) in
    ap (λ k. find k pairs) (sym keys) ∙ lookup_from_place bytes_equiv pairs at p.0 p.1 (distinct pairs h) place

read_from : (pairs : List Pair) (j : ℕ) (e : Pair) → slice_get pairs j ≡ Some e → e ≡ get_or pairs j e
read_from pairs j e s = sym (get_or_from_slice_get pairs j e e s)

in_range : (pairs : List Pair) (j : ℕ) (e : Pair) → slice_get pairs j ≡ Some e → j < length pairs
in_range [] j e s = cc
in_range (p ∷ pairs) zero e s = omega arith
in_range (p ∷ pairs) (suc j) e s = omega (arith, in_range pairs j e s)

pub miss : (pairs : List Pair) (key : List ℕ) (at : ℕ) → IsMap pairs → IsBinarySearchResult (compared key) pairs (Err at) → find key pairs ≡ None
miss pairs key at h result =
    let point = result (searchable_from_sorted key_total (λ (p : Pair). p.0) pairs key (map_sorted pairs h)) in
    let none = lookup_at_gap key_total key pairs at h
    (λ j e low s. key_total.antisymm key e.0 ∙ ap ordering_reverse (ap (compared key) (read_from pairs j e s) ∙ point.0 j e (omega arith) low))
    (λ e s. key_total.antisymm key e.0 ∙ ap ordering_reverse (ap (compared key) (read_from pairs at e s) ∙ point.1 at e (omega arith) (in_range pairs at e s))) in
    let P : (List ℕ → Bool) → Type 0 = λ t. lookup t pairs ≡ None in
    let same : is_at (key_order key) ≡ bytes_eq key = sym (λ i k. same_test key k i) in
    subst P same none

-- each pair of the other list is here exactly where each look-up of it is
pub contains_each : (hstore other : List Pair) → IsMap other → All (λ (p : Pair). find p.0 hstore ≡ Some p.1) other ↔ ContainsMap hstore other
contains_each hstore other h = (to, from)
  where
    to : All (λ (p : Pair). find p.0 hstore ≡ Some p.1) other → ContainsMap hstore other
    to all key value e =
        let place = place_from_lookup (bytes_eq key) other value e in
        let here : find place.1 hstore ≡ Some value = let p : Pair = (place.1, value) in let at = all place.0 p (in_range other place.0 p place.2) in
        let P : Pair → Type 0 = λ q. find q.0 hstore ≡ Some q.1 in subst P (get_or_from_slice_get other place.0 p p place.2) at in
        ap (λ k. find k hstore) ((bytes_eq-Decides key place.1).0 place.3) ∙ here

    from : ContainsMap hstore other → All (λ (p : Pair). find p.0 hstore ≡ Some p.1) other
    from contains k d within =
        let p = get_or other k d in
        contains p.0 p.1 (lookup_from_place bytes_equiv other k p.0 p.1 (distinct other h) (slice_get-get_or other k d within))

-- two neighbours as they are read
pub neighbours : (pairs : List Pair) (at : ℕ) (p q : Pair) → 1 ≤ at → at < length pairs → p ≡ get_or pairs (at - 1) p → q ≡ get_or pairs at q → IsMap pairs → key_order p.0 q.0 ≡ Less
neighbours pairs at p q low high is is' h =
    let one : at - 1 + 1 ≡ at = omega arith in
    let second : q ≡ get_or pairs (at - 1 + 1) p = is' ∙ ap (λ k. get_or pairs k q) (sym one) ∙ get_or_any pairs (at - 1 + 1) q p (omega arith) in
    ap₂ (λ (a b : Pair). key_order a.0 b.0) is second ∙ adjacent pairs h (at - 1) p (omega arith)
  where
    get_or_any : (xs : List Pair) (k : ℕ) (d e : Pair) → k < length xs → get_or xs k d ≡ get_or xs k e
    get_or_any [] k d e l = absurd (omega arith)
    get_or_any (x ∷ xs) zero d e l = refl
    get_or_any (x ∷ xs) (suc k) d e l = get_or_any xs k d e (omega arith)
