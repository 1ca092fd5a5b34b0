-- What the laws of gin_hstore_ops stand on.
use Rattle.std.specs.Prelude.{◌≡◌, ◌≤◌, ℕ, Bool, true, false, List, [], ◌∷◌, length, map, Option, None, Some, IsSome, All, Any, Contains, if◌then◌else◌, refl}
use Rattle.std.specs.List.{list_any}
use Rattle.std.proofs.Common.{sym, ap, ◌∙◌, subst, true≢false}
use Rattle.std.proofs.lemmas.List.Elements.{All-nil, All-cons, All-contains, All-head, All-weaker, All-contains_itself}
use Rattle.gx_gin.specs.Reach.{flags, InReach}
use Rattle.gx_gin.specs.Rising.{IsRising, rising_of}
use Rattle.gx_gin.proofs.RisingFacts.{rises, same_strings}
use Rattle.gx_gin.specs.declared.wanted.Mode.TheVariants as mode
use Rattle.gx_kleene.specs.Laws.{IsRight}
use Rattle.gx_hstore.specs.Map.{Pair, find, IsMap, IsHstore}
use Rattle.gx_hstore.specs.Operators.{HasKey, ContainsMap}
use Rattle.gx_hstore.proofs.MapLemmas.{contains_each}
use Rattle.gx_hstore_items.specs.Items as hstore
use Rattle.gx_hstore_items.specs.Items.{key_item}
use Rattle.gx_hstore_items.specs.Laws.{items_of_found}
use Rattle.gx_gin_items.specs.Items.{is_long, shortened}
use Rattle.gx_gin_items.specs.Tests.{all_found, some_found, sure, maybe, unless_empty}
use Rattle.gx_gin_items.specs.ListLaws.{here, there, in_map, of_map, any_true}
use Rattle.gx_gin_items.specs.FlagLaws.{all_are, are_all, some_is, is_some, meets, sure_right, maybe_right}
use Rattle.gx_gin_items.specs.ShortLaws.{short_length}
use Rattle.gx_gin_maps.specs.declared.hstore_query.HstoreQuery.{HstoreQuery}
use Rattle.gx_gin_maps.specs.declared.hstore_query.HstoreQuery.TheVariants as query
use Rattle.gx_gin_maps.specs.Tests as tests
use Rattle.gx_gin_maps.specs.Tests.{Holds, IsQuery, items, pair_item, sought, wanted, has_long, is_met, answer}
use Rattle.gx_gin_maps.specs.ItemLaws.{key_of_short, value_of_short}

pub items_rise : (v : List Pair) → IsRising (items v)
items_rise v = rises (map shortened (hstore.items v))

pub wanted_rise : (q : HstoreQuery) → IsRising (wanted q)
wanted_rise q = rises (map shortened (sought q))

pub items_are_short : (v : List Pair) (item : List ℕ) → Contains (items v) item → length item ≤ 1900
items_are_short v item c =
    let made = of_map shortened (hstore.items v) item ((same_strings (map shortened (hstore.items v)) item).0 c) in
    subst (λ (x : List ℕ). length x ≤ 1900) made.is (short_length made.from)

-- a key of a map has its item there, and a key with its value has theirs
by_value : (v : List Pair) (key : List ℕ) (value : Option (Option (List ℕ))) → find key v ≡ value → IsSome value → Contains (hstore.items v) (key_item key)
by_value v key None e some = absurd (true≢false (sym some))
by_value v key (Some x) e some = (items_of_found v key x e).0

short_key : (v : List Pair) (key : List ℕ) → HasKey v key → Contains (map shortened (hstore.items v)) (shortened (key_item key))
short_key v key has = in_map shortened (hstore.items v) (key_item key) (by_value v key (find key v) refl has)

short_pair : (v : List Pair) (p : Pair) → find p.0 v ≡ Some p.1 → Contains (map shortened (hstore.items v)) (shortened (pair_item p))
short_pair v p e = in_map shortened (hstore.items v) (pair_item p) (items_of_found v p.0 p.1 e).1

-- what is sought has its short item among the wanted
asks_key : (keys : List (List ℕ)) (key : List ℕ) → Contains keys key → Contains (map shortened (map key_item keys)) (shortened (key_item key))
asks_key keys key c = in_map shortened (map key_item keys) (key_item key) (in_map key_item keys key c)

asks_pair : (other : List Pair) (p : Pair) → Contains other p → Contains (map shortened (map pair_item other)) (shortened (pair_item p))
asks_pair other p c = in_map shortened (map pair_item other) (pair_item p) (in_map pair_item other p c)

meet_key : (v : List Pair) (keys : List (List ℕ)) (key : List ℕ) → Contains keys key → HasKey v key → InReach mode.Default (rising_of (map shortened (map key_item keys))) (items v)
meet_key v keys key c has = meets (map shortened (map key_item keys)) (map shortened (hstore.items v)) (shortened (key_item key)) (asks_key keys key c) (short_key v key has)

contains_reach : (v other : List Pair) → All (λ (p : Pair). find p.0 v ≡ Some p.1) other → InReach (unless_empty mode.All other) (rising_of (map shortened (map pair_item other))) (items v)
contains_reach v [] each = refl
contains_reach v (p ∷ other) each =
    meets (map shortened (map pair_item (p ∷ other))) (map shortened (hstore.items v)) (shortened (pair_item p)) (asks_pair (p ∷ other) p (here p other))
    (short_pair v p (All-head (λ (r : Pair). find r.0 v ≡ Some r.1) p other each))

-- Where a query holds of a map, the map is in reach.
pub reach_sees : (v : List Pair) (q : HstoreQuery) → IsQuery q → Holds q v → InReach (tests.mode q) (wanted q) (items v)
reach_sees v (query.Contains other) valid holds = contains_reach v other ((contains_each v other valid.is_map).1 holds)
reach_sees v (query.Has key) valid has = meet_key v (key ∷ []) key (here key []) has
reach_sees v (query.HasAll []) valid each = refl
reach_sees v (query.HasAll (key ∷ keys)) valid each = meet_key v (key ∷ keys) key (here key keys) (All-head (λ k. HasKey v k) key keys each)
reach_sees v (query.HasAny keys) valid any = meet_key v keys any.1 (any.0, any.2, any.3) any.4

-- an answer is right where what is met, and not long, holds
told_right : (long met : Bool) (P : Type 0) → (P → met ≡ true) → (long ≡ false → met ≡ true → P) → IsRight (if long then maybe met else sure met) P
told_right true met P f g = maybe_right met P f
told_right false met P f g = sure_right met P f (g refl)

-- where none is long, no element is
none_long : {X : Type 0} (p : X → Bool) (xs : List X) (x : X) (b : Bool) → p x ≡ b → list_any p xs ≡ false → Contains xs x → b ≡ false
none_long p xs x true e none c = sym (any_true p xs x c e) ∙ none
none_long p xs x false e none c = refl

-- all keys
keys_found : (v : List Pair) (keys : List (List ℕ)) → All (λ key. HasKey v key) keys → all_found (flags (rising_of (map shortened (map key_item keys))) (items v)) ≡ true
keys_found v keys each =
    all_are (map shortened (map key_item keys)) (map shortened (hstore.items v))
    (λ z c. let made = of_map shortened (map key_item keys) z c in
    let key = of_map key_item keys made.from made.in' in
    subst (λ (x : List ℕ). Contains (map shortened (hstore.items v)) x) (ap shortened key.is ∙ made.is) (short_key v key.from (All-contains (λ k. HasKey v k) keys key.from each key.in')))

found_keys : (v : List Pair) (keys : List (List ℕ)) → IsMap v → list_any (λ key. is_long (key_item key)) keys ≡ false
    → all_found (flags (rising_of (map shortened (map key_item keys))) (items v)) ≡ true → All (λ key. HasKey v key) keys
found_keys v keys is short e =
    All-weaker (λ key. Contains keys key) (λ key. HasKey v key)
    (λ key c. key_of_short v key is (none_long (λ k. is_long (key_item k)) keys key (is_long (key_item key)) refl short c)
    (are_all (map shortened (map key_item keys)) (map shortened (hstore.items v)) e (shortened (key_item key)) (asks_key keys key c)))
    keys (All-contains_itself keys)

-- all keys with their values
pairs_found : (v other : List Pair) → All (λ (p : Pair). find p.0 v ≡ Some p.1) other → all_found (flags (rising_of (map shortened (map pair_item other))) (items v)) ≡ true
pairs_found v other each =
    all_are (map shortened (map pair_item other)) (map shortened (hstore.items v))
    (λ z c. let made = of_map shortened (map pair_item other) z c in
    let pair = of_map pair_item other made.from made.in' in
    subst (λ (x : List ℕ). Contains (map shortened (hstore.items v)) x) (ap shortened pair.is ∙ made.is)
    (short_pair v pair.from (All-contains (λ (r : Pair). find r.0 v ≡ Some r.1) other pair.from each pair.in')))

found_pairs : (v other : List Pair) → IsMap v → list_any (λ (p : Pair). is_long (pair_item p)) other ≡ false
    → all_found (flags (rising_of (map shortened (map pair_item other))) (items v)) ≡ true → All (λ (p : Pair). find p.0 v ≡ Some p.1) other
found_pairs v other is short e =
    All-weaker (λ p. Contains other p) (λ (p : Pair). find p.0 v ≡ Some p.1)
    (λ p c. value_of_short v p is (none_long (λ (r : Pair). is_long (pair_item r)) other p (is_long (pair_item p)) refl short c)
    (are_all (map shortened (map pair_item other)) (map shortened (hstore.items v)) e (shortened (pair_item p)) (asks_pair other p c)))
    other (All-contains_itself other)

-- some key
key_found : (v : List Pair) (keys : List (List ℕ)) → Any (λ key. HasKey v key) keys → some_found (flags (rising_of (map shortened (map key_item keys))) (items v)) ≡ true
key_found v keys any =
    some_is (map shortened (map key_item keys)) (map shortened (hstore.items v)) (shortened (key_item any.1)) (asks_key keys any.1 (any.0, any.2, any.3)) (short_key v any.1 any.4)

found_key : (v : List Pair) (keys : List (List ℕ)) → IsMap v → list_any (λ key. is_long (key_item key)) keys ≡ false
    → some_found (flags (rising_of (map shortened (map key_item keys))) (items v)) ≡ true → Any (λ key. HasKey v key) keys
found_key v keys is short e =
    let met = is_some (map shortened (map key_item keys)) (map shortened (hstore.items v)) e in
    let made = of_map shortened (map key_item keys) met.item met.wanted in
    let key = of_map key_item keys made.from made.in' in
    let has = key_of_short v key.from is (none_long (λ k. is_long (key_item k)) keys key.from (is_long (key_item key.from)) refl short key.in')
    (subst (λ (x : List ℕ). Contains (map shortened (hstore.items v)) x) (sym (ap shortened key.is ∙ made.is)) met.there) in
    (key.in'.0, key.from, key.in'.1, key.in'.2, has)

-- one key is a list of keys
one_all : (v : List Pair) (key : List ℕ) → HasKey v key → All (λ k. HasKey v k) (key ∷ [])
one_all v key has = All-cons (λ k. HasKey v k) key [] has (All-nil (λ k. HasKey v k))

-- Flags rule a query out only where it doesn't hold, and are sure only where it does.
pub passes_are_right : (v : List Pair) (q : HstoreQuery) → IsHstore v → IsQuery q → IsRight (answer q (flags (wanted q) (items v))) (Holds q v)
passes_are_right v (query.Contains other) isv valid =
    told_right (has_long (query.Contains other)) (is_met (query.Contains other) (flags (wanted (query.Contains other)) (items v))) (ContainsMap v other)
    (λ holds. pairs_found v other ((contains_each v other valid.is_map).1 holds)) (λ short e. (contains_each v other valid.is_map).0 (found_pairs v other isv.is_map short e))
passes_are_right v (query.Has key) isv valid =
    told_right (has_long (query.Has key)) (is_met (query.Has key) (flags (wanted (query.Has key)) (items v))) (HasKey v key) (λ has. keys_found v (key ∷ []) (one_all v key has))
    (λ short e. key_of_short v key isv.is_map short
    (are_all (map shortened (map key_item (key ∷ []))) (map shortened (hstore.items v)) e (shortened (key_item key)) (asks_key (key ∷ []) key (here key []))))
passes_are_right v (query.HasAll keys) isv valid =
    told_right (has_long (query.HasAll keys)) (is_met (query.HasAll keys) (flags (wanted (query.HasAll keys)) (items v))) (All (λ key. HasKey v key) keys) (keys_found v keys)
    (found_keys v keys isv.is_map)
passes_are_right v (query.HasAny keys) isv valid =
    told_right (has_long (query.HasAny keys)) (is_met (query.HasAny keys) (flags (wanted (query.HasAny keys)) (items v))) (Any (λ key. HasKey v key) keys) (key_found v keys)
    (found_key v keys isv.is_map)
