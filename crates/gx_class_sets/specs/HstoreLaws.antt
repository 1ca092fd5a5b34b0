-- What the laws of gist_hstore_ops stand on.
use Rattle.std.specs.Prelude.{◌≡◌, ◌≢◌, ℕ, Bool, true, ◌&&◌, List, map, Option, None, Some, IsSome, All, Any, refl}
use Rattle.std.specs.List.{list_any, list_all}
use Rattle.std.proofs.Common.{sym, true≢false}
use Rattle.gx_gist.specs.declared.test.Test.{Test}
use Rattle.gx_gist.specs.declared.test.Test.TheVariants.{No, Maybe, Yes}
use Rattle.gx_kleene.specs.Laws.{IsRight}
use Rattle.gx_sig.specs.BitSets.{IsSignatureLength, IsSignature}
use Rattle.gx_hstore.specs.Map.{Pair, find}
use Rattle.gx_hstore.specs.Operators.{HasKey, ContainsMap}
use Rattle.gx_hstore.proofs.MapLemmas.{contains_each}
use Rattle.gx_hstore_items.specs.Items.{key_item, value_item, items}
use Rattle.gx_hstore_items.specs.Laws.{items_of_found}
use Rattle.gx_class_sets.specs.declared.hstore_query.HstoreQuery.{HstoreQuery}
use Rattle.gx_class_sets.specs.declared.hstore_query.HstoreQuery.TheVariants as query
use Rattle.gx_class_sets.specs.Signatures.{has, IsOver, maybe}
use Rattle.gx_class_sets.specs.SignatureLaws.{sign_is, signed, has_over, any_mono, all_mono, all_true, any_true, both_true, both_mono, maybe_right, maybe_sees}
use Rattle.gx_class_sets.specs.HstoreTests.{Holds, IsQuery, item_hash, leaf_key, may_have, may_have_pair, answer}

pub leaf_is_valid : (n : ℕ) (v : List Pair) → IsSignature n (leaf_key n v)
leaf_is_valid n v = sign_is n (map item_hash (items v))

-- A key of a map is seen, and so is a key with its value.
pair_seen : (n : ℕ) (v : List Pair) → IsSignatureLength n → (p : Pair) → find p.0 v ≡ Some p.1 → may_have_pair n (leaf_key n v) p ≡ true
pair_seen n v long p e =
    let there = items_of_found v p.0 p.1 e in
    both_true (may_have n (leaf_key n v) p.0) (has n (leaf_key n v) (item_hash (value_item p.0 p.1)))
    (signed item_hash n (items v) (key_item p.0) long there.0) (signed item_hash n (items v) (value_item p.0 p.1) long there.1)

by_value : (n : ℕ) (v : List Pair) → IsSignatureLength n → (key : List ℕ) (value : Option (Option (List ℕ))) → find key v ≡ value → IsSome value → may_have n (leaf_key n v) key ≡ true
by_value n v long key None e some = absurd (true≢false (sym some))
by_value n v long key (Some x) e some = signed item_hash n (items v) (key_item key) long (items_of_found v key x e).0

key_seen : (n : ℕ) (v : List Pair) → IsSignatureLength n → (key : List ℕ) → HasKey v key → may_have n (leaf_key n v) key ≡ true
key_seen n v long key some = by_value n v long key (find key v) refl some

-- The key of a map says No only where the query doesn't hold, and never Yes.
pub leaf_is_right : (n : ℕ) (v : List Pair) (q : HstoreQuery) → IsSignatureLength n → IsQuery q → IsRight (answer n (leaf_key n v) q) (Holds q v)
leaf_is_right n v (query.Contains other) long valid =
    maybe_right (list_all (may_have_pair n (leaf_key n v)) other) (ContainsMap v other)
    (λ all. all_true (may_have_pair n (leaf_key n v)) (λ (p : Pair). find p.0 v ≡ Some p.1) (pair_seen n v long) other ((contains_each v other valid.is_map).1 all))
leaf_is_right n v (query.Has key) long valid = maybe_right (may_have n (leaf_key n v) key) (HasKey v key) (key_seen n v long key)
leaf_is_right n v (query.HasAll keys) long valid =
    maybe_right (list_all (may_have n (leaf_key n v)) keys) (All (λ key. HasKey v key) keys) (all_true (may_have n (leaf_key n v)) (λ key. HasKey v key) (key_seen n v long) keys)
leaf_is_right n v (query.HasAny keys) long valid =
    maybe_right (list_any (may_have n (leaf_key n v)) keys) (Any (λ key. HasKey v key) keys) (any_true (may_have n (leaf_key n v)) (λ key. HasKey v key) (key_seen n v long) keys)

-- A key over that of a map says No only where this one does.
key_over : (n : ℕ) (k l : List ℕ) → IsOver k l → (name : List ℕ) → may_have n l name ≡ true → may_have n k name ≡ true
key_over n k l over name = has_over n k l (item_hash (key_item name)) over

pair_over : (n : ℕ) (k l : List ℕ) → IsOver k l → (p : Pair) → may_have_pair n l p ≡ true → may_have_pair n k p ≡ true
pair_over n k l over p =
    both_mono (may_have n l p.0) (may_have n k p.0) (has n l (item_hash (value_item p.0 p.1))) (has n k (item_hash (value_item p.0 p.1)))
    (key_over n k l over p.0) (has_over n k l (item_hash (value_item p.0 p.1)) over)

pub inner_sees : (n : ℕ) (k l : List ℕ) (q : HstoreQuery) → IsOver k l → answer n l q ≢ No → answer n k q ≢ No
inner_sees n k l (query.Contains other) over =
    maybe_sees (list_all (may_have_pair n l) other) (list_all (may_have_pair n k) other) (all_mono (may_have_pair n l) (may_have_pair n k) (pair_over n k l over) other)
inner_sees n k l (query.Has name) over = maybe_sees (may_have n l name) (may_have n k name) (key_over n k l over name)
inner_sees n k l (query.HasAll names) over =
    maybe_sees (list_all (may_have n l) names) (list_all (may_have n k) names) (all_mono (may_have n l) (may_have n k) (key_over n k l over) names)
inner_sees n k l (query.HasAny names) over =
    maybe_sees (list_any (may_have n l) names) (list_any (may_have n k) names) (any_mono (may_have n l) (may_have n k) (key_over n k l over) names)
