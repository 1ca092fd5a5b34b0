-- The class gist_hstore_ops: keys are signatures of n bytes, of the items of maps.
use Rattle.std.specs.Prelude.{ℕ, Bool, ◌&&◌, List, map}
use Rattle.std.specs.List.{list_any, list_all}
use Rattle.gx_bytes.specs.Hash.{hash_from}
use Rattle.gx_hstore.specs.Map.{Pair, IsHstore}
use Rattle.gx_hstore.specs.Operators as maps
use Rattle.gx_hstore_items.specs.Items.{key_item, value_item, items}
use Rattle.gx_gist.specs.declared.test.Test.{Test}
use Rattle.gx_class_sets.specs.declared.hstore_query.HstoreQuery.{HstoreQuery}
use Rattle.gx_class_sets.specs.declared.hstore_query.HstoreQuery.TheVariants as query
use Rattle.gx_class_sets.specs.Signatures.{sign, has, maybe}

-- The operator holds of the map and its operand.
abbrev pub Holds : HstoreQuery → List Pair → Type 0
Holds (query.Contains other) hstore = maps.Holds (maps.Contains other) hstore
Holds (query.Has key) hstore = maps.Holds (maps.Has key) hstore
Holds (query.HasAll keys) hstore = maps.Holds (maps.HasAll keys) hstore
Holds (query.HasAny keys) hstore = maps.Holds (maps.HasAny keys) hstore

-- The operand is a valid map.
abbrev pub IsQuery : HstoreQuery → Type 0
IsQuery (query.Contains other) = IsHstore other
IsQuery (query.Has key) = Unit {0}
IsQuery (query.HasAll keys) = Unit {0}
IsQuery (query.HasAny keys) = Unit {0}

-- the hash of an item
abbrev pub item_hash : List ℕ → ℕ
item_hash item = hash_from 2166136261 item

-- the key of a map
abbrev pub leaf_key : ℕ → List Pair → List ℕ
leaf_key n hstore = sign n (map item_hash (items hstore))

-- the item of a key may be there; both items of a key with its value may be
abbrev pub may_have : ℕ → List ℕ → List ℕ → Bool
may_have n key name = has n key (item_hash (key_item name))

abbrev pub may_have_pair : ℕ → List ℕ → Pair → Bool
may_have_pair n key pair = may_have n key pair.0 && has n key (item_hash (value_item pair.0 pair.1))

-- the answer of a key, at a leaf and above
abbrev pub answer : ℕ → List ℕ → HstoreQuery → Test
answer n key (query.Contains other) = maybe (list_all (may_have_pair n key) other)
answer n key (query.Has name) = maybe (may_have n key name)
answer n key (query.HasAll names) = maybe (list_all (may_have n key) names)
answer n key (query.HasAny names) = maybe (list_any (may_have n key) names)
