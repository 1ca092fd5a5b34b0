-- The class gin_hstore_ops.
use Rattle.std.specs.Prelude.{ℕ, Bool, List, [], ◌∷◌, map, if◌then◌else◌}
use Rattle.std.specs.List.{list_any}
use Rattle.gx_gin.specs.Rising.{rising_of}
use Rattle.gx_gin.specs.declared.wanted.Mode.{Mode}
use Rattle.gx_gin.specs.declared.wanted.Mode.TheVariants.{Default, All}
use Rattle.gx_gist.specs.declared.test.Test.{Test}
use Rattle.gx_hstore.specs.Map.{Pair, IsHstore}
use Rattle.gx_hstore.specs.Operators as maps
use Rattle.gx_hstore_items.specs.Items as hstore
use Rattle.gx_hstore_items.specs.Items.{key_item, value_item}
use Rattle.gx_gin_items.specs.Items.{is_long, shortened}
use Rattle.gx_gin_items.specs.Tests.{all_found, some_found, sure, maybe, unless_empty}
use Rattle.gx_gin_maps.specs.declared.hstore_query.HstoreQuery.{HstoreQuery}
use Rattle.gx_gin_maps.specs.declared.hstore_query.HstoreQuery.TheVariants as query

-- The operator holds of the map and its operand.
abbrev pub Holds : HstoreQuery → List Pair → Type 0
Holds (query.Contains other) hstore = maps.Holds (maps.Contains other) hstore
Holds (query.Has key) hstore = maps.Holds (maps.Has key) hstore
Holds (query.HasAll keys) hstore = maps.Holds (maps.HasAll keys) hstore
Holds (query.HasAny keys) hstore = maps.Holds (maps.HasAny keys) hstore

-- The operand is a valid map.
abbrev pub IsQuery : HstoreQuery → Type 0
IsQuery (query.Contains other) = IsHstore other
IsQuery (query.Has key) = Unit {0}
IsQuery (query.HasAll keys) = Unit {0}
IsQuery (query.HasAny keys) = Unit {0}

-- the items of a map, kept short
abbrev pub items : List Pair → List (List ℕ)
items pairs = rising_of (map shortened (hstore.items pairs))

-- the item of a key with its value
abbrev pub pair_item : Pair → List ℕ
pair_item pair = value_item pair.0 pair.1

-- what a query asks for: for `@>` each key with its value, else each key
abbrev pub sought : HstoreQuery → List (List ℕ)
sought (query.Contains other) = map pair_item other
sought (query.Has key) = map key_item (key ∷ [])
sought (query.HasAll keys) = map key_item keys
sought (query.HasAny keys) = map key_item keys

-- the items that a query wants
abbrev pub wanted : HstoreQuery → List (List ℕ)
wanted q = rising_of (map shortened (sought q))

-- the rows that a query looks at
abbrev pub mode : HstoreQuery → Mode
mode (query.Contains other) = unless_empty All other
mode (query.Has key) = Default
mode (query.HasAll keys) = unless_empty All keys
mode (query.HasAny keys) = Default

-- a wanted item is shortened
abbrev pub has_long : HstoreQuery → Bool
has_long (query.Contains other) = list_any (λ pair. is_long (pair_item pair)) other
has_long (query.Has key) = is_long (key_item key)
has_long (query.HasAll keys) = list_any (λ key. is_long (key_item key)) keys
has_long (query.HasAny keys) = list_any (λ key. is_long (key_item key)) keys

-- what the query asks for was found: some of it for `?|`, else all
abbrev pub is_met : HstoreQuery → List Bool → Bool
is_met (query.Contains other) found = all_found found
is_met (query.Has key) found = all_found found
is_met (query.HasAll keys) found = all_found found
is_met (query.HasAny keys) found = some_found found

-- what flags of the wanted items say of a query: it isn't sure where an item is shortened
abbrev pub answer : HstoreQuery → List Bool → Test
answer q found = if has_long q then maybe (is_met q found) else sure (is_met q found)
