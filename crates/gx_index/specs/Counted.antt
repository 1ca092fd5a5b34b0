-- A value has an entry for each key of its items.
use Rattle.std.specs.Prelude.{◌≡◌, ℕ, ℤ, List, [], ◌∷◌, length, map}
use Rattle.std.proofs.Common.{refl, ap, suc}
use Rattle.serde_json.specs.Data.{Data}
use Rattle.gx_hstore.specs.Map.{Pair}
use Rattle.gx_gin_arrays.specs.Numbers as arrays
use Rattle.gx_gin_maps.specs.Tests as maps
use Rattle.gx_gin_documents.specs.Items as documents
use Rattle.gx_gin_documents.specs.Paths as paths
use Rattle.gx_value.specs.declared.classes.Class.TheVariants.{ArrayOps, GinInt, GinHstore, JsonbOps, JsonbPathOps}
use Rattle.gx_value.specs.Values.{hstore, int_array, json}
use Rattle.gx_candidates.specs.Candidates.{at_least_one, entries_of}
use Rattle.gx_gin_scan.specs.Lists.{keys_of}

map_long : (items : List (List ℕ)) → length (map (λ i. 1 ∷ i) items) ≡ length items
map_long [] = refl
map_long (item ∷ items) = ap suc (map_long items)

counted : (items : List (List ℕ)) → length (keys_of items) ≡ at_least_one (length items)
counted [] = refl
counted (item ∷ items) = ap suc (map_long items)

pub arrays_counted : (v : List ℤ) → length (keys_of (arrays.items v)) ≡ entries_of ArrayOps (int_array v)
unfolding entries_of
arrays_counted v = counted (arrays.items v)

pub numbers_counted : (v : List ℤ) → length (keys_of (arrays.items v)) ≡ entries_of GinInt (int_array v)
unfolding entries_of
numbers_counted v = counted (arrays.items v)

pub maps_counted : (v : List Pair) → length (keys_of (maps.items v)) ≡ entries_of GinHstore (hstore v)
unfolding entries_of
maps_counted v = counted (maps.items v)

pub documents_counted : (v : Data) → length (keys_of (documents.items v)) ≡ entries_of JsonbOps (json v)
unfolding entries_of
documents_counted v = counted (documents.items v)

pub paths_counted : (v : Data) → length (keys_of (paths.items v)) ≡ entries_of JsonbPathOps (json v)
unfolding entries_of
paths_counted v = counted (paths.items v)
