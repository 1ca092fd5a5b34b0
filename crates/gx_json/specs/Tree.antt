-- The tree that a document is, in the words of `serde_json`: numbers have values, and an object has each key once.
use Rattle.std.specs.Prelude.{ℕ, List, [], ◌∷◌, map}
use Rattle.serde_json.specs.Data.{Data, null, boolean, number, string, array, object, Items, Members, no_members, member}
use Rattle.serde_json.specs.View.{items_of}
use Rattle.serde_json.specs.Find.{of_integer}
use Rattle.gx_json.specs.declared.document.Json.{Json, fold-Json}
use Rattle.gx_json.specs.declared.document.Json.TheOpen.{Json-F, JsonList-F, JsonPairs-F}

-- the members, of keys and values
abbrev pub pairs_of : List (List ℕ × Data) → Members
pairs_of [] = no_members
pairs_of (p ∷ ps) = member p.0 p.1 (pairs_of ps)

abbrev pub list_step : JsonList-F Data Items Members → Items
list_step v = items_of v.items.items

abbrev pub pairs_step : JsonPairs-F Data Items Members → Members
pairs_step v = pairs_of v.items.items

abbrev pub data_step : Json-F Data Items Members → Data
data_step Json-F.Null = null
data_step (Json-F.Bool b) = boolean b
data_step (Json-F.Number z) = number (of_integer z)
data_step (Json-F.Text s) = string s
data_step (Json-F.List v) = array v
data_step (Json-F.Object v) = object v

abbrev pub data_of : Json → Data
data_of = fold-Json Data Items Members data_step list_step pairs_step

abbrev pub items_data : List Json → Items
items_data vs = items_of (map data_of vs)

abbrev pub members_data : List (List ℕ × Json) → Members
members_data ps = pairs_of (map (λ p. (p.0, data_of p.1)) ps)
