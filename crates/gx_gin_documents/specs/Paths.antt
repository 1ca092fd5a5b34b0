-- The items of a document for jsonb_path_ops: for each scalar at any depth the hash of its path. A path has for each key above the scalar, the outermost first, `K` (75),
-- the key and a byte 0; then `S` (83) and the text of a string, `N` (78) and the decimal digits of a number, or `T` (84), `F` (70), `Z` (90) for true, false, null.
use Rattle.std.specs.Prelude.{ℕ, List, [], ◌∷◌, ◌++◌, map}
use Rattle.serde_json.specs.Data.{Data, null, boolean, number, string, array, object, Items, no_items, item, Members, no_members, member}
use Rattle.serde_json.specs.Written.{number_text}
use Rattle.byteorder.specs.Endian.{big_bytes}
use Rattle.gx_gin.specs.Rising.{rising_of}
use Rattle.gx_gin_items.specs.Items.{hash_of}
use Rattle.gx_gin_documents.specs.Items.{truth_item}

abbrev pub key_step : List ℕ → List ℕ
key_step key = 75 ∷ (key ++ 0 ∷ [])

abbrev mutual
  -- the paths of the scalars of a value that has these steps above it
  pub paths_below : List ℕ → Data → List (List ℕ)
  paths_below above null = (above ++ 90 ∷ []) ∷ []
  paths_below above (boolean b) = (above ++ truth_item b) ∷ []
  paths_below above (number n) = (above ++ 78 ∷ number_text n) ∷ []
  paths_below above (string s) = (above ++ 83 ∷ s) ∷ []
  paths_below above (array ds) = element_paths above ds
  paths_below above (object ms) = member_paths above ms

  pub element_paths : List ℕ → Items → List (List ℕ)
  element_paths above no_items = []
  element_paths above (item d ds) = paths_below above d ++ element_paths above ds

  pub member_paths : List ℕ → Members → List (List ℕ)
  member_paths above no_members = []
  member_paths above (member k d ms) = paths_below (above ++ key_step k) d ++ member_paths above ms

abbrev pub document_paths : Data → List (List ℕ)
document_paths d = paths_below [] d

-- the hash of a path in four bytes, the highest first
abbrev pub path_item : List ℕ → List ℕ
path_item path = big_bytes 4 (hash_of path)

abbrev pub items : Data → List (List ℕ)
items d = rising_of (map path_item (document_paths d))
