-- How items are made: each kept short as it comes, and the hash of a path from the hash of the steps above.
use Rattle.std.specs.Prelude.{ℕ, List, [], ◌∷◌, ◌++◌}
use Rattle.serde_json.specs.Data.{Data, null, boolean, number, string, array, object, Items, no_items, item, Members, no_members, member}
use Rattle.serde_json.specs.Written.{number_text}
use Rattle.byteorder.specs.Endian.{big_bytes}
use Rattle.gx_bytes.specs.Hash.{hash_from}
use Rattle.gx_gin_items.specs.Items.{shortened}
use Rattle.gx_gin_documents.specs.Items.{key_item, truth_item}
use Rattle.gx_gin_documents.specs.Paths.{key_step}

abbrev mutual
  pub short_items : ℕ → Data → List (List ℕ)
  short_items byte null = shortened (90 ∷ []) ∷ []
  short_items byte (boolean b) = shortened (truth_item b) ∷ []
  short_items byte (number n) = shortened (78 ∷ number_text n) ∷ []
  short_items byte (string s) = shortened (byte ∷ s) ∷ []
  short_items byte (array ds) = short_elements ds
  short_items byte (object ms) = short_members ms

  pub short_elements : Items → List (List ℕ)
  short_elements no_items = []
  short_elements (item d ds) = short_items 75 d ++ short_elements ds

  pub short_members : Members → List (List ℕ)
  short_members no_members = []
  short_members (member k d ms) = shortened (key_item k) ∷ (short_items 83 d ++ short_members ms)

-- the item of a scalar, from the hash of the steps above it
abbrev pub hash_item : ℕ → List ℕ → List ℕ
hash_item hash scalar = big_bytes 4 (hash_from hash scalar)

abbrev mutual
  pub hash_items : ℕ → Data → List (List ℕ)
  hash_items hash null = hash_item hash (90 ∷ []) ∷ []
  hash_items hash (boolean b) = hash_item hash (truth_item b) ∷ []
  hash_items hash (number n) = hash_item hash (78 ∷ number_text n) ∷ []
  hash_items hash (string s) = hash_item hash (83 ∷ s) ∷ []
  hash_items hash (array ds) = hash_elements hash ds
  hash_items hash (object ms) = hash_members hash ms

  pub hash_elements : ℕ → Items → List (List ℕ)
  hash_elements hash no_items = []
  hash_elements hash (item d ds) = hash_items hash d ++ hash_elements hash ds

  pub hash_members : ℕ → Members → List (List ℕ)
  hash_members hash no_members = []
  hash_members hash (member k d ms) = hash_items (hash_from hash (key_step k)) d ++ hash_members hash ms
