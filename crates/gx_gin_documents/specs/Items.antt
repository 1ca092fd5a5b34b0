-- The items of a document for jsonb_ops: `K` (75) and the text for each key, each string that is an element of an array, and a string that is the whole document; `S` (83)
-- and the text for each string that is the value of a key; `N` (78) and decimal digits for each number; `T` (84), `F` (70), `Z` (90) for true, false and null; at any depth.
use Rattle.std.specs.Prelude.{ℕ, Bool, true, false, List, [], ◌∷◌, ◌++◌, map}
use Rattle.serde_json.specs.Data.{Data, null, boolean, number, string, array, object, Items, no_items, item, Members, no_members, member}
use Rattle.serde_json.specs.Written.{number_text}
use Rattle.gx_gin.specs.Rising.{rising_of}
use Rattle.gx_gin_items.specs.Items.{shortened}

abbrev pub key_item : List ℕ → List ℕ
key_item key = 75 ∷ key

abbrev pub truth_item : Bool → List ℕ
truth_item true = 84 ∷ []
truth_item false = 70 ∷ []

abbrev mutual
  -- the items of a value; the item of a string begins with this byte
  pub items_as : ℕ → Data → List (List ℕ)
  items_as byte null = (90 ∷ []) ∷ []
  items_as byte (boolean b) = truth_item b ∷ []
  items_as byte (number n) = (78 ∷ number_text n) ∷ []
  items_as byte (string s) = (byte ∷ s) ∷ []
  items_as byte (array ds) = element_items ds
  items_as byte (object ms) = member_items ms

  pub element_items : Items → List (List ℕ)
  element_items no_items = []
  element_items (item d ds) = items_as 75 d ++ element_items ds

  pub member_items : Members → List (List ℕ)
  member_items no_members = []
  member_items (member k d ms) = key_item k ∷ (items_as 83 d ++ member_items ms)

-- the items of a document, before they are kept short
abbrev pub document_items : Data → List (List ℕ)
document_items d = items_as 75 d

abbrev pub items : Data → List (List ℕ)
items d = rising_of (map shortened (document_items d))
