-- Items made step by step are those of the document.
use Rattle.std.specs.Prelude.{◌≡◌, ℕ, List, [], ◌∷◌, ◌++◌, map, refl}
use Rattle.std.proofs.Common.{sym, ap, ap₂, ◌∙◌}
use Rattle.std.proofs.lemmas.List.{map-append}
use Rattle.serde_json.specs.Data.{Data, null, boolean, number, string, array, object, Items, no_items, item, Members, no_members, member}
use Rattle.serde_json.specs.Written.{number_text}
use Rattle.byteorder.specs.Endian.{big_bytes}
use Rattle.gx_bytes.specs.Hash.{hash_byte, hash_from}
use Rattle.gx_gin_items.specs.Items.{hash_of, shortened}
use Rattle.gx_gin_documents.specs.Items.{key_item, truth_item, items_as, element_items, member_items}
use Rattle.gx_gin_documents.specs.Paths.{key_step, paths_below, element_paths, member_paths, path_item}
use Rattle.gx_gin_documents.specs.Steps.{short_items, short_elements, short_members, hash_item, hash_items, hash_elements, hash_members}

mutual
  pub short_are : (byte : ℕ) (d : Data) → short_items byte d ≡ map shortened (items_as byte d)
  short_are byte null = refl
  short_are byte (boolean b) = refl
  short_are byte (number n) = refl
  short_are byte (string s) = refl
  short_are byte (array ds) = short_elements_are ds
  short_are byte (object ms) = short_members_are ms

  short_elements_are : (ds : Items) → short_elements ds ≡ map shortened (element_items ds)
  short_elements_are no_items = refl
  short_elements_are (item d ds) =
      ap₂ (λ (a b : List (List ℕ)). a ++ b) (short_are 75 d) (short_elements_are ds) ∙ sym (map-append shortened (items_as 75 d) (element_items ds))

  short_members_are : (ms : Members) → short_members ms ≡ map shortened (member_items ms)
  short_members_are no_members = refl
  short_members_are (member k d ms) =
      ap (λ (l : List (List ℕ)). shortened (key_item k) ∷ l)
      (ap₂ (λ (a b : List (List ℕ)). a ++ b) (short_are 83 d) (short_members_are ms) ∙ sym (map-append shortened (items_as 83 d) (member_items ms)))

-- a hash is continued
pub continued : (hash : ℕ) (xs ys : List ℕ) → hash_from (hash_from hash xs) ys ≡ hash_from hash (xs ++ ys)
continued hash [] ys = refl
continued hash (x ∷ xs) ys = continued (hash_byte hash x) xs ys

scalar : (above text : List ℕ) → hash_item (hash_of above) text ∷ [] ≡ map path_item ((above ++ text) ∷ [])
scalar above text = ap (λ (h : ℕ). big_bytes 4 h ∷ []) (continued 2166136261 above text)

mutual
  pub hashes_are : (above : List ℕ) (d : Data) → hash_items (hash_of above) d ≡ map path_item (paths_below above d)
  hashes_are above null = scalar above (90 ∷ [])
  hashes_are above (boolean b) = scalar above (truth_item b)
  hashes_are above (number n) = scalar above (78 ∷ number_text n)
  hashes_are above (string s) = scalar above (83 ∷ s)
  hashes_are above (array ds) = hash_elements_are above ds
  hashes_are above (object ms) = hash_members_are above ms

  hash_elements_are : (above : List ℕ) (ds : Items) → hash_elements (hash_of above) ds ≡ map path_item (element_paths above ds)
  hash_elements_are above no_items = refl
  hash_elements_are above (item d ds) =
      ap₂ (λ (a b : List (List ℕ)). a ++ b) (hashes_are above d) (hash_elements_are above ds) ∙ sym (map-append path_item (paths_below above d) (element_paths above ds))

  hash_members_are : (above : List ℕ) (ms : Members) → hash_members (hash_of above) ms ≡ map path_item (member_paths above ms)
  hash_members_are above no_members = refl
  hash_members_are above (member k d ms) =
      ap₂ (λ (a b : List (List ℕ)). a ++ b)
      (ap (λ (h : ℕ). hash_items h d) (continued 2166136261 above (key_step k)) ∙ hashes_are (above ++ key_step k) d)
      (hash_members_are above ms)
      ∙ sym (map-append path_item (paths_below (above ++ key_step k) d) (member_paths above ms))
