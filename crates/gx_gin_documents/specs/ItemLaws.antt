-- What a document contains has its items among the document's.
use Rattle.std.specs.Prelude.{◌≡◌, ℕ, List, [], ◌∷◌, ◌++◌, Contains}
use Rattle.std.proofs.Common.{sym, subst, inl, inr}
use Rattle.std.proofs.lemmas.List.Elements.{Contains-append_left, Contains-append_right, Contains-append_cases}
use Rattle.serde_json.specs.Data.{Data, null, boolean, number, string, array, object, Items, no_items, item, Members, no_members, member}
use Rattle.gx_json.specs.Operators.{HasKey, SomeItem, SomeMember, Covers, CoverItems, CoverMembers, ContainsDocument}
use Rattle.gx_gin_items.specs.ListLaws.{here, there, none_in, in_cases}
use Rattle.gx_gin_documents.specs.Items.{key_item, items_as, element_items, member_items, document_items}

-- an item of some element, or of some member's value, is one of the whole
some_element : (vs : Items) (P : Data → Type 0) (z : List ℕ) → ((v : Data) → P v → Contains (items_as 75 v) z) → SomeItem P vs → Contains (element_items vs) z
some_element no_items P z f s = absurd s
some_element (item v vs) P z f s = elim s [
  | inl p ↦ Contains-append_left (items_as 75 v) (element_items vs) z (f v p)
  | inr more ↦ Contains-append_right (items_as 75 v) (element_items vs) z (some_element vs P z f more)
]

some_member : (vs : Members) (key : List ℕ) (P : Data → Type 0) (z : List ℕ) → ((v : Data) → P v → Contains (items_as 83 v) z) → SomeMember key P vs → Contains (member_items vs) z
some_member no_members key P z f s = absurd s
some_member (member k v vs) key P z f s = elim s [
  | inl p ↦ there (key_item k) z (items_as 83 v ++ member_items vs) (Contains-append_left (items_as 83 v) (member_items vs) z (f v p.1))
  | inr more ↦ there (key_item k) z (items_as 83 v ++ member_items vs) (Contains-append_right (items_as 83 v) (member_items vs) z (some_member vs key P z f more))
]

-- so is the item of a key
some_key : (vs : Members) (key : List ℕ) (P : Data → Type 0) → SomeMember key P vs → Contains (member_items vs) (key_item key)
some_key no_members key P s = absurd s
some_key (member k v vs) key P s = elim s [
  | inl p ↦ subst (λ (l : List ℕ). Contains (key_item k ∷ (items_as 83 v ++ member_items vs)) (key_item l)) p.0 (here (key_item k) (items_as 83 v ++ member_items vs))
  | inr more ↦ there (key_item k) (key_item key) (items_as 83 v ++ member_items vs) (Contains-append_right (items_as 83 v) (member_items vs) (key_item key) (some_key vs key P more))
]

mutual
  covered : (byte : ℕ) (q v : Data) → Covers v q → (z : List ℕ) → Contains (items_as byte q) z → Contains (items_as byte v) z
  covered byte null v h z c = subst (λ (d : Data). Contains (items_as byte d) z) (sym h) c
  covered byte (boolean b) v h z c = subst (λ (d : Data). Contains (items_as byte d) z) (sym h) c
  covered byte (number n) v h z c = subst (λ (d : Data). Contains (items_as byte d) z) (sym h) c
  covered byte (string s) v h z c = subst (λ (d : Data). Contains (items_as byte d) z) (sym h) c
  covered byte (array qs) v h z c = subst (λ (d : Data). Contains (items_as byte d) z) (sym h.1) (covered_elements qs h.0 h.2 z c)
  covered byte (object qs) v h z c = subst (λ (d : Data). Contains (items_as byte d) z) (sym h.1) (covered_members qs h.0 h.2 z c)

  covered_elements : (qs vs : Items) → CoverItems vs qs → (z : List ℕ) → Contains (element_items qs) z → Contains (element_items vs) z
  covered_elements no_items vs h z c = absurd (none_in z c)
  covered_elements (item q qs) vs h z c = elim (Contains-append_cases (items_as 75 q) (element_items qs) z c) [
    | inl own ↦ some_element vs (λ v. Covers v q) z (λ v p. covered 75 q v p z own) h.0
    | inr more ↦ covered_elements qs vs h.1 z more
  ]

  covered_members : (qs vs : Members) → CoverMembers vs qs → (z : List ℕ) → Contains (member_items qs) z → Contains (member_items vs) z
  covered_members no_members vs h z c = absurd (none_in z c)
  covered_members (member k q qs) vs h z c = elim (in_cases (key_item k) z (items_as 83 q ++ member_items qs) c) [
    | inl is ↦ subst (λ (w : List ℕ). Contains (member_items vs) w) is (some_key vs k (λ v. Covers v q) h.0)
    | inr rest ↦ elim (Contains-append_cases (items_as 83 q) (member_items qs) z rest) [
      | inl own ↦ some_member vs k (λ v. Covers v q) z (λ v p. covered 83 q v p z own) h.0
      | inr more ↦ covered_members qs vs h.1 z more
    ]
  ]

pub contained : (q v : Data) → ContainsDocument v q → (z : List ℕ) → Contains (document_items q) z → Contains (document_items v) z
contained q v h z c = elim h [
  | inl cover ↦ covered 75 q v cover z c
  | inr s ↦ subst (λ (d : Data). Contains (items_as 75 d) z) (sym s.1.1) (some_element s.1.0 (λ d. d ≡ q) z (λ d p. subst (λ (w : Data). Contains (items_as 75 w) z) (sym p) c) s.1.2)
]

-- a document that has a key has its item
pub key_there : (key : List ℕ) (v : Data) → HasKey key v → Contains (document_items v) (key_item key)
key_there key null h = absurd h
key_there key (boolean b) h = absurd h
key_there key (number n) h = absurd h
key_there key (string s) h = subst (λ (k : List ℕ). Contains (key_item s ∷ []) (key_item k)) h (here (key_item s) [])
key_there key (array ds) h =
    some_element ds (λ d. d ≡ string key) (key_item key) (λ d p. subst (λ (w : Data). Contains (items_as 75 w) (key_item key)) (sym p) (here (key_item key) [])) h
key_there key (object ms) h = some_key ms key (λ _. Unit {0}) h
