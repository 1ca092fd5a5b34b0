-- What a document contains has its paths among the document's.
use Rattle.std.specs.Prelude.{◌≡◌, ℕ, List, [], ◌++◌, Contains}
use Rattle.std.proofs.Common.{sym, subst, inl, inr}
use Rattle.std.proofs.lemmas.List.Elements.{Contains-append_left, Contains-append_right, Contains-append_cases}
use Rattle.serde_json.specs.Data.{Data, null, boolean, number, string, array, object, Items, no_items, item, Members, no_members, member}
use Rattle.gx_json.specs.Operators.{SomeItem, SomeMember, Covers, CoverItems, CoverMembers, ContainsDocument}
use Rattle.gx_gin_items.specs.ListLaws.{none_in}
use Rattle.gx_gin_documents.specs.Paths.{key_step, paths_below, element_paths, member_paths, document_paths}

-- a path of some element, or of some member's value, is one of the whole
some_element : (above : List ℕ) (vs : Items) (P : Data → Type 0) (z : List ℕ) → ((v : Data) → P v → Contains (paths_below above v) z) → SomeItem P vs → Contains (element_paths above vs) z
some_element above no_items P z f s = absurd s
some_element above (item v vs) P z f s = elim s [
  | inl p ↦ Contains-append_left (paths_below above v) (element_paths above vs) z (f v p)
  | inr more ↦ Contains-append_right (paths_below above v) (element_paths above vs) z (some_element above vs P z f more)
]

some_member : (above : List ℕ) (vs : Members) (key : List ℕ) (P : Data → Type 0) (z : List ℕ) → ((v : Data) → P v → Contains (paths_below (above ++ key_step key) v) z) → SomeMember key P vs
    → Contains (member_paths above vs) z
some_member above no_members key P z f s = absurd s
some_member above (member k v vs) key P z f s = elim s [
  | inl p ↦ Contains-append_left (paths_below (above ++ key_step k) v) (member_paths above vs) z (subst (λ (l : List ℕ). Contains (paths_below (above ++ key_step l) v) z) (sym p.0) (f v p.1))
  | inr more ↦ Contains-append_right (paths_below (above ++ key_step k) v) (member_paths above vs) z (some_member above vs key P z f more)
]

mutual
  covered : (above : List ℕ) (q v : Data) → Covers v q → (z : List ℕ) → Contains (paths_below above q) z → Contains (paths_below above v) z
  covered above null v h z c = subst (λ (d : Data). Contains (paths_below above d) z) (sym h) c
  covered above (boolean b) v h z c = subst (λ (d : Data). Contains (paths_below above d) z) (sym h) c
  covered above (number n) v h z c = subst (λ (d : Data). Contains (paths_below above d) z) (sym h) c
  covered above (string s) v h z c = subst (λ (d : Data). Contains (paths_below above d) z) (sym h) c
  covered above (array qs) v h z c = subst (λ (d : Data). Contains (paths_below above d) z) (sym h.1) (covered_elements above qs h.0 h.2 z c)
  covered above (object qs) v h z c = subst (λ (d : Data). Contains (paths_below above d) z) (sym h.1) (covered_members above qs h.0 h.2 z c)

  covered_elements : (above : List ℕ) (qs vs : Items) → CoverItems vs qs → (z : List ℕ) → Contains (element_paths above qs) z → Contains (element_paths above vs) z
  covered_elements above no_items vs h z c = absurd (none_in z c)
  covered_elements above (item q qs) vs h z c = elim (Contains-append_cases (paths_below above q) (element_paths above qs) z c) [
    | inl own ↦ some_element above vs (λ v. Covers v q) z (λ v p. covered above q v p z own) h.0
    | inr more ↦ covered_elements above qs vs h.1 z more
  ]

  covered_members : (above : List ℕ) (qs vs : Members) → CoverMembers vs qs → (z : List ℕ) → Contains (member_paths above qs) z → Contains (member_paths above vs) z
  covered_members above no_members vs h z c = absurd (none_in z c)
  covered_members above (member k q qs) vs h z c = elim (Contains-append_cases (paths_below (above ++ key_step k) q) (member_paths above qs) z c) [
    | inl own ↦ some_member above vs k (λ v. Covers v q) z (λ v p. covered (above ++ key_step k) q v p z own) h.0
    | inr more ↦ covered_members above qs vs h.1 z more
  ]

pub contained : (q v : Data) → ContainsDocument v q → (z : List ℕ) → Contains (document_paths q) z → Contains (document_paths v) z
contained q v h z c = elim h [
  | inl cover ↦ covered [] q v cover z c
  | inr s ↦ subst (λ (d : Data). Contains (paths_below [] d) z) (sym s.1.1) (some_element [] s.1.0 (λ d. d ≡ q) z (λ d p. subst (λ (w : Data). Contains (paths_below [] w) z) (sym p) c) s.1.2)
]
