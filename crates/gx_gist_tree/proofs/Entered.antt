-- The rows after an insert, and the keys that it keeps.
use Rattle.std.proofs.Common.{refl, sym, ap, subst, ◌∙◌, ◌≡◌, inl, inr, ⊎_elim, ℕ, zero, suc, List, [], ◌∷◌, ◌++◌, map, All, append_assoc, append-nil, arith}
use Rattle.std.specs.Prelude.{Contains}
use Rattle.std.specs.List.{flat_map}
use Rattle.std.specs.List.Sorted.{IsPermutation}
use Rattle.std.proofs.lemmas.Grind.{flat_map-append}
use Rattle.std.proofs.lemmas.List.Elements.{All-nil, All-cons, All-weaker, Contains-append_left, Contains-append_right}
use Rattle.std.proofs.lemmas.List.Sorted.{IsPermutation-sym, IsPermutation-trans, IsPermutation-middle, IsPermutation-map, IsPermutation-append_left, IsPermutation-append_right, Contains-permutation}
use Rattle.gx_pages.specs.declared.row.RowRef.{RowRef}
use Rattle.gx_gist_tree.specs.Trees.{Node, Entry, Outcome, entries, page_of, items_above, now_on, on_pages, Replaces, Inserts, IsKept, AreKept}
use Rattle.gx_gist_tree.specs.Insertion.{OnEach}
use Rattle.gx_gist_tree.proofs.Permuted.{flat_moved}

module _ {K : Type 0} (union : K → K → K) (row : RowRef) (key : K) where
  below_item : (level : ℕ) → K × Node K level → List (Entry K)
  below_item level item = entries level item.1

  flat_put : (level : ℕ) (k : K) (below : Outcome K level) (items : List (K × Node K level)) → Replaces union level k key below items → flat_map (λ item. entries level item.1) items ≡ now_on level below
  flat_put level k (inl node) items is = ap (λ (l : List (K × Node K level)). flat_map (λ (item : K × Node K level). entries level item.1) l) is ∙ append-nil (entries level node)
  flat_put level k (inr both) items (l, r, ul, ur, is) =
      ap (λ (m : List (K × Node K level)). flat_map (λ (item : K × Node K level). entries level item.1) m) is
      ∙ ap (λ (m : List (Entry K)). entries level both.0 ++ m) (append-nil (entries level both.1))

  flat_now : (level : ℕ) (out : Outcome K (suc level)) → flat_map (λ item. entries level item.1) (on_pages level out) ≡ now_on (suc level) out
  flat_now level (inl node) = refl
  flat_now level (inr both) = flat_map-append (λ (item : K × Node K level). entries level item.1) both.0.1 both.1.1

  -- the rows of before, and the new one
  pub entered : (level : ℕ) (node : Node K level) (out : Outcome K level) → Inserts union row key level node out → IsPermutation ((row, key) ∷ entries level node) (now_on level out)
  entered zero node out ins = ins
  entered (suc level) node out (front, item, back, below, items, is, ins, replaced, moved) =
      let E : K × Node K level → List (Entry K) = λ i. entries level i.1 in
      let F = flat_map E front in
      let B = flat_map E back in
      let I = entries level item.1 in
      let N = now_on level below in
      let new : Entry K = (row, key) in
      let ih = entered level item.1 below ins in
      let was : flat_map E node.1 ≡ F ++ (I ++ B) = ap (λ (l : List (K × Node K level)). flat_map E l) is ∙ flat_map-append E front (item ∷ back) in
      let a : IsPermutation (new ∷ (F ++ (I ++ B))) (F ++ new ∷ (I ++ B)) = IsPermutation-sym (F ++ new ∷ (I ++ B)) (new ∷ (F ++ (I ++ B))) (IsPermutation-middle F new (I ++ B)) in
      let b : IsPermutation (F ++ new ∷ (I ++ B)) (F ++ (N ++ B)) = IsPermutation-append_right F (new ∷ (I ++ B)) (N ++ B) (IsPermutation-append_left B (new ∷ I) N ih) in
      let c : flat_map E ((front ++ items) ++ back) ≡ F ++ (N ++ B) =
      flat_map-append E (front ++ items) back ∙ ap (λ (l : List (Entry K)). l ++ B) (flat_map-append E front items ∙ ap (λ (l : List (Entry K)). F ++ l) (flat_put level item.0 below items replaced)) ∙ append_assoc F N B in
      let d : IsPermutation (flat_map E ((front ++ items) ++ back)) (flat_map E (on_pages level out)) = flat_moved E ((front ++ items) ++ back) (on_pages level out) moved in
      let e : IsPermutation (F ++ (N ++ B)) (flat_map E (on_pages level out)) = subst (λ (l : List (Entry K)). IsPermutation l (flat_map E (on_pages level out))) c d in
      let all : IsPermutation (new ∷ (F ++ (I ++ B))) (flat_map E (on_pages level out)) =
      IsPermutation-trans (new ∷ (F ++ (I ++ B))) (F ++ new ∷ (I ++ B)) (flat_map E (on_pages level out)) a (IsPermutation-trans (F ++ new ∷ (I ++ B)) (F ++ (N ++ B)) (flat_map E (on_pages level out)) b e) in
      subst (λ (l : List (Entry K)). IsPermutation (new ∷ flat_map E node.1) l) (flat_now level out)
      (subst (λ (l : List (Entry K)). IsPermutation (new ∷ l) (flat_map E (on_pages level out))) (sym was) all)

  -- all of one list are in another one
  abbrev pub AreIn : List (ℕ × K) → List (ℕ × K) → Type 0
  AreIn xs ys = (x : ℕ × K) → Contains xs x → Contains ys x

  weaker_items : (old more : List (ℕ × K)) → AreIn old more → (level : ℕ) → ((node : Node K level) → AreKept union old row key level node → AreKept union more row key level node)
      → (items : List (K × Node K level)) → All (λ item. IsKept union old row key level item × AreKept union old row key level item.1) items
      → All (λ item. IsKept union more row key level item × AreKept union more row key level item.1) items
  weaker_items old more are level step items all =
      All-weaker (λ (item : K × Node K level). IsKept union old row key level item × AreKept union old row key level item.1) (λ (item : K × Node K level). IsKept union more row key level item × AreKept union more row key level item.1)
      (λ item kept. (
        ⊎_elim
            (λ was. inl (are (page_of K level item.1, item.0) was))
            (λ new. ⊎_elim (λ wide. inr (inl (wide.0, are (page_of K level item.1, wide.0) wide.1, wide.2, wide.3))) (λ united. inr (inr united)) new)
            kept.0,
        step item.1 kept.1,
      )) items all

  -- what was kept of a part was kept of the whole
  pub kept_weaker : (old more : List (ℕ × K)) → AreIn old more → (level : ℕ) (node : Node K level) → AreKept union old row key level node → AreKept union more row key level node
  kept_weaker old more are zero node kept = tt
  kept_weaker old more are (suc level) node kept = weaker_items old more are level (kept_weaker old more are level) node.1 kept

  pub kept_each : (old more : List (ℕ × K)) → AreIn old more → (level : ℕ) (out : Outcome K level) → OnEach K level (AreKept union old row key level) out → OnEach K level (AreKept union more row key level) out
  kept_each old more are level (inl node) kept = kept_weaker old more are level node kept
  kept_each old more are level (inr both) kept = (kept_weaker old more are level both.0 kept.0, kept_weaker old more are level both.1 kept.1)

  -- an item with its page, and the items below it
  abbrev pub pair_of : (level : ℕ) → K × Node K level → ℕ × K
  pair_of level item = (page_of K level item.1, item.0)

  abbrev pub above_item : (level : ℕ) → K × Node K level → List (ℕ × K)
  above_item level item = items_above K level item.1

  map_has : (level : ℕ) (front : List (K × Node K level)) (item : K × Node K level) (back : List (K × Node K level)) → Contains (map (λ i. pair_of level i) (front ++ item ∷ back)) (pair_of level item)
  map_has level [] item back = (zero, omega arith, refl)
  map_has level (x ∷ front) item back = let rest = map_has level front item back in (suc rest.0, let b = rest.1 in omega (arith, b), rest.2)

  pub pair_in : (level : ℕ) (node : Node K (suc level)) (front : List (K × Node K level)) (item : K × Node K level) (back : List (K × Node K level)) → node.1 ≡ front ++ item ∷ back
      → Contains (items_above K (suc level) node) (pair_of level item)
  pair_in level node front item back is =
      Contains-append_left (map (λ (i : K × Node K level). pair_of level i) node.1) (flat_map (λ (i : K × Node K level). above_item level i) node.1) (pair_of level item)
      (subst (λ (l : List (K × Node K level)). Contains (map (λ (i : K × Node K level). pair_of level i) l) (pair_of level item)) (sym is) (map_has level front item back))

  pub above_in : (level : ℕ) (node : Node K (suc level)) (front : List (K × Node K level)) (item : K × Node K level) (back : List (K × Node K level)) → node.1 ≡ front ++ item ∷ back
      → AreIn (items_above K level item.1) (items_above K (suc level) node)
  above_in level node front item back is x has =
      let A : K × Node K level → List (ℕ × K) = λ i. above_item level i in
      Contains-append_right (map (λ (i : K × Node K level). pair_of level i) node.1) (flat_map A node.1) x
      (subst (λ (l : List (ℕ × K)). Contains l x) (sym (ap (λ (l : List (K × Node K level)). flat_map A l) is ∙ flat_map-append A front (item ∷ back)))
      (Contains-append_right (flat_map A front) (A item ++ flat_map A back) x (Contains-append_left (A item) (flat_map A back) x has)))

  -- What stayed as it was is kept.
  same_items : (old : List (ℕ × K)) (level : ℕ) → ((node : Node K level) → AreIn (items_above K level node) old → AreKept union old row key level node)
      → (node : Node K (suc level)) → AreIn (items_above K (suc level) node) old → (front items : List (K × Node K level)) → node.1 ≡ front ++ items
      → All (λ item. IsKept union old row key level item × AreKept union old row key level item.1) items
  same_items old level step node are front [] is = All-nil (λ (item : K × Node K level). IsKept union old row key level item × AreKept union old row key level item.1)
  same_items old level step node are front (item ∷ items) is =
      All-cons (λ (i : K × Node K level). IsKept union old row key level i × AreKept union old row key level i.1) item items
      (inl (are (pair_of level item) (pair_in level node front item items is)), step item.1 (λ x has. are x (above_in level node front item items is x has)))
      (same_items old level step node are (front ++ item ∷ []) items (is ∙ sym (append_assoc front (item ∷ []) items)))

  pub kept_same : (old : List (ℕ × K)) (level : ℕ) (node : Node K level) → AreIn (items_above K level node) old → AreKept union old row key level node
  kept_same old zero node are = tt
  kept_same old (suc level) node are = same_items old level (kept_same old level) node are [] node.1 refl

  -- of items that stay, each of which stood on a page
  pub stay_kept : (level : ℕ) (node : Node K (suc level)) (front items back : List (K × Node K level)) → node.1 ≡ front ++ (items ++ back)
      → All (λ item. IsKept union (items_above K (suc level) node) row key level item × AreKept union (items_above K (suc level) node) row key level item.1) items
  stay_kept level node front [] back is = All-nil (λ (item : K × Node K level). IsKept union (items_above K (suc level) node) row key level item × AreKept union (items_above K (suc level) node) row key level item.1)
  stay_kept level node front (item ∷ items) back is =
      All-cons (λ (i : K × Node K level). IsKept union (items_above K (suc level) node) row key level i × AreKept union (items_above K (suc level) node) row key level i.1) item items
      (inl (pair_in level node front item (items ++ back) is), kept_same (items_above K (suc level) node) level item.1 (above_in level node front item (items ++ back) is))
      (stay_kept level node (front ++ item ∷ []) items back (is ∙ sym (append_assoc front (item ∷ []) (items ++ back))))

  -- the new row is among those of now
  pub row_in : (level : ℕ) (node after : Node K level) → Inserts union row key level node (inl after) → Contains (map (λ e. e.0) (entries level after)) row
  row_in level node after ins =
      let moved = IsPermutation-map (λ (e : Entry K). e.0) ((row, key) ∷ entries level node) (entries level after) (entered level node (inl after) ins) in
      Contains-permutation (row ∷ map (λ (e : Entry K). e.0) (entries level node)) (map (λ (e : Entry K). e.0) (entries level after)) row moved (zero, omega arith, refl)
