-- Trees and what searches find in them.
use Rattle.std.proofs.Common.{refl, sym, subst, ◌≡◌, ◌≢◌, ℕ, zero, suc, Bool, true, false, List, [], ◌∷◌, filter, All, if◌then◌else◌}
use Rattle.std.specs.List.{flat_map}
use Rattle.std.proofs.lemmas.List.Elements.{All-head, All-tail, All-nil, All-append, filter-append}
use Rattle.gx_gist.specs.declared.test.Test.{Test}
use Rattle.gx_gist.specs.declared.test.Test.TheVariants.{No, Maybe, Yes}
use Rattle.gx_gist_tree.specs.Trees.{Node, Entry, entries, found, passes, IsTree, IsAbove, IsLeafKey}

is_no : (t : Test) → passes t ≡ false → t ≡ No
is_no No h = refl
is_no Maybe h = cc
is_no Yes h = cc

out_of : (leaf inner : Test) → (leaf ≢ No → inner ≢ No) → passes inner ≡ false → passes leaf ≡ false
out_of No inner sees h = refl
out_of Maybe inner sees h = absurd (sees (λ e. cc) (is_no inner h))
out_of Yes inner sees h = absurd (sees (λ e. cc) (is_no inner h))

module _ {V K : Type 0} (valid : V → Type 0) (valid_key : K → Type 0) (leaf_of : V → K) (over : K → K → Type 0) (leaf inner : K → Test)
    (sees : (k : K) (v : V) → valid_key k → valid v → over k (leaf_of v) → leaf (leaf_of v) ≢ No → inner k ≢ No) where
  key_out : (k l : K) → valid_key k → IsLeafKey valid leaf_of l → over k l → passes (inner k) ≡ false → passes (leaf l) ≡ false
  key_out k l vk is above h = out_of (leaf l) (inner k) (λ some. sees k is.0 vk is.1 (subst (over k) is.2 above) (subst (λ (x : K). leaf x ≢ No) is.2 some)) h

  none_passes : (k : K) (es : List (Entry K)) → valid_key k → passes (inner k) ≡ false → All (λ e. IsLeafKey valid leaf_of e.1) es → All (λ e. over k e.1) es
      → filter (λ e. passes (leaf e.1)) es ≡ []
  none_passes k [] vk h are above = refl
  none_passes k (e ∷ es) vk h are above =
      let first = key_out k e.1 vk (All-head (λ e. IsLeafKey valid leaf_of e.1) e es are) (All-head (λ e. over k e.1) e es above) h in
      let others = none_passes k es vk h (All-tail (λ e. IsLeafKey valid leaf_of e.1) e es are) (All-tail (λ e. over k e.1) e es above) in
      rw (first, others) refl

  abbrev Tree : (level : ℕ) → Node K level → Type 0
  Tree level node = IsTree valid valid_key leaf_of over level node

  abbrev Sound : (level : ℕ) → K × Node K level → Type 0
  Sound level item = valid_key item.0 × IsAbove over item.0 level item.1 × IsTree valid valid_key leaf_of over level item.1

  leaves_below : (level : ℕ) → ((node : Node K level) → IsTree valid valid_key leaf_of over level node → All (λ e. IsLeafKey valid leaf_of e.1) (entries level node))
      → (items : List (K × Node K level)) → All (Sound level) items → All (λ e. IsLeafKey valid leaf_of e.1) (flat_map (λ item. entries level item.1) items)
  leaves_below level step [] all = All-nil (λ (e : Entry K). IsLeafKey valid leaf_of e.1)
  leaves_below level step (item ∷ items) all =
      All-append (λ (e : Entry K). IsLeafKey valid leaf_of e.1) (entries level item.1) (flat_map (λ (i : K × Node K level). entries level i.1) items)
      (step item.1 (All-head (Sound level) item items all).2) (leaves_below level step items (All-tail (Sound level) item items all))

  pub leaves_are : (level : ℕ) (node : Node K level) → IsTree valid valid_key leaf_of over level node → All (λ e. IsLeafKey valid leaf_of e.1) (entries level node)
  leaves_are zero node tree = tree
  leaves_are (suc level) node tree = leaves_below level (leaves_are level) node.1 tree

  exact_item : (level : ℕ) → ((node : Node K level) → IsTree valid valid_key leaf_of over level node → found leaf inner level node ≡ filter (λ e. passes (leaf e.1)) (entries level node))
      → (item : K × Node K level) (b : Bool) → passes (inner item.0) ≡ b → Sound level item
      → (if b then found leaf inner level item.1 else []) ≡ filter (λ e. passes (leaf e.1)) (entries level item.1)
  exact_item level step item true h sound = step item.1 sound.2
  exact_item level step item false h sound = sym (none_passes item.0 (entries level item.1) sound.0 h (leaves_are level item.1 sound.2) sound.1)

  exact_items : (level : ℕ) → ((node : Node K level) → IsTree valid valid_key leaf_of over level node → found leaf inner level node ≡ filter (λ e. passes (leaf e.1)) (entries level node))
      → (items : List (K × Node K level)) → All (Sound level) items
      → flat_map (λ item. if passes (inner item.0) then found leaf inner level item.1 else []) items ≡ filter (λ e. passes (leaf e.1)) (flat_map (λ item. entries level item.1) items)
  exact_items level step [] all = refl
  exact_items level step (item ∷ items) all = rw (
    exact_item level step item (passes (inner item.0)) refl (All-head (Sound level) item items all),
    exact_items level step items (All-tail (Sound level) item items all),
    filter-append (λ (e : Entry K). passes (leaf e.1)) (entries level item.1) (flat_map (λ (i : K × Node K level). entries level i.1) items),
  ) refl

  pub search_exact : (level : ℕ) (node : Node K level) → IsTree valid valid_key leaf_of over level node → found leaf inner level node ≡ filter (λ e. passes (leaf e.1)) (entries level node)
  search_exact zero node tree = refl
  search_exact (suc level) node tree = exact_items level (search_exact level) node.1 tree
