-- What an insert keeps.
use Rattle.std.proofs.Common.{refl, sym, subst, inl, inr, ℕ, zero, suc, List, [], ◌∷◌, ◌++◌, map, All, Contains, get_or, arith}
use Rattle.std.specs.List.{flat_map, filter_map}
use Rattle.std.proofs.lemmas.List.Elements.{All-head, All-tail, All-nil, All-cons, All-append, All-weaker, All-map}
use Rattle.std.proofs.lemmas.List.Sorted.{All-permutation}
use Rattle.gx_pages.specs.declared.row.RowRef.{RowRef}
use Rattle.gx_gist_tree.specs.Trees.{Node, Entry, Outcome, entries, keys_on, IsTree, IsAbove, IsLeafKey, united_from, IsUnited, now_on, on_pages, Replaces, Inserts, AreTrees}

All-front : {X : Type 0} (P : X → Type 0) (xs ys : List X) → All P (xs ++ ys) → All P xs
All-front P [] ys all = All-nil P
All-front P (x ∷ xs) ys all = All-cons P x xs (All-head P x (xs ++ ys) all) (All-front P xs ys (All-tail P x (xs ++ ys) all))

All-back : {X : Type 0} (P : X → Type 0) (xs ys : List X) → All P (xs ++ ys) → All P ys
All-back P [] ys all = all
All-back P (x ∷ xs) ys all = All-back P xs ys (All-tail P x (xs ++ ys) all)

module _ {V K : Type 0} (valid : V → Type 0) (valid_key : K → Type 0) (leaf_of : V → K) (over : K → K → Type 0) (union : K → K → K)
    (leaf_valid : (v : V) → valid v → valid_key (leaf_of v))
    (union_valid : (a b : K) → valid_key a → valid_key b → valid_key (union a b))
    (itself : (v : V) → valid v → over (leaf_of v) (leaf_of v))
    (over_left : (a b : K) (v : V) → valid_key a → valid_key b → valid v → over a (leaf_of v) → over (union a b) (leaf_of v))
    (over_right : (a b : K) (v : V) → valid_key a → valid_key b → valid v → over b (leaf_of v) → over (union a b) (leaf_of v)) where
  abbrev Tree : (level : ℕ) → Node K level → Type 0
  Tree level node = IsTree valid valid_key leaf_of over level node

  abbrev Sound : (level : ℕ) → K × Node K level → Type 0
  Sound level item = valid_key item.0 × IsAbove over item.0 level item.1 × IsTree valid valid_key leaf_of over level item.1

  abbrev Leaf : K → Type 0
  Leaf k = IsLeafKey valid leaf_of k

  leaf_key_valid : (k : K) → IsLeafKey valid leaf_of k → valid_key k
  leaf_key_valid k is = subst valid_key (sym is.2) (leaf_valid is.0 is.1)

  left_is : (a b l : K) → valid_key a → valid_key b → IsLeafKey valid leaf_of l → over a l → over (union a b) l
  left_is a b l va vb is h = subst (over (union a b)) (sym is.2) (over_left a b is.0 va vb is.1 (subst (over a) is.2 h))

  right_is : (a b l : K) → valid_key a → valid_key b → IsLeafKey valid leaf_of l → over b l → over (union a b) l
  right_is a b l va vb is h = subst (over (union a b)) (sym is.2) (over_right a b is.0 va vb is.1 (subst (over b) is.2 h))

  self_is : (l : K) → IsLeafKey valid leaf_of l → over l l
  self_is l is = subst (λ (x : K). over x x) (sym is.2) (itself is.0 is.1)

  -- keys united one by one
  united_valid : (k : K) (ks : List K) → valid_key k → All valid_key ks → valid_key (united_from union k ks)
  united_valid k [] vk all = vk
  united_valid k (x ∷ xs) vk all = united_valid (union k x) xs (union_valid k x vk (All-head valid_key x xs all)) (All-tail valid_key x xs all)

  united_keeps : (k : K) (ks : List K) (l : K) → valid_key k → All valid_key ks → IsLeafKey valid leaf_of l → over k l → over (united_from union k ks) l
  united_keeps k [] l vk all is h = h
  united_keeps k (x ∷ xs) l vk all is h =
      let vx = All-head valid_key x xs all in
      united_keeps (union k x) xs l (union_valid k x vk vx) (All-tail valid_key x xs all) is (left_is k x l vk vx is h)

  united_some : (k : K) (ks : List K) (x l : K) → valid_key k → All valid_key ks → IsLeafKey valid leaf_of l → Contains (k ∷ ks) x → over x l → over (united_from union k ks) l
  united_some k ks x l vk all is (zero, below, at) h = united_keeps k ks l vk all is (subst (λ (y : K). over y l) (sym at) h)
  united_some k [] x l vk all is (suc i, below, at) h = absurd (omega (arith, below))
  united_some k (y ∷ ys) x l vk all is (suc zero, below, at) h =
      let vy = All-head valid_key y ys all in
      united_keeps (union k y) ys l (union_valid k y vk vy) (All-tail valid_key y ys all) is (right_is k y l vk vy is (subst (λ (z : K). over z l) (sym at) h))
  united_some k (y ∷ ys) x l vk all is (suc (suc i), below, at) h =
      let vy = All-head valid_key y ys all in
      united_some (union k y) ys x l (union_valid k y vk vy) (All-tail valid_key y ys all) is (suc i, omega (arith, below), at) h

  leaves_below : (level : ℕ) → ((node : Node K level) → IsTree valid valid_key leaf_of over level node → All (λ e. IsLeafKey valid leaf_of e.1) (entries level node))
      → (items : List (K × Node K level)) → All (Sound level) items → All (λ e. IsLeafKey valid leaf_of e.1) (flat_map (λ item. entries level item.1) items)
  leaves_below level step [] all = All-nil (λ (e : Entry K). IsLeafKey valid leaf_of e.1)
  leaves_below level step (item ∷ items) all =
      All-append (λ (e : Entry K). IsLeafKey valid leaf_of e.1) (entries level item.1) (flat_map (λ (i : K × Node K level). entries level i.1) items)
      (step item.1 (All-head (Sound level) item items all).2) (leaves_below level step items (All-tail (Sound level) item items all))

  pub leaves_are : (level : ℕ) (node : Node K level) → IsTree valid valid_key leaf_of over level node → All (λ e. IsLeafKey valid leaf_of e.1) (entries level node)
  leaves_are zero node tree = tree
  leaves_are (suc level) node tree = leaves_below level (leaves_are level) node.1 tree

  shifted : (y : K) (ys : List K) (x : K) → Contains ys x → Contains (y ∷ ys) x
  shifted y ys x (i, below, at) = (suc i, omega (arith, below), at)

  -- a key that is over what some key of the list is over
  abbrev Reaches : K → List K → Type 0
  Reaches key keys = (x l : K) → Contains keys x → IsLeafKey valid leaf_of l → over x l → over key l

  over_one : (key x : K) (es : List (Entry K)) → ((l : K) → IsLeafKey valid leaf_of l → over x l → over key l) → All (λ e. IsLeafKey valid leaf_of e.1) es → All (λ e. over x e.1) es → All (λ e. over key e.1) es
  over_one key x es reach are above = λ i d h. reach (get_or es i d).1 (are i d h) (above i d h)

  above_items : (level : ℕ) (key : K) (items : List (K × Node K level)) → All (Sound level) items → Reaches key (map (λ item. item.0) items)
      → All (λ e. over key e.1) (flat_map (λ item. entries level item.1) items)
  above_items level key [] all reach = All-nil (λ (e : Entry K). over key e.1)
  above_items level key (item ∷ items) all reach =
      let first = All-head (Sound level) item items all in
      All-append (λ (e : Entry K). over key e.1) (entries level item.1) (flat_map (λ (i : K × Node K level). entries level i.1) items)
      (over_one key item.0 (entries level item.1) (λ l is h. reach item.0 l (zero, omega arith, refl) is h) (leaves_are level item.1 first.2) first.1)
      (above_items level key items (All-tail (Sound level) item items all) (λ x l has is h. reach x l (shifted item.0 (map (λ (i : K × Node K level). i.0) items) x has) is h))

  above_leaves : (key : K) (es : List (Entry K)) → All (λ e. IsLeafKey valid leaf_of e.1) es → Reaches key (map (λ e. e.1) es) → All (λ e. over key e.1) es
  above_leaves key [] all reach = All-nil (λ (e : Entry K). over key e.1)
  above_leaves key (e ∷ es) all reach =
      let first = All-head (λ (x : Entry K). IsLeafKey valid leaf_of x.1) e es all in
      All-cons (λ (x : Entry K). over key x.1) e es (reach e.1 e.1 (zero, omega arith, refl) first (self_is e.1 first))
      (above_leaves key es (All-tail (λ (x : Entry K). IsLeafKey valid leaf_of x.1) e es all) (λ x l has is h. reach x l (shifted e.1 (map (λ (y : Entry K). y.1) es) x has) is h))

  keys_valid : (level : ℕ) (node : Node K level) → IsTree valid valid_key leaf_of over level node → All valid_key (keys_on level node)
  keys_valid zero node tree = All-map valid_key (λ (e : Entry K). e.1) (filter_map (λ slot. slot) node.1)
      (All-weaker (λ (e : Entry K). IsLeafKey valid leaf_of e.1) (λ (e : Entry K). valid_key e.1) (λ e is. leaf_key_valid e.1 is) (filter_map (λ slot. slot) node.1) tree)
  keys_valid (suc level) node tree = All-map valid_key (λ (i : K × Node K level). i.0) node.1
      (All-weaker (Sound level) (λ (i : K × Node K level). valid_key i.0) (λ i is. is.0) node.1 tree)

  reach_above : (level : ℕ) (node : Node K level) (key : K) → IsTree valid valid_key leaf_of over level node → Reaches key (keys_on level node) → IsAbove over key level node
  reach_above zero node key tree reach = above_leaves key (filter_map (λ slot. slot) node.1) tree reach
  reach_above (suc level) node key tree reach = above_items level key node.1 tree reach

  -- the keys on a page, united one by one, are over all below it
  pub united_above : (level : ℕ) (node : Node K level) (key : K) → IsTree valid valid_key leaf_of over level node → IsUnited union level node key
      → valid_key key × IsAbove over key level node × IsTree valid valid_key leaf_of over level node
  united_above level node key tree (first, others, are, is) =
      let all : All valid_key (first ∷ others) = subst (All valid_key) are (keys_valid level node tree) in
      let vf = All-head valid_key first others all in
      let vo = All-tail valid_key first others all in (
        subst valid_key (sym is) (united_valid first others vf vo),
        reach_above level node key tree (λ x l has leaf h. subst (λ (k : K). over k l) (sym is) (united_some first others x l vf vo leaf (subst (λ (ks : List K). Contains ks x) are has) h)),
        tree,
      )

  -- of rows below items, one by one or all
  abbrev Each : (Entry K → Type 0) → (level : ℕ) → K × Node K level → Type 0
  Each P level item = All P (entries level item.1)

  each_in : (P : Entry K → Type 0) (level : ℕ) (items : List (K × Node K level)) → All P (flat_map (λ item. entries level item.1) items) → All (Each P level) items
  each_in P level [] all = All-nil (Each P level)
  each_in P level (item ∷ items) all = All-cons (Each P level) item items
      (All-front P (entries level item.1) (flat_map (λ (i : K × Node K level). entries level i.1) items) all)
      (each_in P level items (All-back P (entries level item.1) (flat_map (λ (i : K × Node K level). entries level i.1) items) all))

  each_out : (P : Entry K → Type 0) (level : ℕ) (items : List (K × Node K level)) → All (Each P level) items → All P (flat_map (λ item. entries level item.1) items)
  each_out P level [] all = All-nil P
  each_out P level (item ∷ items) all = All-append P (entries level item.1) (flat_map (λ (i : K × Node K level). entries level i.1) items)
      (All-head (Each P level) item items all) (each_out P level items (All-tail (Each P level) item items all))

  each_put : (P : Entry K → Type 0) (level : ℕ) (k added : K) (below : Outcome K level) (items : List (K × Node K level)) → Replaces union level k added below items
      → All P (now_on level below) → All (Each P level) items
  each_put P level k added (inl node) items is all = subst (All (Each P level)) (sym is) (All-cons (Each P level) (union k added, node) [] all (All-nil (Each P level)))
  each_put P level k added (inr both) items (l, r, ul, ur, is) all = subst (All (Each P level)) (sym is)
      (All-cons (Each P level) (l, both.0) ((r, both.1) ∷ []) (All-front P (entries level both.0) (entries level both.1) all)
      (All-cons (Each P level) (r, both.1) [] (All-back P (entries level both.0) (entries level both.1) all) (All-nil (Each P level))))

  each_now : (P : Entry K → Type 0) (level : ℕ) (out : Outcome K (suc level)) → All (Each P level) (on_pages level out) → All P (now_on (suc level) out)
  each_now P level (inl node) all = each_out P level node.1 all
  each_now P level (inr both) all = All-append P (entries (suc level) both.0) (entries (suc level) both.1)
      (each_out P level both.0.1 (All-front (Each P level) both.0.1 both.1.1 all)) (each_out P level both.1.1 (All-back (Each P level) both.0.1 both.1.1 all))

  -- one item of a list taken out, and others put in its place
  swapped : {X : Type 0} (P : X → Type 0) (front : List X) (item : X) (back items : List X) → All P (front ++ item ∷ back) → All P items → All P (front ++ items ++ back)
  swapped P front item back items all new = All-append P (front ++ items) back (All-append P front items (All-front P front (item ∷ back) all) new)
      (All-tail P item back (All-back P front (item ∷ back) all))

  at_item : {X : Type 0} (P : X → Type 0) (front : List X) (item : X) (back : List X) → All P (front ++ item ∷ back) → P item
  at_item P front item back all = All-head P item back (All-back P front (item ∷ back) all)

  -- whatever is true of each row below a page and of the new one is true of each row afterwards
  pub all_now : (row : RowRef) (key : K) (P : Entry K → Type 0) → P (row, key) → (level : ℕ) (node : Node K level) (out : Outcome K level) → Inserts union row key level node out
      → All P (entries level node) → All P (now_on level out)
  all_now row key P new zero node out ins all = All-permutation P ((row, key) ∷ entries zero node) (now_on zero out) ins (All-cons P (row, key) (entries zero node) new all)
  all_now row key P new (suc level) node out (front, item, back, below, items, is, ins, replaced, moved) all =
      let before : All (Each P level) (front ++ item ∷ back) = subst (All (Each P level)) is (each_in P level node.1 all) in
      let later = all_now row key P new level item.1 below ins (at_item (Each P level) front item back before) in
      each_now P level out (All-permutation (Each P level) (front ++ items ++ back) (on_pages level out) moved
      (swapped (Each P level) front item back items before (each_put P level item.0 key below items replaced later)))

  -- a page, or two, of a tree
  sound_put : (row : RowRef) (key : K) → IsLeafKey valid leaf_of key → (level : ℕ) (item : K × Node K level) (below : Outcome K level) (items : List (K × Node K level))
      → Sound level item → Inserts union row key level item.1 below → AreTrees valid valid_key leaf_of over level below → Replaces union level item.0 key below items → All (Sound level) items
  sound_put row key leaf level item (inl node) items sound ins tree is =
      let vk = leaf_key_valid key leaf in
      let Q : Entry K → Type 0 = λ e. IsLeafKey valid leaf_of e.1 × over (union item.0 key) e.1 in
      let are = leaves_are level item.1 sound.2 in
      let old : All Q (entries level item.1) = λ i d h. (are i d h, left_is item.0 key (get_or (entries level item.1) i d).1 sound.0 vk (are i d h) (sound.1 i d h)) in
      let all : All Q (entries level node) = all_now row key Q (leaf, right_is item.0 key key sound.0 vk leaf (self_is key leaf)) level item.1 (inl node) ins old in
      subst (All (Sound level)) (sym is) (All-cons (Sound level) (union item.0 key, node) [] (union_valid item.0 key sound.0 vk, (λ i d h. (all i d h).1), tree) (All-nil (Sound level)))
  sound_put row key leaf level item (inr both) items sound ins trees (l, r, ul, ur, is) =
      subst (All (Sound level)) (sym is) (All-cons (Sound level) (l, both.0) ((r, both.1) ∷ []) (united_above level both.0 l trees.0 ul)
      (All-cons (Sound level) (r, both.1) [] (united_above level both.1 r trees.1 ur) (All-nil (Sound level))))

  sound_now : (level : ℕ) (out : Outcome K (suc level)) → All (Sound level) (on_pages level out) → AreTrees valid valid_key leaf_of over (suc level) out
  sound_now level (inl node) all = all
  sound_now level (inr both) all = (All-front (Sound level) both.0.1 both.1.1 all, All-back (Sound level) both.0.1 both.1.1 all)

  leaf_now : (out : Outcome K zero) → All (λ (e : Entry K). IsLeafKey valid leaf_of e.1) (now_on zero out) → AreTrees valid valid_key leaf_of over zero out
  leaf_now (inl node) all = all
  leaf_now (inr both) all = (All-front (λ (e : Entry K). IsLeafKey valid leaf_of e.1) (entries zero both.0) (entries zero both.1) all, All-back (λ (e : Entry K). IsLeafKey valid leaf_of e.1) (entries zero both.0) (entries zero both.1) all)

  pub insert_keeps : (row : RowRef) (key : K) → IsLeafKey valid leaf_of key → (level : ℕ) (node : Node K level) (out : Outcome K level) → Inserts union row key level node out
      → IsTree valid valid_key leaf_of over level node → AreTrees valid valid_key leaf_of over level out
  insert_keeps row key leaf zero node out ins tree =
      leaf_now out (all_now row key (λ e. IsLeafKey valid leaf_of e.1) leaf zero node out ins tree)
  insert_keeps row key leaf (suc level) node out (front, item, back, below, items, is, ins, replaced, moved) tree =
      let before : All (Sound level) (front ++ item ∷ back) = subst (All (Sound level)) is tree in
      let sound = at_item (Sound level) front item back before in
      let trees = insert_keeps row key leaf level item.1 below ins sound.2 in
      sound_now level out (All-permutation (Sound level) (front ++ items ++ back) (on_pages level out) moved
      (swapped (Sound level) front item back items before (sound_put row key leaf level item below items sound ins trees replaced)))
