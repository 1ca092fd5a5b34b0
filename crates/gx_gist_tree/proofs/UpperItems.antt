-- What stands in place of an item above level 0, after an insert below it.
use Rattle.std.proofs.Common.{◌≡◌, ◌≢◌, inl, inr, ℕ, suc, ◌≤◌, List, [], ◌∷◌, ◌++◌, length, map, Option, All, refl, sym, ◌∙◌, ap, subst, append-nil, arith}
use Rattle.std.specs.Prelude.{Contains}
use Rattle.std.specs.List.{AllByRecursion, flat_map}
use Rattle.std.proofs.lemmas.List.Elements.{All-head, All-tail, All-nil, All-cons, All-weaker}
use Rattle.gx_words.specs.PageMap.{PageMap}
use Rattle.gx_pages.specs.declared.row.RowRef.{RowRef}
use Rattle.gx_pages.proofs.Footprints as feet
use Rattle.gx_gist_tree.specs.declared.change.Change.{Change}
use Rattle.gx_gist_tree.specs.declared.change.Change.TheVariants.{Within, Split}
use Rattle.gx_gist_tree.specs.Trees.{Node, Outcome, page_of, pages_of, items_above, HasTwoItems, Inserts, Replaces, IsKept, AreKept}
use Rattle.gx_gist_tree.specs.OnPages.{Stands, inner_item, slots_of}
use Rattle.gx_gist_tree.specs.Insertion.{Describes, HasValidKeys, OnEach, first_of, inner_items, page_with, pages_now}
use Rattle.gx_gist_tree.proofs.Cuts.{somes_items}
use Rattle.gx_gist_tree.proofs.ItemFacts.{inner_long, inner_key}
use Rattle.gx_gist_tree.proofs.KeyFacts.{Spells}
use Rattle.gx_gist_tree.proofs.StayFacts.{stands_same, stands_some}
use Rattle.gx_gist_tree.proofs.Entered.{kept_each, row_in, above_in, pair_in}

module _ {K : Type 0} (bytes : K → List ℕ) (below : ℕ) where
  -- the bytes of an item
  abbrev pub item_bytes : K × Node K below → List ℕ
  item_bytes item = inner_item bytes (page_of K below item.1) item.0

  abbrev pub item_pages : K × Node K below → List ℕ
  item_pages item = pages_of K below item.1

  pub page_items : (n : ℕ) (items : List (K × Node K below)) → page_with (suc below) (map item_bytes items) ≡ slots_of bytes (suc below) (n, items)
  page_items n items = ap (λ (l : List (Option (List ℕ))). record { kind = 4; level = suc below; next = 0; items = l }) (somes_items item_bytes items)

  pub stand_items : (old new : PageMap) (items : List (K × Node K below)) → All (λ item. Stands old bytes below item.1) items → AllByRecursion (λ n. new n ≡ old n) (flat_map item_pages items)
      → All (λ item. Stands new bytes below item.1) items
  stand_items old new [] all same = All-nil (λ (item : K × Node K below). Stands new bytes below item.1)
  stand_items old new (item ∷ items) all same =
      All-cons (λ (i : K × Node K below). Stands new bytes below i.1) item items
      (stands_same old new bytes below item.1 (feet.all_left (λ (n : ℕ). new n ≡ old n) (item_pages item) (flat_map item_pages items) same) (All-head (λ (i : K × Node K below). Stands old bytes below i.1) item items all))
      (stand_items old new items (All-tail (λ (i : K × Node K below). Stands old bytes below i.1) item items all) (feet.all_right (λ (n : ℕ). new n ≡ old n) (item_pages item) (flat_map item_pages items) same))

  pub items_some : (old : PageMap) (items : List (K × Node K below)) → All (λ item. Stands old bytes below item.1) items → AllByRecursion (λ n. n ≢ 0) (flat_map item_pages items)
  items_some old [] all = tt
  items_some old (item ∷ items) all =
      feet.all_join (λ (n : ℕ). n ≢ 0) (item_pages item) (flat_map item_pages items)
      (stands_some old bytes below item.1 (All-head (λ (i : K × Node K below). Stands old bytes below i.1) item items all))
      (items_some old items (All-tail (λ (i : K × Node K below). Stands old bytes below i.1) item items all))

  -- The item's key is spelled.
  pub items_spelled : (valid : K → Type 0) (items : List (K × Node K below)) → All (λ item. valid item.0) items → All (Spells valid bytes 8 item_bytes (λ item. item.0)) items
  items_spelled valid items all =
      All-weaker (λ (item : K × Node K below). valid item.0) (Spells valid bytes 8 item_bytes (λ (item : K × Node K below). item.0))
      (λ item ok. (ok, inner_long bytes (page_of K below item.1) item.0, inner_key bytes (page_of K below item.1) item.0)) items all

-- What stands in place of an item: what it replaces, and what is true of it.
pub record IsPlaced {K : Type 0} (valid : K → Type 0) (union : K → K → K) (bytes : K → List ℕ) (map_now : PageMap) (row : RowRef) (key : K) (below : ℕ) (node : Node K (suc below)) (item : K × Node K below)
    (out : Outcome K below) (change : Change K) : Type 0 where
  pub list : List (K × Node K below)
  pub replaces : Replaces union below item.0 key out list
  pub raw : inner_items bytes (page_of K below item.1) (union item.0 key) change ≡ map (item_bytes bytes below) list
  pub some : 1 ≤ length list
  pub valid_keys : All (λ i. valid i.0) list
  pub stands : All (λ i. Stands map_now bytes below i.1) list
  pub two : All (λ i. HasTwoItems K below i.1) list
  pub kept : All (λ i. IsKept union (items_above K (suc below) node) row key below i × AreKept union (items_above K (suc below) node) row key below i.1) list
  pub pages : flat_map (item_pages bytes below) list ≡ pages_now K below out

module _ {K : Type 0} (valid : K → Type 0) (union : K → K → K) (bytes : K → List ℕ) (map_now : PageMap) (row : RowRef) (key : K) (below : ℕ) (node : Node K (suc below)) (item : K × Node K below)
    (front back : List (K × Node K below)) (is : node.1 ≡ front ++ item ∷ back) where
  abbrev Kept : K × Node K below → Type 0
  Kept i = IsKept union (items_above K (suc below) node) row key below i × AreKept union (items_above K (suc below) node) row key below i.1

  one_placed : (after : Node K below) → valid (union item.0 key) → Inserts union row key below item.1 (inl after) → Stands map_now bytes below after → HasTwoItems K below after
      → AreKept union (items_above K (suc below) node) row key below after → page_of K below after ≡ page_of K below item.1
      → IsPlaced valid union bytes map_now row key below node item (inl after) Within
  one_placed after ok ins stands two kept stays = record {
    list = (union item.0 key, after) ∷ [];
    replaces = refl;
    raw = ap (λ (n : ℕ). inner_item bytes n (union item.0 key) ∷ []) (sym stays);
    some = omega arith;
    valid_keys = All-cons (λ (i : K × Node K below). valid i.0) (union item.0 key, after) [] ok (All-nil (λ (i : K × Node K below). valid i.0));
    stands = All-cons (λ (i : K × Node K below). Stands map_now bytes below i.1) (union item.0 key, after) [] stands (All-nil (λ (i : K × Node K below). Stands map_now bytes below i.1));
    two = All-cons (λ (i : K × Node K below). HasTwoItems K below i.1) (union item.0 key, after) [] two (All-nil (λ (i : K × Node K below). HasTwoItems K below i.1));
    kept = All-cons Kept (union item.0 key, after) [] (
      inr (inl (
        item.0,
        subst (λ (n : ℕ). Contains (items_above K (suc below) node) (n, item.0)) (sym stays) (pair_in union row key below node front item back is),
        row_in union row key below item.1 after ins,
        refl,
      )),
      kept,
    )
        (All-nil Kept);
    pages = append-nil (pages_of K below after);
  }

  two_placed : (both : Node K below × Node K below) (l : K) (page : ℕ) (r : K) → valid l → valid r → OnEach K below (Stands map_now bytes below) (inr both) → OnEach K below (HasTwoItems K below) (inr both)
      → OnEach K below (AreKept union (items_above K (suc below) node) row key below) (inr both) → page_of K below both.0 ≡ page_of K below item.1 → Describes union below (Split l page r) (inr both)
      → IsPlaced valid union bytes map_now row key below node item (inr both) (Split l page r)
  two_placed both l page r vl vr stands two kept stays says = record {
    list = (l, both.0) ∷ (r, both.1) ∷ [];
    replaces = (l, r, says.1, says.2, refl);
    raw = ap (λ (n : ℕ). inner_item bytes n l ∷ inner_item bytes page r ∷ []) (sym stays) ∙ ap (λ (n : ℕ). inner_item bytes (page_of K below both.0) l ∷ inner_item bytes n r ∷ []) says.0;
    some = omega arith;
    valid_keys = two_all (λ i. valid i.0) vl vr;
    stands = two_all (λ i. Stands map_now bytes below i.1) stands.0 stands.1;
    two = two_all (λ i. HasTwoItems K below i.1) two.0 two.1;
    kept = two_all Kept (inr (inr says.1), kept.0) (inr (inr says.2), kept.1);
    pages = ap (λ (m : List ℕ). pages_of K below both.0 ++ m) (append-nil (pages_of K below both.1));
  }
    where
      two_all : (F : K × Node K below → Type 0) → F (l, both.0) → F (r, both.1) → All F ((l, both.0) ∷ (r, both.1) ∷ [])
      two_all F x y = All-cons F (l, both.0) ((r, both.1) ∷ []) x (All-cons F (r, both.1) [] y (All-nil F))

  -- what an insert below the item left stands in its place
  pub placed : (union_valid : valid (union item.0 key)) (out : Outcome K below) (change : Change K) → Inserts union row key below item.1 out → OnEach K below (Stands map_now bytes below) out → OnEach K below (HasTwoItems K below) out
      → OnEach K below (AreKept union (items_above K below item.1) row key below) out → page_of K below (first_of K below out) ≡ page_of K below item.1 → Describes union below change out → HasValidKeys valid change
      → IsPlaced valid union bytes map_now row key below node item out change
  placed ok (inl after) Within ins stands two kept stays says keys =
      one_placed after ok ins stands two (kept_each union row key (items_above K below item.1) (items_above K (suc below) node) (above_in union row key below node front item back is) below (inl after) kept) stays
  placed ok (inl after) (Split l page r) ins stands two kept stays says keys = absurd says
  placed ok (inr both) Within ins stands two kept stays says keys = absurd says
  placed ok (inr both) (Split l page r) ins stands two kept stays says keys =
      two_placed both l page r keys.0 keys.1 stands two
      (kept_each union row key (items_above K below item.1) (items_above K (suc below) node) (above_in union row key below node front item back is) below (inr both) kept) stays says
