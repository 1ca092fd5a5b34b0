-- A tree with other items on its pages of level 0.
use Rattle.std.proofs.Common.{◌≡◌, ℕ, zero, suc, ◌<◌, ◌≤◌, Bool, true, false, List, [], ◌∷◌, ◌++◌, length, map, filter, Option, Some, refl, sym, ◌∙◌, ap, ap₂, subst}
use Rattle.std.specs.List.{AllByRecursion}
use Rattle.gx_words.specs.PageMap.{PageMap}
use Rattle.gx_pages.specs.declared.row.RowRef.{RowRef}
use Rattle.gx_pages.specs.Rows.{IsRising}
use Rattle.gx_pages.proofs.Footprints as feet
use Rattle.gx_slot.specs.Slots.{Fits, Slots, spelling}
use Rattle.gx_tree.specs.Orders.{IsFrom, IsKeyed, IsUnder, Keys, next}
use Rattle.gx_tree.specs.Trees.{HaveTwo, IsOn, Leaf, Node, Stand, children, leaves_of, link, numbers, page_of, slots, slots_of, uppers_of}
use Rattle.gx_posting_tree.specs.PostingTrees.{HaveRows, IsFromKey, IsNumber, IsUnderKey, by_number, without}
use Rattle.gx_posting_tree.specs.Removing.{AreStripped, Paired, Strips}
use Rattle.gx_posting_tree.proofs.Lengths.{filter_all}

pub filter_rising : (p : RowRef → Bool) (rows : List RowRef) → IsRising rows → IsRising (filter p rows)
filter_rising p [] rising = tt
filter_rising p (x ∷ rows) rising = kept (p x) refl (filter_rising p rows rising.1)
  where
    kept : (b : Bool) → p x ≡ b → IsRising (filter p rows) → IsRising (filter p (x ∷ rows))
    kept true is more = rw is (filter_all (λ (row : RowRef). x.number < row.number) p rows rising.0, more)
    kept false is more = rw is more

-- pairs of what stands one behind another
pub record PairSplit {X : Type 0} (R : X → X → Type 0) (xs ys zs : List X) : Type 0 where
  pub left : List X
  pub right : List X
  pub cut : zs ≡ left ++ right
  pub before : Paired R xs left
  pub behind : Paired R ys right

pub paired_split : {X : Type 0} (R : X → X → Type 0) (xs ys zs : List X) → Paired R (xs ++ ys) zs → PairSplit R xs ys zs
paired_split R [] ys zs pairs = record { left = []; right = zs; cut = refl; before = tt; behind = pairs }
paired_split R (x ∷ xs) ys [] pairs = absurd pairs
paired_split {X} R (x ∷ xs) ys (z ∷ zs) pairs =
    let more = paired_split R xs ys zs pairs.1 in
    record { left = z ∷ more.left; right = more.right; cut = ap (λ (l : List X). z ∷ l) more.cut; before = (pairs.0, more.before); behind = more.behind }

pub paired_join : {X : Type 0} (R : X → X → Type 0) (xs ys us vs : List X) → Paired R xs us → Paired R ys vs → Paired R (xs ++ ys) (us ++ vs)
paired_join R [] ys [] vs first last = last
paired_join R [] ys (u ∷ us) vs first last = absurd first
paired_join R (x ∷ xs) ys [] vs first last = absurd first
paired_join R (x ∷ xs) ys (u ∷ us) vs first last = (first.0, paired_join R xs ys us vs first.1 last)

pub map_same : {X Y : Type 0} (f : X → Y) (R : X → X → Type 0) (xs ys : List X) → ((x y : X) → R x y → f x ≡ f y) → Paired R xs ys → map f xs ≡ map f ys
map_same f R [] [] same pairs = refl
map_same f R [] (y ∷ ys) same pairs = absurd pairs
map_same f R (x ∷ xs) [] same pairs = absurd pairs
map_same {X} {Y} f R (x ∷ xs) (y ∷ ys) same pairs = ap₂ (λ (a : Y) (l : List Y). a ∷ l) (same x y pairs.0) (map_same f R xs ys same pairs.1)

paired_len : {X : Type 0} (R : X → X → Type 0) (xs ys : List X) → Paired R xs ys → length xs ≡ length ys
paired_len R [] [] pairs = refl
paired_len R [] (y ∷ ys) pairs = absurd pairs
paired_len R (x ∷ xs) [] pairs = absurd pairs
paired_len R (x ∷ xs) (y ∷ ys) pairs = ap (λ (n : ℕ). suc n) (paired_len R xs ys pairs.1)

module _ (gone : List RowRef) where
  -- The same pages and keys, and at level 0 the same lists without some rows.
  abbrev pub Same : (level : ℕ) → Node level → Node level → Type 0
  Same zero a b = (a.0 ≡ b.0) × Strips gone a.1 b.1
  Same (suc level) a b = (a.0 ≡ b.0) × Paired (λ (x y : List ℕ × Node level). (x.0 ≡ y.0) × Same level x.1 y.1) a.1 b.1

  abbrev SameItem : (level : ℕ) → List ℕ × Node level → List ℕ × Node level → Type 0
  SameItem level x y = (x.0 ≡ y.0) × Same level x.1 y.1

  pub record Items (level : ℕ) (items : List (List ℕ × Node level)) (kids : List (Node level)) : Type 0 where
    pub later : List (List ℕ × Node level)
    pub pairs : Paired (SameItem level) items later
    pub are : map (λ (item : List ℕ × Node level). item.1) later ≡ kids

  with_kids : (level : ℕ) (items : List (List ℕ × Node level)) (kids : List (Node level)) → Paired (Same level) (map (λ (item : List ℕ × Node level). item.1) items) kids → Items level items kids
  with_kids level [] [] pairs = record { later = []; pairs = tt; are = refl }
  with_kids level [] (k ∷ kids) pairs = absurd pairs
  with_kids level (item ∷ items) [] pairs = absurd pairs
  with_kids level (item ∷ items) (k ∷ kids) pairs =
      let more = with_kids level items kids pairs.1 in
      record { later = (item.0, k) ∷ more.later; pairs = ((refl, pairs.0), more.pairs); are = ap (λ (l : List (Node level)). k ∷ l) more.are }

  pub record Nodes (level : ℕ) (nodes : List (Node (suc level))) (kids : List (Node level)) : Type 0 where
    pub later : List (Node (suc level))
    pub pairs : Paired (Same (suc level)) nodes later
    pub are : children level later ≡ kids

  with_children : (level : ℕ) (nodes : List (Node (suc level))) (kids : List (Node level)) → Paired (Same level) (children level nodes) kids → Nodes level nodes kids
  with_children level [] [] pairs = record { later = []; pairs = tt; are = refl }
  with_children level [] (k ∷ kids) pairs = absurd pairs
  with_children level (node ∷ nodes) kids pairs =
      let both = paired_split (Same level) (map (λ (item : List ℕ × Node level). item.1) node.1) (children level nodes) kids pairs in
      let here = with_kids level node.1 both.left both.before in
      let more = with_children level nodes both.right both.behind in
      record {
        later = (node.0, here.later) ∷ more.later;
        pairs = ((refl, here.pairs), more.pairs);
        are = ap₂ (λ (a b : List (Node level)). a ++ b) here.are more.are ∙ sym both.cut;
      }

  -- nodes with these pages of level 0 below them
  pub record Relisted (level : ℕ) (nodes : List (Node level)) (leaves : List Leaf) : Type 0 where
    pub later : List (Node level)
    pub pairs : Paired (Same level) nodes later
    pub are : leaves_of level later ≡ leaves

  pub relist : (level : ℕ) (nodes : List (Node level)) (leaves : List Leaf) → AreStripped gone (leaves_of level nodes) leaves → Relisted level nodes leaves
  relist zero nodes leaves pairs = record { later = leaves; pairs = pairs; are = refl }
  relist (suc level) nodes leaves pairs =
      let below = relist level (children level nodes) leaves pairs in
      let here = with_children level nodes below.later below.pairs in
      record { later = here.later; pairs = here.pairs; are = ap (λ (l : List (Node level)). leaves_of level l) here.are ∙ below.are }

  pub same_page : (level : ℕ) (a b : Node level) → Same level a b → page_of level a ≡ page_of level b
  same_page zero a b same = same.0
  same_page (suc level) a b same = same.0

  kids_paired : (level : ℕ) (items others : List (List ℕ × Node level)) → Paired (SameItem level) items others
      → Paired (Same level) (map (λ (item : List ℕ × Node level). item.1) items) (map (λ (item : List ℕ × Node level). item.1) others)
  kids_paired level [] [] pairs = tt
  kids_paired level [] (y ∷ others) pairs = absurd pairs
  kids_paired level (x ∷ items) [] pairs = absurd pairs
  kids_paired level (x ∷ items) (y ∷ others) pairs = (pairs.0.1, kids_paired level items others pairs.1)

  children_paired : (level : ℕ) (nodes others : List (Node (suc level))) → Paired (Same (suc level)) nodes others → Paired (Same level) (children level nodes) (children level others)
  children_paired level [] [] pairs = tt
  children_paired level [] (y ∷ others) pairs = absurd pairs
  children_paired level (x ∷ nodes) [] pairs = absurd pairs
  children_paired level (x ∷ nodes) (y ∷ others) pairs =
      paired_join (Same level) (map (λ (item : List ℕ × Node level). item.1) x.1) (children level nodes) (map (λ (item : List ℕ × Node level). item.1) y.1) (children level others)
      (kids_paired level x.1 y.1 pairs.0.1) (children_paired level nodes others pairs.1)

  pub uppers_same : (level : ℕ) (nodes others : List (Node level)) → Paired (Same level) nodes others → uppers_of level nodes ≡ uppers_of level others
  uppers_same zero nodes others pairs = refl
  uppers_same (suc level) nodes others pairs =
      ap₂ (λ (a b : List ℕ). a ++ b)
      (map_same (λ (node : Node (suc level)). node.0) (Same (suc level)) nodes others (λ x y same. same.0) pairs)
      (uppers_same level (children level nodes) (children level others) (children_paired level nodes others pairs))

  pub numbers_same : (was is : List Leaf) → AreStripped gone was is → numbers was ≡ numbers is
  numbers_same was is pairs = map_same (λ (leaf : Leaf). leaf.0) (Same 0) was is (λ x y same. same.0) pairs

  slots_same : (kind level : ℕ) (a b : Node (suc level)) → Same (suc level) a b → slots_of kind (suc level) a ≡ slots_of kind (suc level) b
  slots_same kind level a b same =
      ap (λ (l : List (List ℕ × ℕ)). slots kind (suc level) (map link l))
      (map_same (λ (item : List ℕ × Node level). (item.0, page_of level item.1)) (SameItem level) a.1 b.1
      (λ x y both. ap₂ (λ (k : List ℕ) (n : ℕ). (k, n)) both.0 (same_page level x.1 y.1 both.1)) same.1)

  two_row : (level : ℕ) (nodes others : List (Node (suc level))) → Paired (Same (suc level)) nodes others → AllByRecursion (λ node. 2 ≤ length node.1) nodes → AllByRecursion (λ (node : Node (suc level)). 2 ≤ length node.1) others
  two_row level [] [] pairs two = tt
  two_row level [] (y ∷ others) pairs two = absurd pairs
  two_row level (x ∷ nodes) [] pairs two = absurd pairs
  two_row level (x ∷ nodes) (y ∷ others) pairs two =
      (subst (λ (n : ℕ). 2 ≤ n) (paired_len (SameItem level) x.1 y.1 pairs.0.1) two.0, two_row level nodes others pairs.1 two.1)

  pub two_same : (level : ℕ) (nodes others : List (Node level)) → Paired (Same level) nodes others → HaveTwo level nodes → HaveTwo level others
  two_same zero nodes others pairs two = tt
  two_same (suc level) nodes others pairs two =
      (two_row level nodes others pairs two.0, two_same level (children level nodes) (children level others) (children_paired level nodes others pairs) two.1)

  module _ (old new : PageMap) (kind : ℕ) where
    on_same : (level : ℕ) (a b : Node (suc level)) → Same (suc level) a b → new a.0 ≡ old a.0 → IsOn old kind (suc level) a → IsOn new kind (suc level) b
    on_same level a b same kept on =
        let page = same.0 in
        let are = slots_same kind level a b same in
        subst (λ (n : ℕ). IsOn new kind (suc level) (n, b.1)) page
        (record {
          some = on.some;
          is = kept ∙ on.is ∙ ap (λ (s : Slots). Some (spelling s)) are;
          fits = subst (λ (s : Slots). Fits s) are on.fits;
        })

    row_same : (level : ℕ) (nodes others : List (Node (suc level))) → Paired (Same (suc level)) nodes others → AllByRecursion (λ page. new page ≡ old page) (map (λ (node : Node (suc level)). node.0) nodes)
        → AllByRecursion (IsOn old kind (suc level)) nodes → AllByRecursion (IsOn new kind (suc level)) others
    row_same level [] [] pairs kept on = tt
    row_same level [] (y ∷ others) pairs kept on = absurd pairs
    row_same level (x ∷ nodes) [] pairs kept on = absurd pairs
    row_same level (x ∷ nodes) (y ∷ others) pairs kept on = (on_same level x y pairs.0 kept.0 on.0, row_same level nodes others pairs.1 kept.1 on.1)

    pub stand_same : (level : ℕ) (nodes others : List (Node level)) → Paired (Same level) nodes others → AllByRecursion (λ page. new page ≡ old page) (uppers_of level nodes) → Stand old kind level nodes
        → AllByRecursion (IsOn new kind 0) (leaves_of level others) → Stand new kind level others
    stand_same zero nodes others pairs kept stand on = on
    stand_same (suc level) nodes others pairs kept stand on = (
      row_same level nodes others pairs (feet.all_left (λ (page : ℕ). new page ≡ old page) (map (λ (node : Node (suc level)). node.0) nodes) (uppers_of level (children level nodes)) kept) stand.0,
      stand_same level (children level nodes) (children level others) (children_paired level nodes others pairs)
          (feet.all_right (λ (page : ℕ). new page ≡ old page) (map (λ (node : Node (suc level)). node.0) nodes) (uppers_of level (children level nodes)) kept) stand.1 on,
    )

  rows_stay : (least end : Option (List ℕ)) (was is : List (List ℕ)) → Strips gone was is → HaveRows least end was → HaveRows least end is
  rows_stay least end was is strips have = record {
    rows = without gone have.rows;
    spelled = strips have.rows have.spelled;
    rising = filter_rising _ have.rows have.rising;
    from = filter_all (IsFromKey least) _ have.rows have.from;
    under = filter_all (IsUnderKey end) _ have.rows have.under;
  }

  next_same : (level : ℕ) (end : Option (List ℕ)) (items others : List (List ℕ × Node level)) → Paired (SameItem level) items others → next end items ≡ next end others
  next_same level end [] [] pairs = refl
  next_same level end [] (y ∷ others) pairs = absurd pairs
  next_same level end (x ∷ items) [] pairs = absurd pairs
  next_same level end (x ∷ items) (y ∷ others) pairs = ap (λ (k : List ℕ). Some k) pairs.0.0

  keys_same : (level : ℕ) → ((least end : Option (List ℕ)) (a b : Node level) → Same level a b → IsKeyed by_number level least end a → IsKeyed by_number level least end b)
      → (least end : Option (List ℕ)) (items others : List (List ℕ × Node level)) → Paired (SameItem level) items others
      → Keys by_number (IsKeyed by_number level) least end items → Keys by_number (IsKeyed by_number level) least end others
  keys_same level step least end [] [] pairs keys = tt
  keys_same level step least end [] (y ∷ others) pairs keys = absurd pairs
  keys_same level step least end (x ∷ items) [] pairs keys = absurd pairs
  keys_same level step least end (x ∷ items) (y ∷ others) pairs keys =
      let key = pairs.0.0 in
      let ends = next_same level end items others pairs.1 in (
        subst (λ (k : List ℕ). IsNumber k) key keys.0,
        subst (λ (k : List ℕ). IsFrom by_number least k) key keys.1,
        subst (λ (k : List ℕ). IsUnder by_number (next end others) k) key (subst (λ (o : Option (List ℕ)). IsUnder by_number o x.0) ends keys.2),
        subst (λ (k : List ℕ). IsKeyed by_number level (Some k) (next end others) y.1) key
            (subst (λ (o : Option (List ℕ)). IsKeyed by_number level (Some x.0) o y.1) ends (step (Some x.0) (next end items) x.1 y.1 pairs.0.1 keys.3)),
        subst (λ (k : List ℕ). Keys by_number (IsKeyed by_number level) (Some k) end others) key (keys_same level step (Some x.0) end items others pairs.1 keys.4),
      )

  pub keyed_same : (level : ℕ) (least end : Option (List ℕ)) (a b : Node level) → Same level a b → IsKeyed by_number level least end a → IsKeyed by_number level least end b
  keyed_same zero least end a b same keyed = rows_stay least end a.1 b.1 same.1 keyed
  keyed_same (suc level) least end a b same keyed = keys_same level (keyed_same level) least end a.1 b.1 same.1 keyed
