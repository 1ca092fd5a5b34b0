-- A tree after an insert.
use Rattle.std.proofs.Common.{◌≡◌, ◌≢◌, inl, inr, ⊎_elim, ℕ, zero, suc, ◌+◌, ◌^◌, ◌<◌, ◌≤◌, List, [], ◌∷◌, ◌++◌, map, Some, All, refl, sym, ◌∙◌, ap, subst, append-nil, length-append, lit<, arith}
use Rattle.std.specs.List.{AllByRecursion, flat_map}
use Rattle.std.specs.List.Sorted.{IsPermutation}
use Rattle.std.proofs.lemmas.List.Elements.{All-head, All-tail, All-nil, All-cons}
use Rattle.std.proofs.lemmas.List.Sorted.{IsPermutation-map}
use Rattle.std.proofs.lemmas.Bool.{cases_lt}
use Rattle.std.proofs.Math.Nat.{pow-le-pow_right}
use Rattle.gx_words.specs.PageMap.{PageMap}
use Rattle.gx_pages.specs.declared.row.RowRef.{RowRef}
use Rattle.gx_pages.specs.declared.store.Pages.{Ghosts as PageGhosts}
use Rattle.gx_pages.specs.Frees.{IsApart, IsFreeList}
use Rattle.gx_pages.specs.Footprints.{IsOutside, KeepsPages}
use Rattle.gx_pages.proofs.Footprints as feet
use Rattle.gx_slot.specs.Slots.{Slots, Fits, spelling}
use Rattle.gx_gist.specs.declared.class.GistClass.{Ghosts}
use Rattle.gx_gist_tree.specs.declared.change.Change.TheVariants.{Within, Split}
use Rattle.gx_gist_tree.specs.Trees.{Node, Entry, Outcome, entries, page_of, pages_of, items_above, now_on, HasTwoItems, Inserts, IsAbove, IsKept, AreKept, IsLeafKey, IsTree, IsUnited, AreTrees}
use Rattle.gx_gist_tree.specs.OnPages.{FitsFields, HoldsBeside, IsOn, IsRead, Stands, Whole, entries_of, footprint, inner_item, slots_of}
use Rattle.gx_gist_tree.specs.Insertion.{Describes, IsInserted, IsReady, IsWritten, OnEach, first_of, page_with, pages_now}
use Rattle.gx_gist_tree.proofs.HeldFacts.{many_pages}
use Rattle.gx_gist_tree.proofs.InsertFacts.{all_now, insert_keeps, united_above}
use Rattle.gx_gist_tree.proofs.StayFacts.{stands_same, stands_some}
use Rattle.gx_gist_tree.proofs.Entered.{entered}
use Rattle.gx_gist_tree.proofs.Moves.{below_now, beside_same, keeps_beside}
use Rattle.gx_gist_tree.proofs.UpperItems.{page_items, stand_items}

-- a page with all that is below it, on another page
pub moved_to : (K : Type 0) (level : ℕ) → ℕ → Node K level → Node K level
moved_to K zero n node = (n, node.1)
moved_to K (suc level) n node = (n, node.1)

-- the pages below a page
pub pages_under : (K : Type 0) (level : ℕ) → Node K level → List ℕ
pages_under K zero node = []
pages_under K (suc level) node = flat_map (λ item. pages_of K level item.1) node.1

pages_cut : (K : Type 0) (level : ℕ) (node : Node K level) → pages_of K level node ≡ page_of K level node ∷ pages_under K level node
unfolding pages_under
pages_cut K zero node = refl
pages_cut K (suc level) node = refl

moved_pages : (K : Type 0) (level n : ℕ) (node : Node K level) → pages_of K level (moved_to K level n node) ≡ n ∷ pages_under K level node
unfolding moved_to pages_under
moved_pages K zero n node = refl
moved_pages K (suc level) n node = refl

moved_page : (K : Type 0) (level n : ℕ) (node : Node K level) → page_of K level (moved_to K level n node) ≡ n
unfolding moved_to
moved_page K zero n node = refl
moved_page K (suc level) n node = refl

moved_entries : {K : Type 0} (level n : ℕ) (node : Node K level) → entries level (moved_to K level n node) ≡ entries level node
unfolding moved_to
moved_entries zero n node = refl
moved_entries (suc level) n node = refl

moved_slots : {K : Type 0} (bytes : K → List ℕ) (level n : ℕ) (node : Node K level) → slots_of bytes level (moved_to K level n node) ≡ slots_of bytes level node
unfolding moved_to
moved_slots bytes zero n node = refl
moved_slots bytes (suc level) n node = refl

moved_two : (K : Type 0) (level n : ℕ) (node : Node K level) → HasTwoItems K level node → HasTwoItems K level (moved_to K level n node)
unfolding moved_to
moved_two K zero n node two = two
moved_two K (suc level) n node two = two

moved_kept : {K : Type 0} (union : K → K → K) (old : List (ℕ × K)) (row : RowRef) (key : K) (level n : ℕ) (node : Node K level) → AreKept union old row key level node → AreKept union old row key level (moved_to K level n node)
unfolding moved_to
moved_kept union old row key zero n node kept = kept
moved_kept union old row key (suc level) n node kept = kept

moved_united : {K : Type 0} (union : K → K → K) (level n : ℕ) (node : Node K level) (key : K) → IsUnited union level node key → IsUnited union level (moved_to K level n node) key
unfolding moved_to
moved_united union zero n node key is = is
moved_united union (suc level) n node key is = is

moved_tree : {V K : Type 0} (valid : V → Type 0) (valid_key : K → Type 0) (leaf : V → K) (over : K → K → Type 0) (level n : ℕ) (node : Node K level) → IsTree valid valid_key leaf over level node
    → IsTree valid valid_key leaf over level (moved_to K level n node)
unfolding moved_to
moved_tree valid valid_key leaf over zero n node tree = tree
moved_tree valid valid_key leaf over (suc level) n node tree = tree

-- It stands on the other page, where those below it stay.
moved_stands : {K : Type 0} (old new : PageMap) (bytes : K → List ℕ) (level n : ℕ) (node : Node K level) → Stands old bytes level node → AllByRecursion (λ m. new m ≡ old m) (pages_under K level node)
    → IsOn new bytes level (moved_to K level n node) → Stands new bytes level (moved_to K level n node)
unfolding moved_to pages_under
moved_stands old new bytes zero n node stands same on = on
moved_stands old new bytes (suc level) n node stands same on = (on, stand_items bytes level old new node.1 stands.1 same)

apart_numbers : {K : Type 0} (n : ℕ) (es : List (Entry K)) → All (λ e. e.0.number ≢ n) es → IsOutside n (map (λ e. e.0.number) es)
apart_numbers n [] all = tt
apart_numbers {K} n (e ∷ es) all = ((λ same. All-head (λ (x : Entry K). x.0.number ≢ n) e es all (sym same)), apart_numbers n es (All-tail (λ (x : Entry K). x.0.number ≢ n) e es all))

pow_up : (m n : ℕ) → m ≤ n → 2 ^ m ≤ 2 ^ n
pow_up m n le = pow-le-pow_right (lit< tt) le

module _ {P C V Q K : Type 0} (p : PageGhosts P) (g : Ghosts C V Q K) (class : C) (old : P) (root : ℕ) (before : Whole K) (free : List ℕ) (beside : HoldsBeside p g class old root before free) where
  -- the root is ready
  pub ready_root : (slots : Slots) → IsRead g class (p.map old) (p.count old) before.0 before.1 slots root → IsReady p g class old before.0 before.1 slots root free
  ready_root slots read = record { read = read; two = beside.held.two; below = beside.held.below; frees = beside.frees; apart = beside.apart }

  low_all : AllByRecursion (λ n. n < p.count old) (footprint before ++ free)
  low_all = feet.all_join (λ (n : ℕ). n < p.count old) (footprint before) free beside.held.below beside.frees.below

  -- Both halves of a root of level 49 have more pages than there can be.
  pub too_high : (new : P) (row : RowRef) (key : K) (slots : Slots) (l : K) (taken : ℕ) (r : K) → IsInserted p g class old new row key before.0 before.1 free slots (Split l taken r) → p.count new ≤ 2 ^ 50 → 49 ≤ before.0 → ⊥
  too_high new row key slots l taken r ins most high = at ins.out ins.describes ins.two ins.pages
    where
      at : (out : Outcome K before.0) → Describes (g.union_of class) before.0 (Split l taken r) out → OnEach K before.0 (HasTwoItems K before.0) out → KeepsPages p old new (footprint before) free (pages_now K before.0 out) ins.rest → ⊥
      at (inl node) says two keeps = absurd says
      at (inr both) says two keeps =
          let all = pages_of K before.0 both.0 ++ pages_of K before.0 both.1 in
          let apart = feet.apart_left all ins.rest (feet.kept_apart p old new (footprint before) free all ins.rest keeps beside.apart low_all) in
          let low = feet.all_left (λ (n : ℕ). n < p.count new) all ins.rest (below_now p old new (footprint before) free all ins.rest keeps low_all) in
          let few = feet.apart_few (p.count new) all apart low in
          let len = length-append (pages_of K before.0 both.0) (pages_of K before.0 both.1) in
          let one = many_pages K before.0 both.0 two.0 in
          let other = many_pages K before.0 both.1 two.1 in
          let big : 2 ^ 50 ≤ 2 ^ suc before.0 = pow_up 50 (suc before.0) (omega (arith, high)) in
          omega (arith, few, len, one, other, big, most)

  -- A root that is split grows, where the free pages are listed.
  pub not_stuck : (new : P) (row : RowRef) (key : K) (slots : Slots) (l : K) (taken : ℕ) (r : K) → IsInserted p g class old new row key before.0 before.1 free slots (Split l taken r) → p.count new ≤ 2 ^ 50
      → (level : ℕ) → level ≡ before.0 → (level < 49 → (list : List ℕ) → IsFreeList (p.map new) (p.count new) list → ⊥) → ⊥
  not_stuck new row key slots l taken r ins most level is broken =
      ⊎_elim
      (λ low. broken low ins.rest ins.pages.frees)
      (λ high. too_high new row key slots l taken r ins most (omega (arith, high, is)))
      (cases_lt level 49)

  halves : (both : Node K before.0 × Node K before.0) → page_of K before.0 both.0 ≡ page_of K before.0 before.1
      → pages_of K before.0 both.0 ++ pages_of K before.0 both.1 ≡ root ∷ (pages_under K before.0 both.0 ++ pages_of K before.0 both.1)
  halves both stays = ap (λ (m : List ℕ). m ++ pages_of K before.0 both.1) (pages_cut K before.0 both.0 ∙ ap (λ (n : ℕ). n ∷ pages_under K before.0 both.0) (stays ∙ beside.held.begins))

  module _ (leaf_valid : (v : V) → g.valid_value class v → g.valid_key class (g.leaf_of class v))
      (union_valid : (a b : K) → g.valid_key class a → g.valid_key class b → g.valid_key class (g.union_of class a b))
      (itself : (v : V) → g.valid_value class v → g.over class (g.leaf_of class v) (g.leaf_of class v))
      (over_left : (a b : K) (v : V) → g.valid_key class a → g.valid_key class b → g.valid_value class v → g.over class a (g.leaf_of class v) → g.over class (g.union_of class a b) (g.leaf_of class v))
      (over_right : (a b : K) (v : V) → g.valid_key class a → g.valid_key class b → g.valid_value class v → g.over class b (g.leaf_of class v) → g.over class (g.union_of class a b) (g.leaf_of class v))
      (row : RowRef) (key : K) (leaf : IsLeafKey (g.valid_value class) (g.leaf_of class) key) (fits : FitsFields row) (fresh : All (λ e. e.0.number ≢ row.number) (entries_of before)) where
    abbrev bytes : K → List ℕ
    bytes = g.spelling class

    -- what an insert promises of the tree
    abbrev pub IsLater : P → Whole K → List ℕ → Type 0
    IsLater new later rest =
        HoldsBeside p g class new root later rest × IsPermutation ((row, key) ∷ entries_of before) (entries_of later)
        × AreKept (g.union_of class) (items_above K before.0 before.1) row key later.0 later.1 × KeepsPages p old new (footprint before) free (footprint later) rest

    trees : (out : Outcome K before.0) → Inserts (g.union_of class) row key before.0 before.1 out → AreTrees (g.valid_value class) (g.valid_key class) (g.leaf_of class) (g.over class) before.0 out
    trees out ins =
        insert_keeps (g.valid_value class) (g.valid_key class) (g.leaf_of class) (g.over class) (g.union_of class) leaf_valid union_valid itself over_left over_right row key leaf before.0 before.1 out ins beside.held.keys

    rows_now : (out : Outcome K before.0) → Inserts (g.union_of class) row key before.0 before.1 out → All (λ e. FitsFields e.0) (now_on before.0 out)
    rows_now out ins =
        all_now (g.valid_value class) (g.valid_key class) (g.leaf_of class) (g.over class) (g.union_of class) leaf_valid union_valid itself over_left over_right row key (λ e. FitsFields e.0) fits before.0 before.1 out ins
        beside.held.rows

    once_now : (es : List (Entry K)) → IsPermutation ((row, key) ∷ entries_of before) es → IsApart (map (λ e. e.0.number) es)
    once_now es moved =
        feet.apart_moved (row.number ∷ map (λ (e : Entry K). e.0.number) (entries_of before)) (map (λ (e : Entry K). e.0.number) es)
        (IsPermutation-map (λ (e : Entry K). e.0.number) ((row, key) ∷ entries_of before) es moved)
        (apart_numbers row.number (entries_of before) fresh, beside.held.once)

    module _ (new : P) (node : Node K before.0) (rest : List ℕ) where
      one_later : Inserts (g.union_of class) row key before.0 before.1 (inl node) → Stands (p.map new) bytes before.0 node → HasTwoItems K before.0 node
          → AreKept (g.union_of class) (items_above K before.0 before.1) row key before.0 node → page_of K before.0 node ≡ page_of K before.0 before.1 → KeepsPages p old new (footprint before) free (pages_of K before.0 node) rest
          → IsLater new (before.0, node) rest
      one_later ins stands two kept stays keeps =
          let apart = feet.kept_apart p old new (footprint before) free (pages_of K before.0 node) rest keeps beside.apart low_all in
          let low = below_now p old new (footprint before) free (pages_of K before.0 node) rest keeps low_all in
          let moved = entered (g.union_of class) row key before.0 before.1 (inl node) ins in (
            record {
              held = record {
                stands = stands;
                begins = stays ∙ beside.held.begins;
                apart = feet.apart_left (pages_of K before.0 node) rest apart;
                below = feet.all_left (λ (n : ℕ). n < p.count new) (pages_of K before.0 node) rest low;
                keys = trees (inl node) ins;
                two = two;
                rows = rows_now (inl node) ins;
                once = once_now (entries before.0 node) moved;
              };
              frees = keeps.frees;
              apart = apart;
            },
            moved,
            kept,
            keeps,
          )

    -- the root wasn't split
    pub later_within : (new : P) (slots : Slots) → IsInserted p g class old new row key before.0 before.1 free slots Within → (later : Whole K) × (rest : List ℕ) × IsLater new later rest
    later_within new slots done = at done.out done.inserts done.stands done.two done.kept done.stays done.describes done.pages
      where
        at : (out : Outcome K before.0) → Inserts (g.union_of class) row key before.0 before.1 out → OnEach K before.0 (Stands (p.map new) (g.spelling class) before.0) out → OnEach K before.0 (HasTwoItems K before.0) out
            → OnEach K before.0 (AreKept (g.union_of class) (items_above K before.0 before.1) row key before.0) out → page_of K before.0 (first_of K before.0 out) ≡ page_of K before.0 before.1
            → Describes (g.union_of class) before.0 Within out → KeepsPages p old new (footprint before) free (pages_now K before.0 out) done.rest → (later : Whole K) × (rest : List ℕ) × IsLater new later rest
        at (inl node) ins stands two kept stays says keeps = ((before.0, node), done.rest, one_later new node done.rest ins stands two kept stays keeps)
        at (inr both) ins stands two kept stays says keeps = absurd says

    -- both halves of the root, under a root of the next level
    module _ (mid new : P) (both : Node K before.0 × Node K before.0) (l : K) (taken : ℕ) (r : K) (slots : Slots) (middle : List ℕ)
        (ins : Inserts (g.union_of class) row key before.0 before.1 (inr both)) (stands : OnEach K before.0 (Stands (p.map mid) (g.spelling class) before.0) (inr both)) (two : OnEach K before.0 (HasTwoItems K before.0) (inr both))
        (kept : OnEach K before.0 (AreKept (g.union_of class) (items_above K before.0 before.1) row key before.0) (inr both)) (stays : page_of K before.0 both.0 ≡ page_of K before.0 before.1)
        (is : slots ≡ slots_of (g.spelling class) before.0 both.0) (says : Describes (g.union_of class) before.0 (Split l taken r) (inr both))
        (first : KeepsPages p old mid (footprint before) free (pages_of K before.0 both.0 ++ pages_of K before.0 both.1) middle)
        (page : ℕ) (rest : List ℕ) (put_left : IsWritten (p.map new) page slots) (put_root : IsWritten (p.map new) root (page_with (before.0 + 1) (inner_item (g.spelling class) page l ∷ inner_item (g.spelling class) taken r ∷ [])))
        (second : KeepsPages p mid new (root ∷ []) middle (root ∷ page ∷ []) rest) where
      abbrev left : Node K before.0
      left = moved_to K before.0 page both.0

      abbrev items : List (K × Node K before.0)
      items = (l, moved_to K before.0 page both.0) ∷ (r, both.1) ∷ []

      abbrev later : Whole K
      later = (suc before.0, (root, (l, moved_to K before.0 page both.0) ∷ (r, both.1) ∷ []))

      -- the pages below the root's, and those of the other half
      abbrev T : List ℕ
      T = pages_under K before.0 both.0 ++ pages_of K before.0 both.1

      first_at : KeepsPages p old mid (footprint before) free (root ∷ T) middle
      first_at = subst (λ (m : List ℕ). KeepsPages p old mid (footprint before) free m middle) (halves both stays) first

      apart_mid : IsApart ((root ∷ T) ++ middle)
      apart_mid = feet.kept_apart p old mid (footprint before) free (root ∷ T) middle first_at beside.apart low_all

      low_mid : AllByRecursion (λ n. n < p.count mid) ((root ∷ T) ++ middle)
      low_mid = below_now p old mid (footprint before) free (root ∷ T) middle first_at low_all

      low_under : AllByRecursion (λ n. n < p.count mid) T
      low_under = feet.all_left (λ (n : ℕ). n < p.count mid) T middle low_mid.1

      some_under : AllByRecursion (λ n. n ≢ 0) T
      some_under =
          let one = subst (λ (m : List ℕ). AllByRecursion (λ (n : ℕ). n ≢ 0) m) (pages_cut K before.0 both.0) (stands_some (p.map mid) (g.spelling class) before.0 both.0 stands.0) in
          feet.all_join (λ (n : ℕ). n ≢ 0) (pages_under K before.0 both.0) (pages_of K before.0 both.1) one.1 (stands_some (p.map mid) (g.spelling class) before.0 both.1 stands.1)

      same_under : AllByRecursion (λ n. p.map new n ≡ p.map mid n) T
      same_under = beside_same p mid new (root ∷ []) middle (root ∷ page ∷ []) rest T second apart_mid some_under low_under

      stand_left : Stands (p.map new) (g.spelling class) before.0 (moved_to K before.0 page both.0)
      stand_left =
          let slots_left : slots ≡ slots_of (g.spelling class) before.0 (moved_to K before.0 page both.0) = is ∙ sym (moved_slots (g.spelling class) before.0 page both.0) in
          let at = moved_page K before.0 page both.0 in
          moved_stands (p.map mid) (p.map new) (g.spelling class) before.0 page both.0 stands.0 (feet.all_left (λ (n : ℕ). p.map new n ≡ p.map mid n) (pages_under K before.0 both.0) (pages_of K before.0 both.1) same_under)
          record {
            some = λ none. put_left.some (sym at ∙ none);
            is = ap (λ (n : ℕ). p.map new n) at ∙ put_left.is ∙ ap (λ (s : Slots). Some (spelling s)) slots_left;
            fits = subst (λ (s : Slots). Fits s) slots_left put_left.fits;
          }

      stand_right : Stands (p.map new) (g.spelling class) before.0 both.1
      stand_right = stands_same (p.map mid) (p.map new) (g.spelling class) before.0 both.1 (feet.all_right (λ (n : ℕ). p.map new n ≡ p.map mid n) (pages_under K before.0 both.0) (pages_of K before.0 both.1) same_under) stands.1

      two_of : (F : K × Node K before.0 → Type 0) → F (l, moved_to K before.0 page both.0) → F (r, both.1) → All F ((l, moved_to K before.0 page both.0) ∷ (r, both.1) ∷ [])
      two_of F x y = All-cons F (l, moved_to K before.0 page both.0) ((r, both.1) ∷ []) x (All-cons F (r, both.1) [] y (All-nil F))

      root_slots : page_with (before.0 + 1) (inner_item (g.spelling class) page l ∷ inner_item (g.spelling class) taken r ∷ []) ≡ slots_of (g.spelling class) (suc before.0) (root, items)
      root_slots =
          let up : before.0 + 1 ≡ suc before.0 = omega arith in
          ap (λ (n : ℕ). page_with n (inner_item (g.spelling class) page l ∷ inner_item (g.spelling class) taken r ∷ [])) up
          ∙ ap (λ (n : ℕ). page_with (suc before.0) (inner_item (g.spelling class) n l ∷ inner_item (g.spelling class) taken r ∷ [])) (sym (moved_page K before.0 page both.0))
          ∙ ap (λ (n : ℕ). page_with (suc before.0) (inner_item (g.spelling class) (page_of K before.0 (moved_to K before.0 page both.0)) l ∷ inner_item (g.spelling class) n r ∷ [])) says.0
          ∙ page_items (g.spelling class) before.0 root items

      stand_root : Stands (p.map new) (g.spelling class) (suc before.0) (root, items)
      stand_root = (
        record {
          some = put_root.some;
          is = put_root.is ∙ ap (λ (s : Slots). Some (spelling s)) root_slots;
          fits = subst (λ (s : Slots). Fits s) root_slots put_root.fits;
        },
        two_of (λ i. Stands (p.map new) (g.spelling class) before.0 i.1) stand_left stand_right,
      )

      entries_later : entries_of later ≡ now_on before.0 (inr both)
      entries_later =
          ap (λ (m : List (Entry K)). entries before.0 (moved_to K before.0 page both.0) ++ m) (append-nil (entries before.0 both.1))
          ∙ ap (λ (m : List (Entry K)). m ++ entries before.0 both.1) (moved_entries before.0 page both.0)

      rows_moved : IsPermutation ((row, key) ∷ entries_of before) (entries_of later)
      rows_moved = subst (λ (m : List (Entry K)). IsPermutation ((row, key) ∷ entries_of before) m) (sym entries_later) (entered (g.union_of class) row key before.0 before.1 (inr both) ins)

      tree_later : IsTree (g.valid_value class) (g.valid_key class) (g.leaf_of class) (g.over class) (suc before.0) (root, items)
      tree_later =
          let both_trees = trees (inr both) ins in
          let one = united_above (g.valid_value class) (g.valid_key class) (g.leaf_of class) (g.over class) (g.union_of class) leaf_valid union_valid itself over_left over_right before.0 both.0 l both_trees.0 says.1 in
          let other = united_above (g.valid_value class) (g.valid_key class) (g.leaf_of class) (g.over class) (g.union_of class) leaf_valid union_valid itself over_left over_right before.0 both.1 r both_trees.1 says.2 in
          two_of (λ i. g.valid_key class i.0 × IsAbove (g.over class) i.0 before.0 i.1 × IsTree (g.valid_value class) (g.valid_key class) (g.leaf_of class) (g.over class) before.0 i.1) (
            one.0,
            subst (λ (m : List (Entry K)). All (λ e. g.over class l e.1) m) (sym (moved_entries before.0 page both.0)) one.1,
            moved_tree (g.valid_value class) (g.valid_key class) (g.leaf_of class) (g.over class) before.0 page both.0 one.2,
          )
          other

      keeps_later : KeepsPages p old new (footprint before) free (footprint later) rest
      keeps_later =
          let both_pages = (root ∷ page ∷ []) ++ T in
          let there : footprint later ≡ root ∷ ((page ∷ pages_under K before.0 both.0) ++ pages_of K before.0 both.1) =
          ap (λ (m : List ℕ). root ∷ (m ++ (pages_of K before.0 both.1 ++ []))) (moved_pages K before.0 page both.0)
          ∙ ap (λ (m : List ℕ). root ∷ ((page ∷ pages_under K before.0 both.0) ++ m)) (append-nil (pages_of K before.0 both.1)) in
          subst (λ (m : List ℕ). KeepsPages p old new (footprint before) free m rest) (sym there)
          (feet.keeps_join p old mid new (footprint before) free (root ∷ T) middle ((root ∷ page ∷ []) ++ T) rest first_at (keeps_beside p mid new (root ∷ []) middle (root ∷ page ∷ []) rest T second))

      pub grown_later : IsLater new later rest
      grown_later =
          let apart = feet.kept_apart p old new (footprint before) free (footprint later) rest keeps_later beside.apart low_all in
          let low = below_now p old new (footprint before) free (footprint later) rest keeps_later low_all in (
            record {
              held = record {
                stands = stand_root;
                begins = refl;
                apart = feet.apart_left (footprint later) rest apart;
                below = feet.all_left (λ (n : ℕ). n < p.count new) (footprint later) rest low;
                keys = tree_later;
                two = (omega arith, two_of (λ i. HasTwoItems K before.0 i.1) (moved_two K before.0 page both.0 two.0) two.1);
                rows = subst (λ (m : List (Entry K)). All (λ e. FitsFields e.0) m) (sym entries_later) (rows_now (inr both) ins);
                once = once_now (entries_of later) rows_moved;
              };
              frees = keeps_later.frees;
              apart = apart;
            },
            rows_moved,
            two_of (λ i. IsKept (g.union_of class) (items_above K before.0 before.1) row key before.0 i × AreKept (g.union_of class) (items_above K before.0 before.1) row key before.0 i.1)
                (inr (inr (moved_united (g.union_of class) before.0 page both.0 l says.1)), moved_kept (g.union_of class) (items_above K before.0 before.1) row key before.0 page both.0 kept.0)
                (inr (inr says.2), kept.1),
            keeps_later,
          )

    -- the root was split
    pub later_split : (mid new : P) (slots : Slots) (l : K) (taken : ℕ) (r : K) → (ins : IsInserted p g class old mid row key before.0 before.1 free slots (Split l taken r))
        → ((list : List ℕ) → IsFreeList (p.map mid) (p.count mid) list → IsOutside root list → (page : ℕ) × (rest : List ℕ) × IsWritten (p.map new) page slots
        × IsWritten (p.map new) root (page_with (before.0 + 1) (inner_item (g.spelling class) page l ∷ inner_item (g.spelling class) taken r ∷ [])) × KeepsPages p mid new (root ∷ []) list (root ∷ page ∷ []) rest)
        → (later : Whole K) × (rest : List ℕ) × IsLater new later rest
    later_split mid new slots l taken r done put = at done.out done.inserts done.stands done.two done.kept done.stays done.is done.describes done.pages
      where
        at : (out : Outcome K before.0) → Inserts (g.union_of class) row key before.0 before.1 out → OnEach K before.0 (Stands (p.map mid) (g.spelling class) before.0) out → OnEach K before.0 (HasTwoItems K before.0) out
            → OnEach K before.0 (AreKept (g.union_of class) (items_above K before.0 before.1) row key before.0) out → page_of K before.0 (first_of K before.0 out) ≡ page_of K before.0 before.1
            → slots ≡ slots_of (g.spelling class) before.0 (first_of K before.0 out) → Describes (g.union_of class) before.0 (Split l taken r) out
            → KeepsPages p old mid (footprint before) free (pages_now K before.0 out) done.rest → (later : Whole K) × (rest : List ℕ) × IsLater new later rest
        at (inl node) ins stands two kept stays is says keeps = absurd says
        at (inr both) ins stands two kept stays is says keeps =
            let apart = subst (λ (m : List ℕ). IsApart (m ++ done.rest)) (halves both stays)
            (feet.kept_apart p old mid (footprint before) free (pages_of K before.0 both.0 ++ pages_of K before.0 both.1) done.rest keeps beside.apart low_all) in
            let has = put done.rest done.pages.frees (feet.all_right (λ (n : ℕ). root ≢ n) (pages_under K before.0 both.0 ++ pages_of K before.0 both.1) done.rest apart.0) in
            ((suc before.0, (root, (l, moved_to K before.0 has.0 both.0) ∷ (r, both.1) ∷ [])), has.1, grown_later mid new both l taken r slots done.rest ins stands two kept stays is says keeps has.0 has.1 has.2 has.3 has.4)

    -- the same at an equal level
    pub later_grown : (mid new : P) (slots : Slots) (l : K) (taken : ℕ) (r : K) → (ins : IsInserted p g class old mid row key before.0 before.1 free slots (Split l taken r)) → (level : ℕ) → level ≡ before.0
        → ((list : List ℕ) → IsFreeList (p.map mid) (p.count mid) list → IsOutside root list → (page : ℕ) × (rest : List ℕ) × IsWritten (p.map new) page slots
        × IsWritten (p.map new) root (page_with (level + 1) (inner_item (g.spelling class) page l ∷ inner_item (g.spelling class) taken r ∷ [])) × KeepsPages p mid new (root ∷ []) list (root ∷ page ∷ []) rest)
        → (later : Whole K) × (rest : List ℕ) × IsLater new later rest
    later_grown mid new slots l taken r ins level is put =
        later_split mid new slots l taken r ins
        (subst (λ (n : ℕ). (list : List ℕ) → IsFreeList (p.map mid) (p.count mid) list → IsOutside root list → (page : ℕ) × (rest : List ℕ) × IsWritten (p.map new) page slots
        × IsWritten (p.map new) root (page_with (n + 1) (inner_item (g.spelling class) page l ∷ inner_item (g.spelling class) taken r ∷ [])) × KeepsPages p mid new (root ∷ []) list (root ∷ page ∷ []) rest) is put)
