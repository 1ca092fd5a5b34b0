-- Pages of level 0 that lose rows one after another.
use Rattle.std.proofs.Common.{◌≡◌, ◌≢◌, ℕ, ◌+◌, ◌<◌, ◌≤◌, Bool, true, List, [], ◌∷◌, ◌++◌, length, map, take, drop, get_or, Some, refl, sym, ◌∙◌, ap, ap₂, subst, append-nil, arith}
use Rattle.std.specs.Prelude.{◌↔◌}
use Rattle.std.specs.List.{AllByRecursion}
use Rattle.std.proofs.lemmas.List.{length-map, take-map, take_all}
use Rattle.gx_words.specs.PageMap.{PageMap}
use Rattle.gx_pages.specs.declared.row.RowRef.{RowRef}
use Rattle.gx_pages.specs.Footprints.{IsOutside}
use Rattle.gx_pages.specs.Frees.{IsApart}
use Rattle.gx_pages.proofs.Footprints as feet
use Rattle.gx_slot.specs.Slots.{Fits, Slots, spelling}
use Rattle.gx_tree.specs.Trees.{IsOn, Leaf, items_of, numbers, slots_of}
use Rattle.gx_tree.proofs.Lists.{all_place, at_place, get_at, flat_map_append}
use Rattle.gx_posting_tree.specs.PostingTrees.{AreSpelled, without}
use Rattle.gx_posting_tree.specs.Removing.{AreStripped, IsKept, IsStripped, LostRows, Strips}
use Rattle.gx_posting_tree.specs.Spelled.{spelled_join, spelled_split}
use Rattle.gx_posting_tree.proofs.Kept.{without_join}
use Rattle.gx_posting_tree.proofs.Relisted.{numbers_same, paired_join}

pub strips_all : (gone : List RowRef) (was is : List Leaf) → AreStripped gone was is → Strips gone (items_of was) (items_of is)
strips_all gone [] [] pairs rows are = subst (λ (l : List RowRef). without gone l ≡ []) (sym are) refl
strips_all gone [] (y ∷ is) pairs rows are = absurd pairs
strips_all gone (x ∷ was) [] pairs rows are = absurd pairs
strips_all gone (x ∷ was) (y ∷ is) pairs rows are =
    let both = spelled_split x.1 (items_of was) rows are in
    subst (λ (l : List RowRef). AreSpelled (items_of (y ∷ is)) l) (sym (ap (λ (l : List RowRef). without gone l) both.cut ∙ without_join gone both.left both.right))
    (spelled_join y.1 (items_of is) (without gone both.left) (without gone both.right) (pairs.0.1 both.left both.before) (strips_all gone was is pairs.1 both.right both.behind))

-- a page of level 0 that is written again
pub page_stripped : (gone : List RowRef) (new : PageMap) (page : ℕ) (was kept : Slots) (items : List (List ℕ)) (none : Bool) → was ≡ slots_of 6 0 (page, items) → page ≢ 0 → new page ≡ Some (spelling kept) → Fits kept
    → (is : IsKept gone was kept) → (none ≡ true ↔ kept.items ≡ []) → IsStripped gone new page items none
page_stripped gone new page was kept items none was_is some at fits is empty = record {
  items = is.items;
  on = record { some = some; is = at ∙ ap (λ (s : Slots). Some (spelling s)) is.are; fits = subst (λ (s : Slots). Fits s) is.are fits };
  strips = is.strips items (ap (λ (s : Slots). s.items) was_is);
  none = (λ e. unmap is.items (sym (ap (λ (s : Slots). s.items) is.are) ∙ empty.0 e), λ e. empty.1 (ap (λ (s : Slots). s.items) is.are ∙ ap (λ (l : List (List ℕ)). map (λ (i : List ℕ). Some i) l) e));
}
  where
    unmap : (xs : List (List ℕ)) → map (λ item. Some item) xs ≡ [] → xs ≡ []
    unmap [] e = refl
    unmap (x ∷ xs) e = cc

pub lost_none : (gone : List RowRef) (now : PageMap) (list : List ℕ) (leaves : List Leaf) (empty : Bool) → empty ≡ true → LostRows gone now now (take 0 list) (take 0 leaves) empty
lost_none gone now list leaves empty is = record { leaves = []; on = tt; strips = tt; none = (λ e. refl, λ e. is); others = λ page outside. refl }

away : (page : ℕ) (leaves : List Leaf) (now new : PageMap) → IsOutside page (numbers leaves) → ((n : ℕ) → n ≢ page → new n ≡ now n) → AllByRecursion (IsOn now 6 0) leaves → AllByRecursion (IsOn new 6 0) leaves
away page [] now new outside others on = tt
away page (leaf ∷ leaves) now new outside others on = (
  record { some = on.0.some; is = others leaf.0 (λ e. outside.0 (sym e)) ∙ on.0.is; fits = on.0.fits },
  away page leaves now new outside.1 others on.1,
)

nothing_left : (xs ys : List (List ℕ)) → xs ++ ys ≡ [] → (xs ≡ []) × (ys ≡ [])
nothing_left [] ys e = (refl, e)
nothing_left (x ∷ xs) ys e = cc

module _ (gone : List RowRef) (old now : PageMap) (list : List ℕ) (leaves : List Leaf) (are : list ≡ numbers leaves) (apart : IsApart list) (on : AllByRecursion (IsOn old 6 0) leaves)
    (i page : ℕ) (below : i < length list) (at : get_or list i page ≡ page) (empty : Bool) (lost : LostRows gone old now (take i list) (take i leaves) empty) where
  pub inside : i < length leaves
  inside = let same = ap (λ (l : List ℕ). length l) are in omega (arith, below, same, length-map leaves (λ (leaf : Leaf). leaf.0))

  abbrev pub leaf : Leaf
  leaf = (at_place leaves i inside).item

  leaf_page : leaf.0 ≡ page
  leaf_page = sym (get_at (λ (l : Leaf). l.0) leaves i inside page) ∙ ap (λ (l : List ℕ). get_or l i page) (sym are) ∙ at

  list_page : (at_place list i below).item ≡ page
  list_page = sym ((at_place list i below).is page) ∙ at

  list_cut : list ≡ take i list ++ page ∷ drop (i + 1) list
  list_cut = (at_place list i below).cut ∙ ap (λ (n : ℕ). take i list ++ n ∷ drop (i + 1) list) list_page

  outside : IsOutside page (take i list)
  outside = feet.apart_before (take i list) page (drop (i + 1) list) (subst (λ (l : List ℕ). IsApart l) list_cut apart)

  pub leaf_now : IsOn now 6 0 (page, leaf.1)
  leaf_now =
      let was = all_place (IsOn old 6 0) leaves i inside on in
      record {
        some = subst (λ (n : ℕ). n ≢ 0) leaf_page was.some;
        is = lost.others page outside ∙ ap (λ (n : ℕ). old n) (sym leaf_page) ∙ was.is;
        fits = was.fits;
      }

  numbers_take : numbers (take i leaves) ≡ take i list
  numbers_take = sym (take-map (λ (l : Leaf). l.0) i leaves) ∙ ap (λ (l : List ℕ). take i l) (sym are)

  kept_outside : IsOutside page (numbers lost.leaves)
  kept_outside = subst (λ (l : List ℕ). IsOutside page l) (sym numbers_take ∙ numbers_same gone (take i leaves) lost.leaves lost.strips) outside

  leaves_more : take (i + 1) leaves ≡ take i leaves ++ leaf ∷ []
  leaves_more = (at_place leaves i inside).more

  pub part : (rows : List RowRef) → AreSpelled (items_of leaves) rows → (own : List RowRef) × AreSpelled leaf.1 own
  part rows spelled =
      let cut = (at_place leaves i inside).cut in
      let all : items_of leaves ≡ items_of (take i leaves) ++ (leaf.1 ++ items_of (drop (i + 1) leaves)) =
      ap (λ (l : List Leaf). items_of l) cut ∙ flat_map_append (λ (l : Leaf). l.1) (take i leaves) (leaf ∷ drop (i + 1) leaves) in
      let first = spelled_split (items_of (take i leaves)) (leaf.1 ++ items_of (drop (i + 1) leaves)) rows (subst (λ (l : List (List ℕ)). AreSpelled l rows) all spelled) in
      let second = spelled_split leaf.1 (items_of (drop (i + 1) leaves)) first.right first.behind in
      (second.left, second.before)

  pub lost_more : (new : PageMap) (none both : Bool) → ((n : ℕ) → n ≢ page → new n ≡ now n) → IsStripped gone new page leaf.1 none → (both ≡ true ↔ (empty ≡ true) × (none ≡ true))
      → LostRows gone old new (take (i + 1) list) (take (i + 1) leaves) both
  lost_more new none both others here ends = record {
    leaves = lost.leaves ++ (page, here.items) ∷ [];
    on = feet.all_join (IsOn new 6 0) lost.leaves ((page, here.items) ∷ []) (away page lost.leaves now new kept_outside others lost.on) (here.on, tt);
    strips = subst (λ (l : List Leaf). AreStripped gone l (lost.leaves ++ (page, here.items) ∷ [])) (sym leaves_more)
        (paired_join _ (take i leaves) (leaf ∷ []) lost.leaves ((page, here.items) ∷ []) lost.strips ((leaf_page, here.strips), tt));
    none =
        let all : items_of (lost.leaves ++ (page, here.items) ∷ []) ≡ items_of lost.leaves ++ here.items =
        flat_map_append (λ (l : Leaf). l.1) lost.leaves ((page, here.items) ∷ []) ∙ ap (λ (l : List (List ℕ)). items_of lost.leaves ++ l) (append-nil here.items) in (
          λ e. let done = ends.0 e in all ∙ ap₂ (λ (a b : List (List ℕ)). a ++ b) (lost.none.0 done.0) (here.none.0 done.1),
          λ e. let nothing = nothing_left (items_of lost.leaves) here.items (sym all ∙ e) in ends.1 (lost.none.1 nothing.0, here.none.1 nothing.1),
        );
    others = λ n away_from.
        let parts = subst (λ (l : List ℕ). IsOutside n l) ((at_place list i below).more ∙ ap (λ (m : ℕ). take i list ++ m ∷ []) list_page) away_from in
        others n (feet.all_right (λ (m : ℕ). n ≢ m) (take i list) (page ∷ []) parts).0 ∙ lost.others n (feet.all_left (λ (m : ℕ). n ≢ m) (take i list) (page ∷ []) parts);
  }

pub lost_all : (gone : List RowRef) (old now : PageMap) (list : List ℕ) (leaves : List Leaf) (i : ℕ) (empty : Bool) → list ≡ numbers leaves → length list ≤ i → LostRows gone old now (take i list) (take i leaves) empty → LostRows gone old now list leaves empty
lost_all gone old now list leaves i empty are past lost =
    let len = ap (λ (l : List ℕ). length l) are in
    subst (λ (l : List ℕ). LostRows gone old now l leaves empty) (take_all i list past)
    (subst (λ (l : List Leaf). LostRows gone old now (take i list) l empty) (take_all i leaves (omega (arith, past, len, length-map leaves (λ (leaf : Leaf). leaf.0)))) lost)
