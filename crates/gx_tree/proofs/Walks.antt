-- A walk over the pages of level 0 of a tree, and over their items.
use Rattle.std.proofs.Common.{◌≡◌, ◌≢◌, ℕ, zero, suc, ◌+◌, ◌<◌, ◌≤◌, List, [], ◌∷◌, ◌++◌, length, map, drop, get_or, Option, Some, None, refl, sym, ◌∙◌, ap, subst, append-nil, arith}
use Rattle.std.specs.List.{AllByRecursion}
use Rattle.std.proofs.lemmas.List.{drop_more, drop_all, length-map}
use Rattle.gx_words.specs.PageMap.{PageMap}
use Rattle.gx_slot.specs.Slots.{Slots, Fits, item_at, spelling}
use Rattle.gx_tree.specs.Trees.{IsOn, LacksPage, Leaf, Node, Tree, entries, entries_of, items_of, numbers, slots_of}
use Rattle.gx_tree.proofs.Lists.{all_place, at_place, get_at}

pub item_some : (items : List (List ℕ)) (slot : ℕ) (d : List ℕ) → slot < length items → item_at (map (λ item. Some item) items) slot ≡ Some (get_or items slot d)
item_some [] slot d below = absurd (omega (arith, below))
item_some (item ∷ items) zero d below = refl
item_some (item ∷ items) (suc slot) d below = item_some items slot d (omega (arith, below))

-- the item in a slot is the next one that is left
pub slot_next : (its : List (Option (List ℕ))) (items : List (List ℕ)) (count slot : ℕ) (item : List ℕ) → its ≡ map (λ item. Some item) items → count ≡ length its → slot < count → item_at its slot ≡ Some item
    → drop slot items ≡ item ∷ drop (slot + 1) items
slot_next its items count slot item are len below is =
    let same = ap (λ (l : List (Option (List ℕ))). length l) are in
    let inside : slot < length items = omega (arith, len, below, same, length-map items (λ (i : List ℕ). Some i)) in
    let found : Some item ≡ Some (get_or items slot []) = sym is ∙ ap (λ (l : List (Option (List ℕ))). item_at l slot) are ∙ item_some items slot [] inside in
    let one : get_or items slot [] ≡ item = (let e = sym found in cc) in
    drop_more items slot [] inside ∙ ap (λ (i : List ℕ). i ∷ drop (slot + 1) items) one

pub slot_none : (its : List (Option (List ℕ))) (items : List (List ℕ)) (count slot : ℕ) → its ≡ map (λ item. Some item) items → count ≡ length its → slot < count → item_at its slot ≡ None → ⊥
slot_none its items count slot are len below is =
    let same = ap (λ (l : List (Option (List ℕ))). length l) are in
    let inside : slot < length items = omega (arith, len, below, same, length-map items (λ (i : List ℕ). Some i)) in
    let found : None ≡ Some (get_or items slot []) = sym is ∙ ap (λ (l : List (Option (List ℕ))). item_at l slot) are ∙ item_some items slot [] inside in
    cc

pub slots_end : (its : List (Option (List ℕ))) (items : List (List ℕ)) (count slot : ℕ) → its ≡ map (λ item. Some item) items → count ≡ length its → count ≤ slot → drop slot items ≡ []
slots_end its items count slot are len past =
    let same = ap (λ (l : List (Option (List ℕ))). length l) are in
    drop_all slot items (omega (arith, len, past, same, length-map items (λ (i : List ℕ). Some i)))

-- a page of level 0 among others
module _ (now : PageMap) (kind : ℕ) (list : List ℕ) (leaves : List Leaf) (are : list ≡ numbers leaves) (on : AllByRecursion (IsOn now kind 0) leaves) (i page : ℕ) (below : i < length list) (at : get_or list i page ≡ page) where
  inside : i < length leaves
  inside = let same = ap (λ (l : List ℕ). length l) are in omega (arith, below, same, length-map leaves (λ (leaf : Leaf). leaf.0))

  pub leaf : Leaf
  leaf = (at_place leaves i inside).item

  pub leaf_page : leaf.0 ≡ page
  unfolding leaf
  leaf_page = sym (get_at (λ (l : Leaf). l.0) leaves i inside page) ∙ ap (λ (l : List ℕ). get_or l i page) (sym are) ∙ at

  pub leaf_on : IsOn now kind 0 leaf
  unfolding leaf
  leaf_on = all_place (IsOn now kind 0) leaves i inside on

  on_page : now page ≡ Some (spelling (slots_of kind 0 leaf))
  on_page = ap (λ (n : ℕ). now n) (sym leaf_page) ∙ leaf_on.is

  pub leaf_found : (found : Slots) → ((s : Slots) → now page ≡ Some (spelling s) → Fits s → found ≡ s) → found.items ≡ map (λ item. Some item) leaf.1
  leaf_found found one = ap (λ (s : Slots). s.items) (one (slots_of kind 0 leaf) on_page leaf_on.fits)

  pub leaf_sound : (count : ℕ) → AllByRecursion (λ p. p < count) list → LacksPage now count page kind 0 → ⊥
  leaf_sound count fits lacks =
      lacks (slots_of kind 0 leaf) on_page leaf_on.fits refl refl (λ none. leaf_on.some (leaf_page ∙ none))
      (subst (λ (n : ℕ). n < count) (sym ((at_place list i below).is page) ∙ at) (all_place (λ (p : ℕ). p < count) list i below fits))

  pub leaf_left : items_of (drop i leaves) ≡ leaf.1 ++ items_of (drop (i + 1) leaves)
  unfolding leaf
  leaf_left = ap (λ (l : List Leaf). items_of l) (drop_more leaves i leaf inside ∙ ap (λ (l : Leaf). l ∷ drop (i + 1) leaves) ((at_place leaves i inside).is leaf))

-- a tree of level 0
flat_entries : (kind level : ℕ) (top : Node level) → level ≡ 0 → (slots_of kind level top).items ≡ map (λ item. Some item) (entries_of level (top ∷ []))
flat_entries kind zero top flat = ap (λ (l : List (List ℕ)). map (λ (i : List ℕ). Some i) l) (sym (append-nil top.1))
flat_entries kind (suc level) top flat = absurd (omega (arith, flat))

pub flat_items : (kind : ℕ) (found : Slots) (tree : Tree) → found ≡ slots_of kind tree.0 tree.1 → tree.0 ≡ 0 → found.items ≡ map (λ item. Some item) (entries tree)
flat_items kind found tree is flat = ap (λ (s : Slots). s.items) is ∙ flat_entries kind tree.0 tree.1 flat

pub leaves_end : (list : List ℕ) (leaves : List Leaf) (i : ℕ) → list ≡ numbers leaves → length list ≤ i → items_of (drop i leaves) ≡ []
leaves_end list leaves i are past =
    let same = ap (λ (l : List ℕ). length l) are in
    ap (λ (l : List Leaf). items_of l) (drop_all i leaves (omega (arith, past, same, length-map leaves (λ (leaf : Leaf). leaf.0))))
