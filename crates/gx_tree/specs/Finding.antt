-- The page of level 0 where a key belongs.
use Rattle.std.specs.Prelude.{◌≡◌, ◌≢◌, ◌⊎◌, ℕ, ◌+◌, ◌<◌, ◌≤◌, List, [], ◌∷◌, ◌++◌, Option, Some, None}
use Rattle.std.specs.List.{AllByRecursion}
use Rattle.std.specs.List.Sorted.{IsPermutation}
use Rattle.gx_words.specs.PageMap.{PageMap}
use Rattle.gx_pages.specs.declared.store.Pages.{Ghosts}
use Rattle.gx_pages.specs.Footprints.{IsOutside, KeepsPages}
use Rattle.gx_pages.specs.Frees.{IsApart}
use Rattle.gx_slot.specs.Slots.{Slots}
use Rattle.gx_tree.specs.Orders.{AtMost, IsKeyed, Order}
use Rattle.gx_tree.specs.Trees.{HaveTwo, HoldsBeside, IsOn, Leaf, Node, Stand, Tree, entries, entries_of, footprint, items_of, leaves_of, page_of, pages_of, slots_of}

-- A page stands with all below it, and its keys rise.
pub record Stands {P : Type 0} (g : Ghosts P) (pages : P) (order : Order) (kind level page : ℕ) (least end : Option (List ℕ)) (node : Node level) : Type 0 where
  pub begins : page_of level node ≡ page
  pub stand : Stand (g.map pages) kind level (node ∷ [])
  pub two : HaveTwo level (node ∷ [])
  pub keyed : IsKeyed order level least end node
  pub below : AllByRecursion (λ n. n < g.count pages) (pages_of level (node ∷ []))
  pub apart : IsApart (pages_of level (node ∷ []))

-- What a page with all below it becomes where one page of level 0 has other items.
pub record Later (order : Order) (now : PageMap) (kind level : ℕ) (least end : Option (List ℕ)) (page : ℕ) (node : Node level) (front back items : List (List ℕ)) : Type 0 where
  pub later : Node level
  pub begins : page_of level later ≡ page_of level node
  pub pages : IsPermutation (pages_of level (node ∷ [])) (pages_of level (later ∷ []))
  pub two : HaveTwo level (later ∷ [])
  pub keyed : IsKeyed order level least end later
  pub has : entries_of level (later ∷ []) ≡ front ++ items ++ back
  pub stand : (after : PageMap) → ((n : ℕ) → n ≢ page → after n ≡ now n) → IsOn after kind 0 (page, items) → Stand after kind level (later ∷ [])

-- The page of level 0 where a key belongs, between those before it and those behind it: all items before it are before the key, and all behind it are behind the key.
pub record LeafAt {P : Type 0} (g : Ghosts P) (pages : P) (order : Order) (own : List ℕ) (kind level : ℕ) (least end : Option (List ℕ)) (node : Node level) (page : ℕ) (slots : Slots) : Type 0 where
  pub leaf : List (List ℕ)
  pub from : Option (List ℕ)
  pub to : Option (List ℕ)
  pub front : List (List ℕ)
  pub back : List (List ℕ)
  pub is : slots ≡ slots_of kind 0 (page, leaf)
  pub on : IsOn (g.map pages) kind 0 (page, leaf)
  pub are : order.AreIn from to leaf
  pub inside : (n : ℕ) → IsOutside n (pages_of level (node ∷ [])) → n ≢ page
  pub cut : entries_of level (node ∷ []) ≡ front ++ leaf ++ back
  pub prior : List Leaf
  pub others : List Leaf
  pub row : leaves_of level (node ∷ []) ≡ prior ++ (page, leaf) ∷ others
  pub front_is : front ≡ items_of prior
  pub back_is : back ≡ items_of others
  pub before : (front ≡ []) ⊎ ((key : List ℕ) × AtMost order key own × order.AreIn least (Some key) front)
  pub behind : (back ≡ []) ⊎ ((key : List ℕ) × order.Less own key × order.AreIn (Some key) end back)
  pub changed : (items : List (List ℕ)) → order.AreIn from to items → Later order (g.map pages) kind level least end page node front back items

-- A tree of rising keys that has these items, where it had other ones: its root page and the free pages stayed.
pub record Rewritten {P : Type 0} (g : Ghosts P) (old new : P) (order : Order) (kind root : ℕ) (tree : Tree) (free : List ℕ) (items : List (List ℕ)) : Type 0 where
  pub later : Tree
  pub held : HoldsBeside g new kind root later free
  pub keyed : IsKeyed order later.0 None None later.1
  pub keeps : KeepsPages g old new (footprint tree) free (footprint later) free
  pub has : entries later ≡ items
