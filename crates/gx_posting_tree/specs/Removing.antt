-- Rows that are taken out of pages of level 0.
use Rattle.std.specs.Prelude.{◌≡◌, ◌↔◌, ℕ, Bool, true, List, [], ◌∷◌, map, Some}
use Rattle.std.specs.List.{AllByRecursion}
use Rattle.gx_words.specs.PageMap.{PageMap}
use Rattle.gx_pages.specs.declared.row.RowRef.{RowRef}
use Rattle.gx_pages.specs.Footprints.{IsOutside}
use Rattle.gx_slot.specs.Slots.{Slots}
use Rattle.gx_tree.specs.Trees.{IsOn, Leaf, items_of, slots}
use Rattle.gx_posting_tree.specs.PostingTrees.{AreSpelled, without}

-- These lists have what others have without some rows.
abbrev pub Strips : List RowRef → List (List ℕ) → List (List ℕ) → Type 0
Strips gone was is = (rows : List RowRef) → AreSpelled was rows → AreSpelled is (without gone rows)

-- a list that has some bytes
abbrev pub unless_empty : List ℕ → List (List ℕ)
unless_empty [] = []
unless_empty (byte ∷ bytes) = (byte ∷ bytes) ∷ []

-- The lists of a page were written again without some rows.
pub record IsKept (gone : List RowRef) (was is : Slots) : Type 0 where
  pub items : List (List ℕ)
  pub are : is ≡ slots 6 0 (map (λ item. Some item) items)
  pub strips : (before : List (List ℕ)) → was.items ≡ map (λ item. Some item) before → Strips gone before items

-- A page of level 0 lost some rows.
pub record IsStripped (gone : List RowRef) (after : PageMap) (page : ℕ) (was : List (List ℕ)) (empty : Bool) : Type 0 where
  pub items : List (List ℕ)
  pub on : IsOn after 6 0 (page, items)
  pub strips : Strips gone was items
  pub none : empty ≡ true ↔ items ≡ []

-- one by one
abbrev pub Paired : {X : Type 0} → (X → X → Type 0) → List X → List X → Type 0
Paired R [] [] = Unit {0}
Paired R [] (y ∷ ys) = ⊥
Paired R (x ∷ xs) [] = ⊥
Paired R (x ∷ xs) (y ∷ ys) = R x y × Paired R xs ys

-- the same pages, without some rows
abbrev pub AreStripped : List RowRef → List Leaf → List Leaf → Type 0
AreStripped gone was is = Paired (λ (before after : Leaf). (before.0 ≡ after.0) × Strips gone before.1 after.1) was is

-- Pages of level 0 lost some rows, and no other page changed.
pub record LostRows (gone : List RowRef) (old new : PageMap) (list : List ℕ) (was : List Leaf) (empty : Bool) : Type 0 where
  pub leaves : List Leaf
  pub on : AllByRecursion (IsOn new 6 0) leaves
  pub strips : AreStripped gone was leaves
  pub none : empty ≡ true ↔ items_of leaves ≡ []
  pub others : (page : ℕ) → IsOutside page list → new page ≡ old page
