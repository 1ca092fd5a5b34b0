-- The items of a page, on one page or on two.
use Rattle.std.specs.Prelude.{◌≡◌, ◌≢◌, ℕ, ◌+◌, ◌*◌, ◌<◌, ◌≤◌, List, [], ◌∷◌, ◌++◌, length, map, take, drop, Option, Some, None}
use Rattle.std.specs.List.{AllByRecursion}
use Rattle.gx_words.specs.PageMap.{PageMap}
use Rattle.gx_pages.specs.declared.store.Pages.{Ghosts}
use Rattle.gx_pages.specs.Footprints.{KeepsPages}
use Rattle.gx_slot.specs.Slots.{Fits, spelling}
use Rattle.gx_tree.specs.Trees.{slots}

-- how many bytes the items take on a page
abbrev pub weight : List (List ℕ) → ℕ
weight [] = 0
weight (item ∷ items) = 4 + length item + weight items

-- a list of what there is
abbrev pub listed : {X : Type 0} → Option X → List X
listed None = []
listed (Some x) = x ∷ []

-- the items with others in place of those from one place on up to another
abbrev pub replaced : List (List ℕ) → ℕ → ℕ → List (List ℕ) → List (List ℕ)
replaced items place behind others = take place items ++ others ++ drop behind items

-- Items that two pages can hold, so many on each of them at least.
pub record CanSplit (least : ℕ) (items : List (List ℕ)) : Type 0 where
  pub bound : ℕ
  pub extra : ℕ
  pub each : AllByRecursion (λ item. 4 + length item ≤ bound) items
  pub room : weight items ≤ 8176 + extra
  pub narrow : extra + 2 * bound ≤ 8176
  pub many : bound * least ≤ 4088

-- The items before this place have half of the bytes, and without the last of them they have less.
pub record IsMiddle (items : List (List ℕ)) (place : ℕ) : Type 0 where
  pub some : 0 < place
  pub within : place ≤ length items
  pub half : weight items ≤ 2 * weight (take place items)
  pub less : (before : ℕ) → before + 1 ≡ place → 2 * weight (take before items) < weight items

-- The page has these items.
pub record AreOn (map_of : PageMap) (kind level page : ℕ) (items : List (List ℕ)) : Type 0 where
  pub some : page ≢ 0
  pub is : map_of page ≡ Some (spelling (slots kind level (map (λ item. Some item) items)))
  pub fits : Fits (slots kind level (map (λ item. Some item) items))

-- On the right there is no page and no item; or there is one that has these items, so many at least, and so many are left.
abbrev pub IsRight : PageMap → ℕ → ℕ → ℕ → Option ℕ → List (List ℕ) → List (List ℕ) → Type 0
IsRight map_of kind level least None left right = right ≡ []
IsRight map_of kind level least (Some page) left right = AreOn map_of kind level page right × (least ≤ length left) × (least ≤ length right)

-- A page and perhaps a new one on its right have the items.
pub record Parted {P : Type 0} (g : Ghosts P) (old new : P) (kind level least page : ℕ) (items : List (List ℕ)) (beside : Option ℕ) (free rest : List ℕ) : Type 0 where
  pub left : List (List ℕ)
  pub right : List (List ℕ)
  pub cut : items ≡ left ++ right
  pub here : AreOn (g.map new) kind level page left
  pub there : IsRight (g.map new) kind level least beside left right
  pub below : AllByRecursion (λ n. n < g.count new) (listed beside)
  pub keeps : KeepsPages g old new (page ∷ []) free (page ∷ listed beside) rest
