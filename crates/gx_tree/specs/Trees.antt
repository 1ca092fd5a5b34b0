-- A tree of slot pages, which holds a list of items.
use Rattle.std.specs.Prelude.{◌≡◌, ◌≢◌, ℕ, zero, suc, ◌+◌, ◌^◌, ◌<◌, ◌≤◌, List, [], ◌∷◌, ◌++◌, length, map, Option, Some, None}
use Rattle.std.specs.List.{AllByRecursion, flat_map}
use Rattle.gx_bytes.specs.Fields.{le64}
use Rattle.gx_words.specs.PageMap.{PageMap}
use Rattle.gx_pages.specs.declared.error.PageError.{PageError}
use Rattle.gx_pages.specs.declared.error.PageError.TheVariants.{DiskFault, Broken, PageSpace, Memory}
use Rattle.gx_pages.specs.declared.store.Pages.{Ghosts}
use Rattle.gx_pages.specs.Frees.{IsApart, IsFreeList}
use Rattle.gx_slot.specs.Slots.{Slots, Fits, spelling}

-- A page of a level with all that is below it: its number, and its items. At level 0 an item is bytes; above it is bytes, which
-- say what is below, and a page of the level below.
abbrev pub Node : ℕ → Type 0
Node zero = ℕ × List (List ℕ)
Node (suc level) = ℕ × List (List ℕ × Node level)

-- a page of level 0
abbrev pub Leaf : Type 0
Leaf = ℕ × List (List ℕ)

-- the number of a page
abbrev pub page_of : (level : ℕ) → Node level → ℕ
page_of zero node = node.0
page_of (suc level) node = node.0

-- the item that names a page: its bytes, and the page's number in eight bytes
abbrev pub link : List ℕ × ℕ → Option (List ℕ)
link named = Some (named.0 ++ le64 named.1)

-- what the items of a page above level 0 name
abbrev pub named : (level : ℕ) → List (List ℕ × Node level) → List (List ℕ × ℕ)
named level items = map (λ item. (item.0, page_of level item.1)) items

abbrev pub slots : ℕ → ℕ → List (Option (List ℕ)) → Slots
slots kind level items = record { kind = kind; level = level; next = 0; items = items }

-- what stands on a page
abbrev pub slots_of : ℕ → (level : ℕ) → Node level → Slots
slots_of kind zero node = slots kind 0 (map (λ item. Some item) node.1)
slots_of kind (suc level) node = slots kind (suc level) (map link (named level node.1))

-- The page is the spelling of its items.
pub record IsOn (map : PageMap) (kind level : ℕ) (node : Node level) : Type 0 where
  pub some : page_of level node ≢ 0
  pub is : map (page_of level node) ≡ Some (spelling (slots_of kind level node))
  pub fits : Fits (slots_of kind level node)

-- the pages of the level below, in order
abbrev pub children : (level : ℕ) → List (Node (suc level)) → List (Node level)
children level nodes = flat_map (λ node. map (λ item. item.1) node.1) nodes

-- These pages stand, and so do all below them.
abbrev pub Stand : PageMap → ℕ → (level : ℕ) → List (Node level) → Type 0
Stand map kind zero nodes = AllByRecursion (IsOn map kind 0) nodes
Stand map kind (suc level) nodes = AllByRecursion (IsOn map kind (suc level)) nodes × Stand map kind level (children level nodes)

-- the pages of level 0 below these, in order
abbrev pub leaves_of : (level : ℕ) → List (Node level) → List Leaf
leaves_of zero nodes = nodes
leaves_of (suc level) nodes = leaves_of level (children level nodes)

-- the numbers of the pages above level 0, level by level
abbrev pub uppers_of : (level : ℕ) → List (Node level) → List ℕ
uppers_of zero nodes = []
uppers_of (suc level) nodes = map (λ node. node.0) nodes ++ uppers_of level (children level nodes)

-- the numbers of pages of level 0
abbrev pub numbers : List Leaf → List ℕ
numbers leaves = map (λ leaf. leaf.0) leaves

-- the numbers of these pages and of all below them
abbrev pub pages_of : (level : ℕ) → List (Node level) → List ℕ
pages_of level nodes = uppers_of level nodes ++ numbers (leaves_of level nodes)

-- the items of level 0 in order
abbrev pub items_of : List Leaf → List (List ℕ)
items_of leaves = flat_map (λ leaf. leaf.1) leaves

abbrev pub entries_of : (level : ℕ) → List (Node level) → List (List ℕ)
entries_of level nodes = items_of (leaves_of level nodes)

-- A page above level 0 has two items at least.
abbrev pub HaveTwo : (level : ℕ) → List (Node level) → Type 0
HaveTwo zero nodes = Unit {0}
HaveTwo (suc level) nodes = AllByRecursion (λ node. 2 ≤ length node.1) nodes × HaveTwo level (children level nodes)

-- a tree: its level, and its root with all below it
abbrev pub Tree : Type 0
Tree = (level : ℕ) × Node level

-- the footprint
abbrev pub footprint : Tree → List ℕ
footprint tree = pages_of tree.0 (tree.1 ∷ [])

abbrev pub leaves : Tree → List Leaf
leaves tree = leaves_of tree.0 (tree.1 ∷ [])

abbrev pub entries : Tree → List (List ℕ)
entries tree = entries_of tree.0 (tree.1 ∷ [])

-- The map holds the tree of pages of this kind below a root page, on pages below the count, each once. Levels fall by one to 0.
pub record Holds (map : PageMap) (count kind root : ℕ) (tree : Tree) : Type 0 where
  pub stand : Stand map kind tree.0 (tree.1 ∷ [])
  pub begins : page_of tree.0 tree.1 ≡ root
  pub apart : IsApart (footprint tree)
  pub below : AllByRecursion (λ page. page < count) (footprint tree)
  pub two : HaveTwo tree.0 (tree.1 ∷ [])

-- The pages hold the tree, and beside it these free pages.
pub record HoldsBeside {P : Type 0} (g : Ghosts P) (pages : P) (kind root : ℕ) (tree : Tree) (free : List ℕ) : Type 0 where
  pub held : Holds (g.map pages) (g.count pages) kind root tree
  pub frees : IsFreeList (g.map pages) (g.count pages) free
  pub apart : IsApart (footprint tree ++ free)

-- The map holds no such tree.
abbrev pub HoldsNone : PageMap → ℕ → ℕ → ℕ → Type 0
HoldsNone map count kind root = (tree : Tree) → Holds map count kind root tree → ⊥

-- The pages of one level, in order, of which none and none below was seen before.
pub record Row (held : PageMap) (count kind : ℕ) (seen pages : List ℕ) (level : ℕ) (nodes : List (Node level)) : Type 0 where
  pub stand : Stand held kind level nodes
  pub apart : IsApart (seen ++ pages_of level nodes)
  pub below : AllByRecursion (λ page. page < count) (pages_of level nodes)
  pub are : pages ≡ map (page_of level) nodes

-- There is no page of this kind and level.
abbrev pub LacksPage : PageMap → ℕ → ℕ → ℕ → ℕ → Type 0
LacksPage map count page kind level =
    (found : Slots) → map page ≡ Some (spelling found) → Fits found → found.kind ≡ kind → found.level ≡ level → page ≢ 0 → page < count → ⊥

-- Memory was wanted; or the page is broken, and then this holds.
abbrev pub IsBrokenOr : ℕ → Type 0 → PageError → Type 0
IsBrokenOr page holds DiskFault = ⊥
IsBrokenOr page holds (Broken at expected found) = (expected ≢ found) × holds
IsBrokenOr page holds (PageSpace pages) = ⊥
IsBrokenOr page holds Memory = Unit {0}
