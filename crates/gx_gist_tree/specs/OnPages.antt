-- A tree of keys on pages.
use Rattle.std.specs.Prelude.{◌≡◌, ◌≢◌, ℕ, zero, suc, ◌^◌, ◌<◌, List, ◌++◌, map, Some, All, Bool, ◌==◌, IfSome}
use Rattle.std.specs.Option.{option_map}
use Rattle.std.specs.List.{AllByRecursion, list_any}
use Rattle.gx_bytes.specs.Fields.{le16, le64}
use Rattle.gx_words.specs.PageMap.{PageMap}
use Rattle.gx_pages.specs.declared.row.RowRef.{RowRef}
use Rattle.gx_pages.specs.declared.store.Pages.{Ghosts as PageGhosts}
use Rattle.gx_pages.specs.Frees.{IsApart, IsFreeList}
use Rattle.gx_pages.specs.Footprints.{IsOutside}
use Rattle.gx_slot.specs.Slots.{Slots, Fits, item_at, spelling}
use Rattle.gx_gist.specs.declared.class.GistClass.{Ghosts}
use Rattle.gx_gist_tree.specs.Trees.{Node, Entry, entries, page_of, pages_of, IsTree, HasTwoItems}

-- the bytes of an item at level 0, and of one above it
abbrev pub leaf_item : {K : Type 0} → (K → List ℕ) → Entry K → List ℕ
leaf_item bytes e = le64 e.0.number ++ le64 e.0.page ++ le16 e.0.slot ++ bytes e.1

abbrev pub inner_item : {K : Type 0} → (K → List ℕ) → ℕ → K → List ℕ
inner_item bytes child key = le64 child ++ bytes key

-- what stands on a page
abbrev pub slots_of : {K : Type 0} → (K → List ℕ) → (level : ℕ) → Node K level → Slots
slots_of bytes zero node = record { kind = 4; level = 0; next = 0; items = map (option_map (leaf_item bytes)) node.1 }
slots_of {K} bytes (suc level) node = record { kind = 4; level = suc level; next = 0; items = map (λ item. Some (inner_item bytes (page_of K level item.1) item.0)) node.1 }

-- The page is the spelling of its items.
pub record IsOn {K : Type 0} (pages : PageMap) (bytes : K → List ℕ) (level : ℕ) (node : Node K level) : Type 0 where
  pub some : page_of K level node ≢ 0
  pub is : pages (page_of K level node) ≡ Some (spelling (slots_of bytes level node))
  pub fits : Fits (slots_of bytes level node)

-- So is each page below it.
abbrev pub Stands : {K : Type 0} → PageMap → (K → List ℕ) → (level : ℕ) → Node K level → Type 0
Stands map bytes zero node = IsOn map bytes zero node
Stands map bytes (suc level) node = IsOn map bytes (suc level) node × All (λ item. Stands map bytes level item.1) node.1

-- A whole tree: its level, and its root with all that is below it.
abbrev pub Whole : Type 0 → Type 0
Whole K = (level : ℕ) × Node K level

abbrev pub footprint : {K : Type 0} → Whole K → List ℕ
footprint {K} tree = pages_of K tree.0 tree.1

abbrev pub entries_of : {K : Type 0} → Whole K → List (Entry K)
entries_of tree = entries tree.0 tree.1

-- The fields of a row fit theirs.
abbrev pub FitsFields : RowRef → Type 0
FitsFields row = (row.number < 2 ^ 64) × (row.page < 2 ^ 64) × (row.slot < 2 ^ 16)

-- The map holds the tree of a class below a root page, on pages below the count, each once; each row's number is there once.
pub record Holds {C V Q K : Type 0} (g : Ghosts C V Q K) (class : C) (pages : PageMap) (count root : ℕ) (tree : Whole K) : Type 0 where
  pub stands : Stands pages (g.spelling class) tree.0 tree.1
  pub begins : page_of K tree.0 tree.1 ≡ root
  pub apart : IsApart (footprint tree)
  pub below : AllByRecursion (λ page. page < count) (footprint tree)
  pub keys : IsTree (g.valid_value class) (g.valid_key class) (g.leaf_of class) (g.over class) tree.0 tree.1
  pub two : HasTwoItems K tree.0 tree.1
  pub rows : All (λ e. FitsFields e.0) (entries_of tree)
  pub once : IsApart (map (λ e. e.0.number) (entries_of tree))

-- The pages hold the tree, and beside it these free pages.
pub record HoldsBeside {P C V Q K : Type 0} (p : PageGhosts P) (g : Ghosts C V Q K) (class : C) (pages : P) (root : ℕ) (tree : Whole K) (free : List ℕ) : Type 0 where
  pub held : Holds g class (p.map pages) (p.count pages) root tree
  pub frees : IsFreeList (p.map pages) (p.count pages) free
  pub apart : IsApart (footprint tree ++ free)

-- the number is that of one of these rows
abbrev pub is_in : List RowRef → ℕ → Bool
is_in rows number = list_any (λ row. row.number == number) rows

-- What a walk below a page relies on: each page is there as it has to be, below the count, its keys are valid, and numbers fit their fields.
abbrev pub IsSound : {C V Q K : Type 0} → Ghosts C V Q K → C → PageMap → ℕ → (level : ℕ) → Node K level → Type 0
IsSound g class map count zero node = IsOn map (g.spelling class) zero node × All (λ slot. IfSome slot (λ e. g.valid_key class e.1 × FitsFields e.0)) node.1
IsSound {C} {V} {Q} {K} g class map count (suc level) node =
    IsOn map (g.spelling class) (suc level) node × All (λ item. g.valid_key class item.0 × (page_of K level item.1 < count) × IsSound g class map count level item.1) node.1

-- This was read from the root of such pages.
pub record IsRead {C V Q K : Type 0} (g : Ghosts C V Q K) (class : C) (map : PageMap) (count level : ℕ) (node : Node K level) (slots : Slots) (page : ℕ) : Type 0 where
  pub sound : IsSound g class map count level node
  pub is : slots ≡ slots_of (g.spelling class) level node
  pub at : page ≡ page_of K level node

-- A slot of what was read has an item with this key, and such pages below it.
pub record IsBelow {C V Q K : Type 0} (g : Ghosts C V Q K) (class : C) (map : PageMap) (count level : ℕ) (key : K) (node : Node K level) (slots : Slots) (slot : ℕ) : Type 0 where
  pub valid : g.valid_key class key
  pub below : page_of K level node < count
  pub sound : IsSound g class map count level node
  pub is : item_at slots.items slot ≡ Some (inner_item (g.spelling class) (page_of K level node) key)

-- Each of these pages is none of those that were seen, and each stands once.
abbrev pub AreFresh : List ℕ → List ℕ → Type 0
AreFresh seen pages = AllByRecursion (λ page. IsOutside page seen) pages × IsApart pages
