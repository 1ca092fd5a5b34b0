-- A GIN index on pages: an entry tree of keys, and the rows of each key in its entry or in a posting tree.
use Rattle.std.specs.Prelude.{◌≡◌, ◌≢◌, ◌⊎◌, ℕ, ◌≤◌, if◌then◌else◌, List, [], ◌∷◌, ◌++◌, length, Some, None}
use Rattle.std.specs.Str.{bytes_eq}
use Rattle.gx_bytes.specs.Fields.{le64}
use Rattle.gx_words.specs.PageMap.{PageMap}
use Rattle.gx_pages.specs.declared.row.RowRef.{RowRef}
use Rattle.gx_pages.specs.declared.store.Pages.{Ghosts}
use Rattle.gx_pages.specs.Frees.{IsApart, IsFreeList}
use Rattle.gx_posting.specs.Postings.{Spells}
use Rattle.gx_posting_tree.specs.PostingTrees.{HoldsList}
use Rattle.gx_gin_entry.specs.EntryTrees.{Entry, HoldsMap, IsFound}
use Rattle.gx_gin_scan.specs.Lists.{Lists}

-- byte 0 and a posting list of at most 512 bytes, on no pages of its own
pub record IsInline (posting : List ℕ) (rows : List RowRef) (feet : List ℕ) : Type 0 where
  pub list : List ℕ
  pub is : posting ≡ 0 ∷ list
  pub short : length list ≤ 512
  pub spells : Spells list rows
  pub stand : feet ≡ []

-- byte 1 and the root page of a posting tree, on its pages
pub record IsTree (map_of : PageMap) (count : ℕ) (posting : List ℕ) (rows : List RowRef) (feet : List ℕ) : Type 0 where
  pub root : ℕ
  pub is : posting ≡ 1 ∷ le64 root
  pub held : HoldsList map_of count root rows feet

-- The posting stands for these rows, on these pages.
abbrev pub IsPosting : PageMap → ℕ → List ℕ → List RowRef → List ℕ → Type 0
IsPosting map_of count posting rows feet = IsInline posting rows feet ⊎ IsTree map_of count posting rows feet

-- The key has a posting of this list, or none, and the list is empty.
abbrev pub HasList : List Entry → List ℕ → List ℕ → Type 0
HasList entries key list = IsFound entries key (Some (0 ∷ list)) ⊎ (IsFound entries key None × (list ≡ []))

-- Each entry has a key with its rows, of which there are some, on pages of its own.
abbrev pub AreHeld : PageMap → ℕ → List Entry → Lists → List ℕ → Type 0
AreHeld map_of count [] [] feet = feet ≡ []
AreHeld map_of count [] (list ∷ lists) feet = ⊥
AreHeld map_of count (entry ∷ entries) [] feet = ⊥
AreHeld map_of count (entry ∷ entries) (list ∷ lists) feet =
    (own : List ℕ) × (others : List ℕ) × (feet ≡ own ++ others) × (entry.0 ≡ list.0) × (list.1 ≢ []) × IsPosting map_of count entry.1 list.1 own × AreHeld map_of count entries lists others

-- the pages that the list of a key takes outside of its entry
abbrev pub pages_under : (map_of : PageMap) (count : ℕ) (entries : List Entry) (lists : Lists) (feet : List ℕ) → AreHeld map_of count entries lists feet → List ℕ → List ℕ
pages_under map_of count [] lists feet are key = []
pages_under map_of count (entry ∷ entries) [] feet are key = []
pages_under map_of count (entry ∷ entries) (list ∷ lists) feet are key = if bytes_eq list.0 key then are.0 else pages_under map_of count entries lists are.1 are.6 key

-- The map of pages holds the index with these lists below a root page, on these pages: those of the entry tree, and those of the posting trees.
pub record HoldsLists (map_of : PageMap) (count root : ℕ) (lists : Lists) (feet : List ℕ) : Type 0 where
  pub entries : List Entry
  pub keys : List ℕ
  pub trees : List ℕ
  pub held : HoldsMap map_of count root entries keys
  pub are : AreHeld map_of count entries lists trees
  pub stand : feet ≡ keys ++ trees

-- The pages hold it, and beside it these free pages.
pub record HoldsGin {P : Type 0} (g : Ghosts P) (pages : P) (root : ℕ) (lists : Lists) (feet free : List ℕ) : Type 0 where
  pub held : HoldsLists (g.map pages) (g.count pages) root lists feet
  pub frees : IsFreeList (g.map pages) (g.count pages) free
  pub apart : IsApart (feet ++ free)

-- The map of pages holds no index below this root page.
abbrev pub HoldsNoLists : PageMap → ℕ → ℕ → Type 0
HoldsNoLists map_of count root = (lists : Lists) (feet : List ℕ) → HoldsLists map_of count root lists feet → ⊥

-- The pages hold none, or no free pages beside it.
abbrev pub HoldsNoGin : {P : Type 0} → Ghosts P → P → ℕ → Type 0
HoldsNoGin g pages root = (lists : Lists) (feet free : List ℕ) → HoldsGin g pages root lists feet free → ⊥
