-- A posting tree: rows by rising numbers, in posting lists on the pages of a tree.
use Rattle.std.specs.Prelude.{◌≡◌, ◌==◌, not, ℕ, ◌^◌, ◌<◌, ◌≤◌, List, [], ◌∷◌, ◌++◌, length, map, take, filter, Option, Some, None}
use Rattle.std.specs.List.{AllByRecursion, list_any}
use Rattle.gx_bytes.specs.Fields.{le64, of64}
use Rattle.gx_words.specs.PageMap.{PageMap}
use Rattle.gx_pages.specs.declared.row.RowRef.{RowRef}
use Rattle.gx_pages.specs.declared.store.Pages.{Ghosts}
use Rattle.gx_pages.specs.Frees.{IsApart, IsFreeList}
use Rattle.gx_pages.specs.Rows.{AreBelow, IsRising}
use Rattle.gx_posting.specs.Postings.{Spells}
use Rattle.gx_slot.specs.Slots.{Slots}
use Rattle.gx_tree.specs.Orders.{IsKeyed, Order}
use Rattle.gx_tree.specs.Trees.{Holds, Tree, entries, footprint, slots}

-- the rows whose number is none of these
abbrev pub without : List RowRef → List RowRef → List RowRef
without gone rows = filter (λ row. not (list_any (λ other. other.number == row.number) gone)) rows

-- Each item is a posting list of one row at least, in at most 512 bytes; one behind another they have these rows.
abbrev pub AreSpelled : List (List ℕ) → List RowRef → Type 0
AreSpelled [] rows = rows ≡ []
AreSpelled (item ∷ items) rows =
    (list : List RowRef) × (rest : List RowRef) × (rows ≡ list ++ rest) × (0 < length list) × (length item ≤ 512) × Spells item list × AreSpelled items rest

-- the number of the row is at least that of a key, and below that of another one, where there are such keys
abbrev pub IsFromKey : Option (List ℕ) → RowRef → Type 0
IsFromKey None row = Unit {0}
IsFromKey (Some key) row = of64 key ≤ row.number

abbrev pub IsUnderKey : Option (List ℕ) → RowRef → Type 0
IsUnderKey None row = Unit {0}
IsUnderKey (Some key) row = row.number < of64 key

-- These lists have rows that rise, from the number of one key on and below that of another.
pub record HaveRows (least end : Option (List ℕ)) (items : List (List ℕ)) : Type 0 where
  pub rows : List RowRef
  pub spelled : AreSpelled items rows
  pub rising : IsRising rows
  pub from : AllByRecursion (IsFromKey least) rows
  pub under : AllByRecursion (IsUnderKey end) rows

-- A key is a number in eight bytes.
pub record IsNumber (key : List ℕ) : Type 0 where
  pub number : ℕ
  pub fits : number < 2 ^ 64
  pub is : key ≡ le64 number

-- The key is the number of the first row of a list.
pub record IsFirst (item key : List ℕ) : Type 0 where
  pub row : RowRef
  pub rows : List RowRef
  pub spells : Spells item (row ∷ rows)
  pub is : key ≡ le64 row.number

-- the order of numbers
abbrev pub by_number : Order
by_number = record { IsKey = IsNumber; Less = λ a b. of64 a < of64 b; AtMost = λ a b. of64 a ≤ of64 b; AreIn = HaveRows; IsLeast = IsFirst }

-- lists of which all rows stand before this one
abbrev pub Allows : RowRef → List ℕ → Type 0
Allows row item = (rows : List RowRef) → Spells item rows → AreBelow rows row.number

-- The row comes behind all rows of some lists.
abbrev pub Appends : RowRef → List (List ℕ) → List (List ℕ) → Type 0
Appends row was is = (rows : List RowRef) → AreSpelled was rows → AreSpelled is (rows ++ row ∷ [])

-- An item of a page above level 0 has a number in eight bytes: it is above every row number before it, and at most every one below it.
-- The map holds the posting tree with these rows below a root page, on these pages.
pub record HoldsList (map : PageMap) (count root : ℕ) (rows : List RowRef) (feet : List ℕ) : Type 0 where
  pub tree : Tree
  pub held : Holds map count 6 root tree
  pub stand : feet ≡ footprint tree
  pub spelled : AreSpelled (entries tree) rows
  pub rising : IsRising rows
  pub keyed : IsKeyed by_number tree.0 None None tree.1

-- The pages hold it, and beside it these free pages.
pub record HoldsRows {P : Type 0} (g : Ghosts P) (pages : P) (root : ℕ) (rows : List RowRef) (feet free : List ℕ) : Type 0 where
  pub held : HoldsList (g.map pages) (g.count pages) root rows feet
  pub frees : IsFreeList (g.map pages) (g.count pages) free
  pub apart : IsApart (feet ++ free)

-- The map holds no posting tree below this root page.
abbrev pub HoldsNoList : PageMap → ℕ → ℕ → Type 0
HoldsNoList map count root = (rows : List RowRef) (feet : List ℕ) → HoldsList map count root rows feet → ⊥

-- The pages hold none, or no free pages beside it.
abbrev pub HoldsNoRows : {P : Type 0} → Ghosts P → P → ℕ → Type 0
HoldsNoRows g pages root = (rows : List RowRef) (feet free : List ℕ) → HoldsRows g pages root rows feet free → ⊥

-- A page of level 0 has the first rows, so many of them.
pub record HasFirst (rows : List RowRef) (page : Slots) (count : ℕ) : Type 0 where
  pub items : List (List ℕ)
  pub is : page ≡ slots 6 0 (map (λ item. Some item) items)
  pub spelled : AreSpelled items (take count rows)
  pub within : count ≤ length rows
