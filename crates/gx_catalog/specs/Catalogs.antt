-- A catalog on pages: a chain that spells the tables and the indexes of a database.
use Rattle.std.specs.Prelude.{◌≡◌, ℕ, ◌<◌, ◌==◌, not, bytes_eq, if◌then◌else◌, List, [], ◌∷◌, ◌++◌, length, map, filter}
use Rattle.std.specs.List.{AllByRecursion}
use Rattle.gx_words.specs.PageMap.{PageMap}
use Rattle.gx_pages.specs.declared.store.Pages.{Ghosts}
use Rattle.gx_pages.specs.Frees.{IsApart, IsFreeList}
use Rattle.gx_chain.specs.declared.chain.Chain.{Chain}
use Rattle.gx_chain.specs.Chains.{Link, AreLinked, entries_of, first_of, pages_of}
use Rattle.gx_heap.specs.declared.heap.Heap.{Heap}
use Rattle.gx_catalog.specs.declared.info.TableInfo.{TableInfo}
use Rattle.gx_catalog.specs.declared.info.IndexInfo.{IndexInfo}
use Rattle.gx_catalog.specs.Items.{Spells}
use Rattle.gx_catalog.specs.Validity.{AreCatalog}

-- What a catalog in memory is seen as: the chain that it stands on, and the tables and the indexes in the order in which
-- they were made.
pub record Directory : Type 0 where
  pub chain : Chain
  pub tables : List TableInfo
  pub indexes : List IndexInfo

-- The map stores the catalog with these tables and indexes on these pages in the order of the chain: the chain of kind 3
-- that begins at page 1 spells them.
pub record Stores (pages : PageMap) (count : ℕ) (tables : List TableInfo) (indexes : List IndexInfo) (feet : List ℕ) : Type 0 where
  pub links : List Link
  pub linked : AreLinked pages 3 links
  pub first : first_of links ≡ 1
  pub below : AllByRecursion (λ page. page < count) feet
  pub stand : feet ≡ pages_of links
  pub spelled : Spells (entries_of links) tables indexes
  pub valid : AreCatalog tables indexes

-- the map stores no catalog
abbrev pub StoresNone : PageMap → ℕ → Type 0
StoresNone map count = (tables : List TableInfo) (indexes : List IndexInfo) (feet : List ℕ) → Stores map count tables indexes feet → ⊥

-- the last of these pages, or the one that comes where there is none
abbrev pub last_page : ℕ → List ℕ → ℕ
last_page before [] = before
last_page before (page ∷ pages) = last_page page pages

-- the chain on these pages
abbrev pub chain_on : List ℕ → Chain
chain_on feet = record { first = 1; last = last_page 0 feet; pages = length feet }

-- The pages hold the catalog on these pages, and beside it these free pages.
pub record HoldsCatalog {P : Type 0} (g : Ghosts P) (pages : P) (catalog : Directory) (feet free : List ℕ) : Type 0 where
  pub stored : Stores (g.map pages) (g.count pages) catalog.tables catalog.indexes feet
  pub chain : catalog.chain ≡ chain_on feet
  pub frees : IsFreeList (g.map pages) (g.count pages) free
  pub apart : IsApart (feet ++ free)

-- the pages hold no such catalog, or no free pages beside it
abbrev pub HoldsNoCatalog : {P : Type 0} → Ghosts P → P → Directory → Type 0
HoldsNoCatalog g pages catalog = (feet free : List ℕ) → HoldsCatalog g pages catalog feet free → ⊥

-- the tables with another heap for the one of this number
abbrev pub with_heap : ℕ → Heap → List TableInfo → List TableInfo
with_heap number heap tables = map (λ (t : TableInfo). if t.number == number then record t { heap = heap } else t) tables

-- the tables without the one of this number
abbrev pub without_table : ℕ → List TableInfo → List TableInfo
without_table number tables = filter (λ t. not (t.number == number)) tables

-- the indexes with another root of NULL rows for the one of this name
abbrev pub with_nulls : List ℕ → ℕ → List IndexInfo → List IndexInfo
with_nulls name nulls indexes = map (λ (i : IndexInfo). if bytes_eq i.name name then record i { nulls = nulls } else i) indexes

-- the indexes without the one of this name
abbrev pub without_index : List ℕ → List IndexInfo → List IndexInfo
without_index name indexes = filter (λ i. not (bytes_eq i.name name)) indexes
