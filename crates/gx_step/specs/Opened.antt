-- The pages of a database while a statement works on them.
use Rattle.std.specs.Prelude.{◌≡◌, ℕ, List, [], ◌++◌}
use Rattle.gx_pages.specs.declared.store.Pages.{Ghosts}
use Rattle.gx_pages.specs.Frees.{IsApart, IsFreeList}
use Rattle.gx_catalog.specs.Catalogs.{Directory, HoldsCatalog, Stores, chain_on}
use Rattle.gx_catalog.specs.declared.info.IndexInfo.{IndexInfo}
use Rattle.gx_catalog.specs.declared.info.TableInfo.{TableInfo}
use Rattle.gx_database.specs.Heaps.{Stored}
use Rattle.gx_database.specs.Parts.{HasParts}
use Rattle.gx_database.specs.Standing.{AreStored, HasHeader}
use Rattle.gx_model.specs.Database.{Database, IsValid}

-- The pages are made of a header, the catalog that is in memory, which has no index, these heaps, and free pages.
pub record Holds {P : Type 0} (g : Ghosts P) (pages : P) (catalog : Directory) (heaps : List Stored) : Type 0 where
  pub header : HasHeader (g.map pages) (g.count pages)
  pub feet : List ℕ
  pub free : List ℕ
  pub parts : HasParts (g.map pages) (g.count pages) catalog.tables feet heaps free
  pub chain : catalog.chain ≡ chain_on feet
  pub bare : catalog.indexes ≡ []

-- The pages are made of the catalog and the heaps of the tables of this database.
pub record Opened {P : Type 0} (g : Ghosts P) (pages : P) (db : Database) (catalog : Directory) : Type 0 where
  pub valid : IsValid db
  pub heaps : List Stored
  pub holds : Holds g pages catalog heaps
  pub tables : AreStored db.tables catalog.tables heaps

-- The catalog is the one that the pages had, and they hold it, on whatever pages it stands.
abbrev pub IsLoaded : {P : Type 0} → Ghosts P → P → P → Directory → Type 0
IsLoaded g old new catalog = (tables : List TableInfo) (indexes : List IndexInfo) (feet free : List ℕ) → Stores (g.map old) (g.count old) tables indexes feet → IsFreeList (g.map old) (g.count old) free → IsApart (feet ++ free)
    → (catalog.tables ≡ tables) × (catalog.indexes ≡ indexes) × HoldsCatalog g new catalog feet free
