-- A table of a database on the pages that stand for the database.
use Rattle.std.proofs.Common.{◌≡◌, ℕ, ◌^◌, ◌≤◌, List, [], ◌∷◌, ◌++◌, map, refl, sym, ◌∙◌, ap, subst}
use Rattle.std.specs.Prelude.{IfSome}
use Rattle.std.specs.List.{AllByRecursion}
use Rattle.gx_pages.specs.declared.store.Pages.{Ghosts}
use Rattle.gx_pages.specs.Frees.{HasCount, IsApart, IsFreeList}
use Rattle.gx_pages.proofs.Footprints.{all_right}
use Rattle.gx_heap.specs.declared.heap.Heap.{Heap}
use Rattle.gx_heap.specs.Heaps.{HoldsHeap}
use Rattle.gx_heap.proofs.Finds.{heap_same}
use Rattle.gx_catalog.specs.Catalogs.{Stores, chain_on}
use Rattle.gx_catalog.specs.declared.info.IndexInfo.{IndexInfo}
use Rattle.gx_catalog.specs.declared.info.TableInfo.{TableInfo}
use Rattle.gx_model.specs.Database.{Database, Table, IsTable}
use Rattle.gx_database.specs.Heaps.{Stored}
use Rattle.gx_database.specs.Parts.{HasParts}
use Rattle.gx_database.specs.Places.{Place}
use Rattle.gx_database.specs.Standing.{IsStored, StandsFor}
use Rattle.gx_database.proofs.Views.{catalog_held, heap_held, one_count}
use Rattle.gx_query.specs.Tables.{HoldsTable}

module _ {P : Type 0} (g : Ghosts P) (pages : P) (db : Database) (stands : StandsFor (g.map pages) db) (counted : IfSome (g.map pages 0) (λ header. HasCount header (g.count pages))) (bounded : g.count pages ≤ 2 ^ 50) where
  pub same_count : stands.count ≡ g.count pages
  same_count = one_count (g.map pages) stands.count (g.count pages) stands.header counted bounded

  pub parts : HasParts (g.map pages) (g.count pages) stands.infos stands.feet stands.stored stands.free
  parts = subst (λ (n : ℕ). HasParts (g.map pages) n stands.infos stands.feet stands.stored stands.free) same_count stands.parts

  pub feet_apart : IsApart (stands.feet ++ stands.free)
  feet_apart = (catalog_held g pages (record { chain = chain_on stands.feet; tables = stands.infos; indexes = [] }) stands.infos stands.feet stands.stored stands.free parts refl refl refl).apart

  -- the catalog that is read is the database's
  pub same_tables : (tables : List TableInfo)
      → ((others : List TableInfo) (indexes : List IndexInfo) (feet free : List ℕ) → Stores (g.map pages) (g.count pages) others indexes feet → IsFreeList (g.map pages) (g.count pages) free → IsApart (feet ++ free) → tables ≡ others)
      → tables ≡ stands.infos
  same_tables tables held = held stands.infos [] stands.feet stands.free parts.catalog parts.frees feet_apart

  -- a table of the database, at its place
  unfoldable pub table_held : (name : List ℕ) (info : TableInfo) (t : Table) (place : Place name t db.tables stands.infos stands.stored) → place.info ≡ info → HoldsTable g pages info t
  table_held name info t place is =
      let here : IsStored t info place.stored = subst (λ (i : TableInfo). IsStored t i place.stored) is place.here in
      let there : HasParts (g.map pages) (g.count pages) stands.infos stands.feet (place.stored_before ++ place.stored ∷ place.stored_behind) stands.free =
      subst (λ (l : List Stored). HasParts (g.map pages) (g.count pages) stands.infos stands.feet l stands.free) place.heaps parts in
      let held = heap_held g pages stands.infos stands.feet place.stored_before place.stored place.stored_behind stands.free there in
      record {
        rows = place.stored.rows;
        feet = place.stored.feet;
        free = stands.free;
        held = subst (λ (h : Heap). HoldsHeap g pages h place.stored.rows place.stored.feet stands.free) (sym here.heap) held;
        stored = record { name = here.name; columns = here.columns; heap = refl; next = ap (λ (h : Heap). h.next) here.heap ∙ here.next; rows = here.rows };
        valid = (all_right IsTable place.tables_before (t ∷ place.tables_behind) (subst (λ (l : List Table). AllByRecursion IsTable l) place.tables stands.valid.tables)).0;
      }

-- where nothing was changed, the table is held as before
pub table_same : {P : Type 0} (g : Ghosts P) (old new : P) (info : TableInfo) (t : Table) → g.map new ≡ g.map old → g.count new ≡ g.count old → HoldsTable g old info t → HoldsTable g new info t
table_same g old new info t map count table = record {
  rows = table.rows;
  feet = table.feet;
  free = table.free;
  held = heap_same g old new info.heap table.rows table.feet table.free map count table.held;
  stored = table.stored;
  valid = table.valid;
}
