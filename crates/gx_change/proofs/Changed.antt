-- A table whose heap changes, goes or comes: the pages stand for the database with it.
use Rattle.std.proofs.Common.{◌≡◌, ℕ, List, [], ◌∷◌, ◌++◌, map, refl, sym, ◌∙◌, ap, subst}
use Rattle.gx_pages.specs.declared.store.Pages.{Ghosts}
use Rattle.gx_pages.specs.Footprints.{KeepsPages}
use Rattle.gx_heap.specs.declared.heap.Heap.{Heap}
use Rattle.gx_heap.specs.Heaps.{AreUsed, HoldsHeap, Row}
use Rattle.gx_catalog.specs.declared.info.TableInfo.{TableInfo}
use Rattle.gx_catalog.specs.Catalogs.{Directory, HoldsCatalog, with_heap, without_table as without_info}
use Rattle.gx_catalog.specs.Validity as catalogs
use Rattle.gx_model.specs.Database.{Database, Table, IsValid, with_table, without_table}
use Rattle.gx_database.specs.Heaps.{Stored}
use Rattle.gx_database.specs.Standing.{AreStored, IsStored, StandsFor}
use Rattle.gx_database.proofs.Exchange.{added, dropped, exchanged, with_heap_mid, with_table_at, without_mid}
use Rattle.gx_engine.specs.Vacuumed.{IsVacuumed}
use Rattle.gx_step.specs.Opened.{Holds, Opened}
use Rattle.gx_step.proofs.Loading.{IsTold}
use Rattle.gx_change.proofs.Frame.{HasTable, catalog_after, catalog_there, heap_added, heap_changed, heap_gone, stands}

module _ {P : Type 0} (g : Ghosts P) where
  -- the catalog's tables, with the table that was found
  tables_at : (pages : P) (db : Database) (catalog : Directory) (name : List ℕ) (info : TableInfo) (t : HasTable g pages db catalog name info)
      → catalog.tables ≡ t.place.infos_before ++ info ∷ t.place.infos_behind
  tables_at pages db catalog name info t = t.place.infos ∙ ap (λ (i : TableInfo). t.place.infos_before ++ i ∷ t.place.infos_behind) t.is

  numbers_at : (pages : P) (db : Database) (catalog : Directory) (name : List ℕ) (info : TableInfo) (t : HasTable g pages db catalog name info)
      → catalogs.AreDistinct (map (λ (i : TableInfo). i.number) (t.place.infos_before ++ info ∷ t.place.infos_behind))
  numbers_at pages db catalog name info t =
      subst (λ (l : List TableInfo). catalogs.AreDistinct (map (λ (i : TableInfo). i.number) l)) (tables_at pages db catalog name info t) t.holds.parts.catalog.valid.numbers

  -- the same table in its place
  pub same_table : (pages : P) (db : Database) (catalog : Directory) (name : List ℕ) (info : TableInfo) (t : HasTable g pages db catalog name info) → info.name ≡ name → with_table db name t.table ≡ db
  same_table pages db catalog name info t named =
      ap (λ (ts : List Table). record db { tables = ts }) (with_table_at db name t.table t.table catalog.tables t.stored t.place t.valid.names (sym t.here.name ∙ named) ∙ sym t.place.tables)

  -- Another heap: the pages hold the heaps with it, and the catalog and the database have it at the table's place.
  pub record Changes (last : P) (next : Directory) (before : List Stored) (stored : Stored) (behind : List Stored) (infos_before : List TableInfo) (changed : TableInfo) (infos_behind : List TableInfo) (db : Database) : Type 0 where
    pub holds : Holds g last next (before ++ stored ∷ behind)
    pub infos : next.tables ≡ infos_before ++ changed ∷ infos_behind
    pub tables : AreStored db.tables next.tables (before ++ stored ∷ behind)

  pub heap_exchanged : (first mid last : P) (db : Database) (catalog next : Directory) (name : List ℕ) (info : TableInfo) (t : HasTable g first db catalog name info) → info.name ≡ name
      → IsTold g mid → IsTold g last → (heap : Heap) (rows : List Row) (later rest : List ℕ) (new : Table) → HoldsHeap g mid heap rows later rest
      → KeepsPages g first mid t.place.stored.feet t.holds.free later rest
      → ((feet free : List ℕ) → HoldsCatalog g mid catalog feet free → HoldsCatalog g last next feet free × KeepsPages g mid last feet free feet free)
      → next.tables ≡ with_heap info.number heap catalog.tables → next.indexes ≡ catalog.indexes
      → IsStored new (record info { heap = heap }) (record { heap = heap; rows = rows; feet = later })
      → Changes last next t.place.stored_before (record { heap = heap; rows = rows; feet = later }) t.place.stored_behind t.place.infos_before (record info { heap = heap }) t.place.infos_behind (with_table db name new)
  heap_exchanged first mid last db catalog next name info t named told_mid told heap rows later rest new held keeps set tables indexes is =
      let stored : Stored = record { heap = heap; rows = rows; feet = later } in
      let changed : TableInfo = record info { heap = heap } in
      let heaps : List Stored = t.place.stored_before ++ stored ∷ t.place.stored_behind in
      let h : Holds g mid catalog heaps = heap_changed g first mid catalog t.place.stored_before t.place.stored stored t.place.stored_behind rest t.holds told_mid held keeps in
      let written = set h.feet h.free (catalog_there g mid catalog heaps h) in
      let infos : next.tables ≡ t.place.infos_before ++ changed ∷ t.place.infos_behind =
      tables ∙ ap (λ (l : List TableInfo). with_heap info.number heap l) (tables_at first db catalog name info t)
      ∙ with_heap_mid t.place.infos_before info t.place.infos_behind heap (numbers_at first db catalog name info t) in
      let all : AreStored (with_table db name new).tables (t.place.infos_before ++ changed ∷ t.place.infos_behind) heaps =
      exchanged db name t.table new catalog.tables t.stored t.place changed stored t.valid.names (sym t.here.name ∙ named) is in
      record {
        holds = catalog_after g mid last catalog next heaps h.feet h.free h told written.0 written.1 indexes;
        infos = infos;
        tables = subst (λ (l : List TableInfo). AreStored (with_table db name new).tables l heaps) (sym infos) all;
      }

  pub table_changed : (first mid last : P) (db : Database) (catalog next : Directory) (name : List ℕ) (info : TableInfo) (t : HasTable g first db catalog name info) → info.name ≡ name
      → IsTold g mid → IsTold g last → (heap : Heap) (rows : List Row) (later rest : List ℕ) (new : Table) → HoldsHeap g mid heap rows later rest
      → KeepsPages g first mid t.place.stored.feet t.holds.free later rest
      → ((feet free : List ℕ) → HoldsCatalog g mid catalog feet free → HoldsCatalog g last next feet free × KeepsPages g mid last feet free feet free)
      → next.tables ≡ with_heap info.number heap catalog.tables → next.indexes ≡ catalog.indexes
      → IsStored new (record info { heap = heap }) (record { heap = heap; rows = rows; feet = later }) → IsValid (with_table db name new) → StandsFor (g.map last) (with_table db name new)
  table_changed first mid last db catalog next name info t named told_mid told heap rows later rest new held keeps set tables indexes is valid =
      let c = heap_exchanged first mid last db catalog next name info t named told_mid told heap rows later rest new held keeps set tables indexes is in
      stands g last next (t.place.stored_before ++ record { heap = heap; rows = rows; feet = later } ∷ t.place.stored_behind) (with_table db name new) c.holds c.tables valid told

  -- Another heap with the same rows, of which each page but the last one has a row.
  pub table_vacuumed : (first mid last : P) (db : Database) (catalog next : Directory) (name : List ℕ) (info : TableInfo) (t : HasTable g first db catalog name info) → info.name ≡ name
      → IsTold g mid → IsTold g last → (heap : Heap) (rows : List Row) (later rest : List ℕ) → HoldsHeap g mid heap rows later rest
      → KeepsPages g first mid t.place.stored.feet t.holds.free later rest
      → ((feet free : List ℕ) → HoldsCatalog g mid catalog feet free → HoldsCatalog g last next feet free × KeepsPages g mid last feet free feet free)
      → next.tables ≡ with_heap info.number heap catalog.tables → next.indexes ≡ catalog.indexes
      → IsStored t.table (record info { heap = heap }) (record { heap = heap; rows = rows; feet = later }) → AreUsed later rows → IsVacuumed (g.map last) db name
  table_vacuumed first mid last db catalog next name info t named told_mid told heap rows later rest held keeps set tables indexes is used =
      let stored : Stored = record { heap = heap; rows = rows; feet = later } in
      let changed : TableInfo = record info { heap = heap } in
      let heaps : List Stored = t.place.stored_before ++ stored ∷ t.place.stored_behind in
      let c = heap_exchanged first mid last db catalog next name info t named told_mid told heap rows later rest t.table held keeps set tables indexes is in
      record {
        stands = record {
          valid = t.valid;
          count = g.count last;
          header = c.holds.header;
          ends = told.ends;
          infos = next.tables;
          feet = c.holds.feet;
          stored = heaps;
          free = c.holds.free;
          parts = c.holds.parts;
          tables = subst (λ (d : Database). AreStored d.tables next.tables heaps) (same_table first db catalog name info t named) c.tables;
        };
        table = t.table;
        place = record {
          tables_before = t.place.tables_before;
          tables_behind = t.place.tables_behind;
          infos_before = t.place.infos_before;
          info = changed;
          infos_behind = t.place.infos_behind;
          stored_before = t.place.stored_before;
          stored = stored;
          stored_behind = t.place.stored_behind;
          tables = t.place.tables;
          infos = c.infos;
          heaps = refl;
          before = t.place.before;
          here = is;
          behind = t.place.behind;
          others = t.place.others;
        };
        used = used;
      }

  -- No heap.
  pub table_dropped : (first mid last : P) (db : Database) (catalog next : Directory) (name : List ℕ) (info : TableInfo) (t : HasTable g first db catalog name info) → info.name ≡ name
      → IsTold g mid → IsTold g last → (rest : List ℕ) → KeepsPages g first mid t.place.stored.feet t.holds.free [] rest
      → ((feet free : List ℕ) → HoldsCatalog g mid catalog feet free → (later left : List ℕ) × HoldsCatalog g last next later left × KeepsPages g mid last feet free later left)
      → next.tables ≡ without_info info.number catalog.tables → next.indexes ≡ catalog.indexes → IsValid (without_table db name) → StandsFor (g.map last) (without_table db name)
  table_dropped first mid last db catalog next name info t named told_mid told rest keeps drops tables indexes valid =
      let heaps : List Stored = t.place.stored_before ++ t.place.stored_behind in
      let h : Holds g mid catalog heaps = heap_gone g first mid catalog t.place.stored_before t.place.stored t.place.stored_behind rest t.holds told_mid keeps in
      let written = drops h.feet h.free (catalog_there g mid catalog heaps h) in
      let after : Holds g last next heaps = catalog_after g mid last catalog next heaps written.0 written.1 h told written.2 written.3 indexes in
      let infos : next.tables ≡ t.place.infos_before ++ t.place.infos_behind =
      tables ∙ ap (λ (l : List TableInfo). without_info info.number l) (tables_at first db catalog name info t)
      ∙ without_mid t.place.infos_before info t.place.infos_behind (numbers_at first db catalog name info t) in
      let all : AreStored (without_table db name).tables (t.place.infos_before ++ t.place.infos_behind) heaps =
      dropped db name t.table catalog.tables t.stored t.place t.valid.names (sym t.here.name ∙ named) in
      stands g last next heaps (without_table db name) after (subst (λ (l : List TableInfo). AreStored (without_table db name).tables l heaps) (sym infos) all) valid told

  -- One more.
  pub table_added : (first mid last : P) (db : Database) (catalog next : Directory) (o : Opened g first db catalog) → IsTold g mid → IsTold g last → (info : TableInfo) (new : Table) (feet rest : List ℕ)
      → HoldsHeap g mid info.heap [] feet rest → KeepsPages g first mid [] o.holds.free feet rest
      → ((feet free : List ℕ) → HoldsCatalog g mid catalog feet free → (later left : List ℕ) × HoldsCatalog g last next later left × KeepsPages g mid last feet free later left)
      → next.tables ≡ catalog.tables ++ info ∷ [] → next.indexes ≡ catalog.indexes
      → IsStored new info (record { heap = info.heap; rows = []; feet = feet }) → IsValid (record db { tables = db.tables ++ new ∷ [] }) → StandsFor (g.map last) (record db { tables = db.tables ++ new ∷ [] })
  table_added first mid last db catalog next o told_mid told info new feet rest held keeps adds tables indexes is valid =
      let stored : Stored = record { heap = info.heap; rows = []; feet = feet } in
      let heaps : List Stored = o.heaps ++ stored ∷ [] in
      let h : Holds g mid catalog heaps = heap_added g first mid catalog o.heaps stored rest o.holds told_mid held keeps in
      let written = adds h.feet h.free (catalog_there g mid catalog heaps h) in
      let after : Holds g last next heaps = catalog_after g mid last catalog next heaps written.0 written.1 h told written.2 written.3 indexes in
      let all : AreStored (db.tables ++ new ∷ []) (catalog.tables ++ info ∷ []) heaps = added db.tables catalog.tables o.heaps new info stored o.tables is in
      stands g last next heaps (record db { tables = db.tables ++ new ∷ [] }) after (subst (λ (l : List TableInfo). AreStored (db.tables ++ new ∷ []) l heaps) (sym tables) all) valid told
