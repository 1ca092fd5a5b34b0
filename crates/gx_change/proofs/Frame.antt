-- Pages that stand for a database, seen by their parts, and back.
use Rattle.std.proofs.Common.{◌≡◌, ℕ, ◌≤◌, List, [], ◌∷◌, ◌++◌, Some, refl, sym, ◌∙◌, subst, append_assoc, append-nil, arith}
use Rattle.gx_pages.specs.declared.store.Pages.{Ghosts}
use Rattle.gx_pages.specs.Footprints.{KeepsPages}
use Rattle.gx_pages.specs.Frees.{KeepsHeader}
use Rattle.gx_heap.specs.declared.heap.Heap.{Heap}
use Rattle.gx_heap.specs.Heaps.{HoldsHeap}
use Rattle.gx_catalog.specs.declared.info.TableInfo.{TableInfo}
use Rattle.gx_catalog.specs.declared.info.IndexInfo.{IndexInfo}
use Rattle.gx_catalog.specs.Catalogs.{Directory, HoldsCatalog, Stores}
use Rattle.gx_catalog.specs.Validity.{table_named as info_named}
use Rattle.gx_model.specs.Database.{Database, Table, IsValid, table_named}
use Rattle.gx_database.specs.Heaps.{Stored, StoresHeap}
use Rattle.gx_database.specs.Parts.{HasParts, feet_of}
use Rattle.gx_database.specs.Places.{Place}
use Rattle.gx_database.specs.Standing.{AreStored, HasHeader, IsStored, StandsFor}
use Rattle.gx_database.proofs.Changes.{catalog_changed, heaps_changed}
use Rattle.gx_database.proofs.Views.{catalog_held, heap_held, heap_stored, header_stays}
use Rattle.gx_step.specs.Opened.{Holds, Opened}
use Rattle.gx_step.proofs.Found.{FindsTables}
use Rattle.gx_step.proofs.Loading.{IsTold}

module _ {P : Type 0} (g : Ghosts P) where
  pub stands : (pages : P) (catalog : Directory) (heaps : List Stored) (db : Database) → Holds g pages catalog heaps → AreStored db.tables catalog.tables heaps → IsValid db → IsTold g pages
      → StandsFor (g.map pages) db
  stands pages catalog heaps db h tables valid told =
      record { valid = valid; count = g.count pages; header = h.header; ends = told.ends; infos = catalog.tables; feet = h.feet; stored = heaps; free = h.free; parts = h.parts; tables = tables }

  header_after : (old new : P) → HasHeader (g.map old) (g.count old) → KeepsHeader (g.map old) (g.map new) → g.count old ≤ g.count new → IsTold g new → HasHeader (g.map new) (g.count new)
  header_after old new h keeps grows told =
      header_stays (g.map old) (g.map new) (g.count old) (g.count new) h keeps told.counted (let least = h.least in omega (arith, least, grows)) told.bounded

  -- One of the heaps.

  pub heap_there : (pages : P) (catalog : Directory) (front : List Stored) (heap : Stored) (back : List Stored) (h : Holds g pages catalog (front ++ heap ∷ back))
      → HoldsHeap g pages heap.heap heap.rows heap.feet h.free
  heap_there pages catalog front heap back h = heap_held g pages catalog.tables h.feet front heap back h.free h.parts

  -- Holds, where the list of heaps is written in another way
  pub same_heaps : (pages : P) (catalog : Directory) (heaps others : List Stored) → heaps ≡ others → Holds g pages catalog heaps → Holds g pages catalog others
  same_heaps pages catalog heaps others same h = subst (λ (l : List Stored). Holds g pages catalog l) same h

  feet_one : (heap : Stored) → feet_of (heap ∷ []) ≡ heap.feet
  feet_one heap = append-nil heap.feet

  pub heap_changed : (old new : P) (catalog : Directory) (front : List Stored) (heap next : Stored) (back : List Stored) (rest : List ℕ) (h : Holds g old catalog (front ++ heap ∷ back)) → IsTold g new
      → HoldsHeap g new next.heap next.rows next.feet rest → KeepsPages g old new heap.feet h.free next.feet rest → Holds g new catalog (front ++ next ∷ back)
  heap_changed old new catalog front heap next back rest h told held keeps =
      let cut : (one : Stored) → front ++ (one ∷ []) ++ back ≡ front ++ one ∷ back = λ one. append_assoc front (one ∷ []) back in
      let stored : StoresHeap (g.map new) (g.count new) next = heap_stored g new next.heap next.rows next.feet rest held in
      let first : KeepsPages g old new (feet_of (heap ∷ [])) h.free next.feet rest = subst (λ (l : List ℕ). KeepsPages g old new l h.free next.feet rest) (sym (feet_one heap)) keeps in
      let kept : KeepsPages g old new (feet_of (heap ∷ [])) h.free (feet_of (next ∷ [])) rest =
      subst (λ (l : List ℕ). KeepsPages g old new (feet_of (heap ∷ [])) h.free l rest) (sym (feet_one next)) first in
      let before : HasParts (g.map old) (g.count old) catalog.tables h.feet (front ++ (heap ∷ []) ++ back) h.free =
      subst (λ (l : List Stored). HasParts (g.map old) (g.count old) catalog.tables h.feet l h.free) (sym (cut heap)) h.parts in
      let after = heaps_changed g old new catalog.tables h.feet front (heap ∷ []) (next ∷ []) back h.free rest before kept (stored, tt) in
      record {
        header = header_after old new h.header keeps.header keeps.grows told;
        feet = h.feet;
        free = rest;
        parts = subst (λ (l : List Stored). HasParts (g.map new) (g.count new) catalog.tables h.feet l rest) (cut next) after;
        chain = h.chain;
        bare = h.bare;
      }

  pub heap_gone : (old new : P) (catalog : Directory) (front : List Stored) (heap : Stored) (back : List Stored) (rest : List ℕ) (h : Holds g old catalog (front ++ heap ∷ back)) → IsTold g new
      → KeepsPages g old new heap.feet h.free [] rest → Holds g new catalog (front ++ back)
  heap_gone old new catalog front heap back rest h told keeps =
      let kept : KeepsPages g old new (feet_of (heap ∷ [])) h.free (feet_of []) rest = subst (λ (l : List ℕ). KeepsPages g old new l h.free [] rest) (sym (feet_one heap)) keeps in
      let before : HasParts (g.map old) (g.count old) catalog.tables h.feet (front ++ (heap ∷ []) ++ back) h.free =
      subst (λ (l : List Stored). HasParts (g.map old) (g.count old) catalog.tables h.feet l h.free) (sym (append_assoc front (heap ∷ []) back)) h.parts in
      let after = heaps_changed g old new catalog.tables h.feet front (heap ∷ []) [] back h.free rest before kept tt in
      record {
        header = header_after old new h.header keeps.header keeps.grows told;
        feet = h.feet;
        free = rest;
        parts = subst (λ (l : List Stored). HasParts (g.map new) (g.count new) catalog.tables h.feet (l ++ back) rest) (append-nil front) after;
        chain = h.chain;
        bare = h.bare;
      }

  pub heap_added : (old new : P) (catalog : Directory) (heaps : List Stored) (next : Stored) (rest : List ℕ) (h : Holds g old catalog heaps) → IsTold g new
      → HoldsHeap g new next.heap next.rows next.feet rest → KeepsPages g old new [] h.free next.feet rest → Holds g new catalog (heaps ++ next ∷ [])
  heap_added old new catalog heaps next rest h told held keeps =
      let stored : StoresHeap (g.map new) (g.count new) next = heap_stored g new next.heap next.rows next.feet rest held in
      let kept : KeepsPages g old new (feet_of []) h.free (feet_of (next ∷ [])) rest = subst (λ (l : List ℕ). KeepsPages g old new [] h.free l rest) (sym (feet_one next)) keeps in
      let same : heaps ++ [] ++ [] ≡ heaps = append-nil (heaps ++ []) ∙ append-nil heaps in
      let before : HasParts (g.map old) (g.count old) catalog.tables h.feet (heaps ++ [] ++ []) h.free =
      subst (λ (l : List Stored). HasParts (g.map old) (g.count old) catalog.tables h.feet l h.free) (sym same) h.parts in
      let after = heaps_changed g old new catalog.tables h.feet heaps [] (next ∷ []) [] h.free rest before kept (stored, tt) in
      record {
        header = header_after old new h.header keeps.header keeps.grows told;
        feet = h.feet;
        free = rest;
        parts = subst (λ (l : List Stored). HasParts (g.map new) (g.count new) catalog.tables h.feet l rest) (append-nil (heaps ++ next ∷ [])) after;
        chain = h.chain;
        bare = h.bare;
      }

  -- The catalog.

  pub catalog_there : (pages : P) (catalog : Directory) (heaps : List Stored) (h : Holds g pages catalog heaps) → HoldsCatalog g pages catalog h.feet h.free
  catalog_there pages catalog heaps h = catalog_held g pages catalog catalog.tables h.feet heaps h.free h.parts refl h.bare h.chain

  pub catalog_after : (old new : P) (catalog next : Directory) (heaps : List Stored) (later rest : List ℕ) (h : Holds g old catalog heaps) → IsTold g new → HoldsCatalog g new next later rest
      → KeepsPages g old new h.feet h.free later rest → next.indexes ≡ catalog.indexes → Holds g new next heaps
  catalog_after old new catalog next heaps later rest h told held keeps same =
      let bare : next.indexes ≡ [] = same ∙ h.bare in
      let stores : Stores (g.map new) (g.count new) next.tables [] later = subst (λ (is : List IndexInfo). Stores (g.map new) (g.count new) next.tables is later) bare held.stored in
      record {
        header = header_after old new h.header keeps.header keeps.grows told;
        feet = later;
        free = rest;
        parts = catalog_changed g old new catalog.tables next.tables h.feet later heaps h.free rest h.parts keeps stores;
        chain = held.chain;
        bare = bare;
      }

  -- A table that the catalog finds: the database's table of the name, its place, and the heaps with its own at that place.
  pub record HasTable (pages : P) (db : Database) (catalog : Directory) (name : List ℕ) (info : TableInfo) : Type 0 where
    pub valid : IsValid db
    pub table : Table
    pub named : table_named db name ≡ Some table
    pub stored : List Stored
    pub place : Place name table db.tables catalog.tables stored
    pub is : place.info ≡ info
    pub here : IsStored table info place.stored
    pub holds : Holds g pages catalog (place.stored_before ++ place.stored ∷ place.stored_behind)

  pub has_table : FindsTables → (pages : P) (db : Database) (catalog : Directory) (name : List ℕ) (info : TableInfo) → Opened g pages db catalog → info_named name catalog.tables ≡ Some info
      → HasTable pages db catalog name info
  has_table finds pages db catalog name info o e =
      let found = finds db catalog.tables o.heaps name info o.tables e in
      let place : Place name found.0 db.tables catalog.tables o.heaps = found.2 in
      record {
        valid = o.valid;
        table = found.0;
        named = found.1;
        stored = o.heaps;
        place = place;
        is = found.3;
        here = subst (λ (i : TableInfo). IsStored found.0 i place.stored) found.3 place.here;
        holds = subst (λ (l : List Stored). Holds g pages catalog l) place.heaps o.holds;
      }

  -- the heap that the catalog's table has
  pub table_heap : (pages : P) (db : Database) (catalog : Directory) (name : List ℕ) (info : TableInfo) (t : HasTable pages db catalog name info)
      → HoldsHeap g pages info.heap t.place.stored.rows t.place.stored.feet t.holds.free
  table_heap pages db catalog name info t =
      subst (λ (heap : Heap). HoldsHeap g pages heap t.place.stored.rows t.place.stored.feet t.holds.free) (sym t.here.heap)
      (heap_there pages catalog t.place.stored_before t.place.stored t.place.stored_behind t.holds)
