-- A catalog that was loaded from the pages of a database.
use Rattle.std.proofs.Common.{◌≡◌, ℕ, ◌^◌, ◌≤◌, List, [], None, refl, sym, subst}
use Rattle.std.specs.Prelude.{IfSome}
use Rattle.gx_words.specs.PageMap.{PageMap}
use Rattle.gx_pages.specs.declared.store.Pages.{Ghosts}
use Rattle.gx_pages.specs.Frees.{HasCount}
use Rattle.gx_catalog.specs.declared.info.TableInfo.{TableInfo}
use Rattle.gx_catalog.specs.Catalogs.{Directory, HoldsCatalog, Stores, chain_on}
use Rattle.gx_model.specs.Database.{Database}
use Rattle.gx_database.specs.Heaps.{Stored}
use Rattle.gx_database.specs.Parts.{HasParts}
use Rattle.gx_database.specs.Standing.{AreStored, HasHeader, StandsFor}
use Rattle.gx_database.proofs.Views.{catalog_held, one_count}
use Rattle.gx_step.specs.Opened.{IsLoaded, Opened}

parts_at : (a b : PageMap) (m n : ℕ) (tables others : List TableInfo) (feet : List ℕ) (heaps : List Stored) (free : List ℕ) → a ≡ b → m ≡ n → tables ≡ others → HasParts b n others feet heaps free
    → HasParts a m tables feet heaps free
parts_at a b m n tables others feet heaps free map count same parts =
    subst (λ (p : PageMap). HasParts p m tables feet heaps free) (sym map)
    (subst (λ (k : ℕ). HasParts b k tables feet heaps free) (sym count)
    (subst (λ (ts : List TableInfo). HasParts b n ts feet heaps free) (sym same) parts))

header_at : (a b : PageMap) (m n : ℕ) → a ≡ b → m ≡ n → HasHeader b n → HasHeader a m
header_at a b m n map count header = subst (λ (p : PageMap). HasHeader p m) (sym map) (subst (λ (k : ℕ). HasHeader b k) (sym count) header)

module _ {P : Type 0} (g : Ghosts P) where
  -- what is so of all pages that are told
  pub record IsTold (pages : P) : Type 0 where
    pub counted : IfSome (g.map pages 0) (λ header. HasCount header (g.count pages))
    pub bounded : g.count pages ≤ 2 ^ 50
    pub ends : (n : ℕ) → g.count pages ≤ n → g.map pages n ≡ None

  -- a catalog that was loaded from the pages of a database
  pub opened : (old new : P) (catalog : Directory) (db : Database) (s : StandsFor (g.map old) db) → IsTold old → g.map new ≡ g.map old → g.count new ≡ g.count old
      → IsLoaded g old new catalog
      → Opened g new db catalog
  opened old new catalog db s told map count loaded =
      let same : s.count ≡ g.count old = one_count (g.map old) s.count (g.count old) s.header told.counted told.bounded in
      let parts : HasParts (g.map old) (g.count old) s.infos s.feet s.stored s.free = subst (λ (n : ℕ). HasParts (g.map old) n s.infos s.feet s.stored s.free) same s.parts in
      let directory : Directory = record { chain = chain_on s.feet; tables = s.infos; indexes = [] } in
      let there : HoldsCatalog g old directory s.feet s.free = catalog_held g old directory s.infos s.feet s.stored s.free parts refl refl refl in
      let is = loaded s.infos [] s.feet s.free parts.catalog parts.frees there.apart in
      record {
        valid = s.valid;
        heaps = s.stored;
        holds = record {
          header = header_at (g.map new) (g.map old) (g.count new) (g.count old) map count (subst (λ (n : ℕ). HasHeader (g.map old) n) same s.header);
          feet = s.feet;
          free = s.free;
          parts = parts_at (g.map new) (g.map old) (g.count new) (g.count old) catalog.tables s.infos s.feet s.stored s.free map count is.0 parts;
          chain = is.2.chain;
          bare = is.1;
        };
        tables = subst (λ (ts : List TableInfo). AreStored db.tables ts s.stored) (sym is.0) s.tables;
      }

  -- a catalog that was loaded is one of these tables
  pub loads : (old : P) (db : Database) (s : StandsFor (g.map old) db) → IsTold old → Stores (g.map old) (g.count old) s.infos [] s.feet
  loads old db s told =
      subst (λ (n : ℕ). Stores (g.map old) n s.infos [] s.feet) (one_count (g.map old) s.count (g.count old) s.header told.counted told.bounded) s.parts.catalog
