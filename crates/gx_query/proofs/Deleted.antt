-- What DELETE leaves of a database on pages.
use Rattle.std.proofs.Common.{◌≡◌, ◌⊎◌, inl, inr, ℕ, ◌+◌, ◌*◌, ◌^◌, ◌≤◌, List, Option, None, Some, refl, sym, ◌∙◌, ap, subst, arith}
use Rattle.std.specs.Prelude.{IfSome}
use Rattle.gx_words.specs.PageMap.{PageMap}
use Rattle.gx_pages.specs.declared.store.Pages.{Ghosts}
use Rattle.gx_pages.specs.Frees.{HasCount}
use Rattle.gx_catalog.specs.Catalogs.{Directory}
use Rattle.gx_catalog.specs.Validity as catalogs
use Rattle.gx_catalog.specs.declared.info.TableInfo.{TableInfo}
use Rattle.gx_parse.specs.Said.{Said, Delete}
use Rattle.gx_parse.specs.Sound.{IsSound}
use Rattle.gx_parse.specs.Trees.{Tree}
use Rattle.gx_model.specs.Checks.{Find}
use Rattle.gx_model.specs.Conditions.{BindsWhere, where_checks}
use Rattle.gx_model.specs.Database.{Database, Table, IsValid, table_named}
use Rattle.gx_model.specs.Replies.{Reply, refusal}
use Rattle.gx_model.specs.Steps.{Costs, Stepped, Steps}
use Rattle.gx_model.specs.Truth.{Bound}
use Rattle.gx_database.specs.Parts.{HasParts}
use Rattle.gx_database.specs.Places.{Place}
use Rattle.gx_database.specs.Standing.{HasHeader, StandsFor}
use Rattle.gx_step.specs.Doing.{Done}
use Rattle.gx_step.proofs.Found.{FindsTables}
use Rattle.gx_step.proofs.Same.{done_same, refused_done}
use Rattle.gx_query.specs.Answers.{Passes, Refused, delete_reply}
use Rattle.gx_query.specs.Tables.{HoldsTable, Removed}
use Rattle.gx_query.proofs.Deleting.{stands_then}
use Rattle.gx_step.specs.Opened.{IsLoaded}
use Rattle.gx_query.proofs.Standing.{same_tables, table_held}
use Rattle.gx_query.proofs.Steps.{OneStep, delete_costs, delete_refused, delete_steps, deleted, none_found}

-- What is answered of the table: a fault, and nothing changes; or the rows go of which the condition is true.
abbrev pub Deletes : {P : Type 0} → Ghosts P → P → P → TableInfo → Option Tree → Reply → Type 0
Deletes g mid new info tree reply = (t : Table) (table : HoldsTable g mid info t)
    → (Refused (where_checks t.columns tree) reply × (g.map new ≡ g.map mid))
    ⊎ (Find (where_checks t.columns tree) None × ((condition : Option Bound) × BindsWhere t.columns tree condition × Removed g mid new info t condition table.feet table.free × (reply ≡ delete_reply t condition)))

abbrev pub KeepsValid : Type 0
KeepsValid = (db : Database) (said : Said) (stepped : Stepped) → IsValid db → IsSound said → Steps db said stepped → IsValid stepped.database

module _ {P : Type 0} (g : Ghosts P) (old mid : P) (db : Database) (s : StandsFor (g.map old) db) (map : g.map mid ≡ g.map old) where
  -- the pages stand for the database behind a call that changes nothing
  abbrev pub stands_mid : StandsFor (g.map mid) db
  stands_mid = record {
    valid = s.valid;
    count = s.count;
    header = subst (λ (m : PageMap). HasHeader m s.count) (sym map) s.header;
    ends = λ page above. ap (λ (m : PageMap). m page) map ∙ s.ends page above;
    infos = s.infos;
    feet = s.feet;
    stored = s.stored;
    free = s.free;
    parts = subst (λ (m : PageMap). HasParts m s.count s.infos s.feet s.stored s.free) (sym map) s.parts;
    tables = s.tables;
  }

module _ {P : Type 0} (g : Ghosts P) (old mid new : P) (db : Database) (s : StandsFor (g.map old) db) (map : g.map mid ≡ g.map old) (count : g.count mid ≡ g.count old)
    (counted : IfSome (g.map mid 0) (λ header. HasCount header (g.count mid))) (bounded : g.count mid ≤ 2 ^ 50) (name : List ℕ) (tree : Option Tree) where
  said : Said
  said = Delete name tree

  -- the table was found in the catalog
  module _ (info : TableInfo) (t : Table) (named : table_named db name ≡ Some t) (place : Place name t db.tables s.infos s.stored) (is_info : place.info ≡ info) (later : g.count new ≡ g.count mid)
      (counts : IfSome (g.map new 0) (λ header. HasCount header (g.count new))) (ends : (page : ℕ) → g.count new ≤ page → g.map new page ≡ None) (valid : KeepsValid) (sound : IsSound (Delete name tree)) where
    table : HoldsTable g mid info t
    table = table_held g mid db (stands_mid g old mid db s map) counted bounded name info t place is_info

    done_so : (condition : Option Bound) (reply : Reply) → Find (where_checks t.columns tree) None → BindsWhere t.columns tree condition → reply ≡ delete_reply t condition
        → Removed g mid new info t condition place.stored.feet s.free → Done g old new (Delete name tree) db reply
    done_so condition reply find binds is removed =
        let steps = delete_steps db name tree t named condition reply find binds is in
        record {
          stepped = record { database = deleted db t condition; reply = reply; growth = 0 };
          steps = steps;
          answered = refl;
          stands = stands_then g mid new db (stands_mid g old mid db s map) counted bounded name info t named place is_info condition removed later counts ends
              (valid db (Delete name tree) (record { database = deleted db t condition; reply = reply; growth = 0 }) s.valid sound steps);
          grows = omega (arith, later, count);
          vacuumed = tt;
        }

    pub delete_done : (reply : Reply) → Deletes g mid new info tree reply → Done g old new (Delete name tree) db reply
    unfolding table table_held
    delete_done reply deletes = by (deletes t table)
      where
        by : (Refused (where_checks t.columns tree) reply × (g.map new ≡ g.map mid))
            ⊎ (Find (where_checks t.columns tree) None × ((condition : Option Bound) × BindsWhere t.columns tree condition × Removed g mid new info t condition place.stored.feet s.free × (reply ≡ delete_reply t condition)))
            → Done g old new (Delete name tree) db reply
        by (inl refuses) = done_same g old new (Delete name tree) db reply reply s (refuses.1 ∙ map) (later ∙ count) (delete_refused db name tree t named reply refuses.0) refl tt
        by (inr (find, (condition, binds, removed, is))) = done_so condition reply find binds is removed

    pub delete_most : OneStep → (before after n : ℕ)
        → ((u : Table) → HoldsTable g mid info u → (after ≡ before) ⊎ (Passes (where_checks u.columns tree) u.columns tree × (after ≤ before + 2 * (u.next + 1)))) → Costs db (Delete name tree) n → after ≤ before + n
    delete_most one before after n most cost = by (most t table)
      where
        by : (after ≡ before) ⊎ (Passes (where_checks t.columns tree) t.columns tree × (after ≤ before + 2 * (t.next + 1))) → after ≤ before + n
        by (inl same) = omega (arith, same)
        by (inr more) = let is = delete_costs one db name tree t named s.valid.no_index more.0 n cost in let last = more.1 in omega (arith, is, last)

-- there is no such table
pub delete_lacks : {P : Type 0} (g : Ghosts P) (old new : P) (db : Database) (name : List ℕ) (tree : Option Tree) (s : StandsFor (g.map old) db) → table_named db name ≡ None → g.map new ≡ g.map old → g.count new ≡ g.count old
    → (reply : Reply) → reply ≡ refusal 2 → Done g old new (Delete name tree) db reply
delete_lacks g old new db name tree s missing map count reply is =
    refused_done g old new (Delete name tree) db 2 reply map count s (none_found (table_named db name) (λ t. where_checks t.columns tree) missing) is

-- The table that the catalog finds, at its place.
pub record At {P : Type 0} (g : Ghosts P) (old : P) (db : Database) (s : StandsFor (g.map old) db) (name : List ℕ) (info : TableInfo) : Type 0 where
  pub table : Table
  pub named : table_named db name ≡ Some table
  pub place : Place name table db.tables s.infos s.stored
  pub is_info : place.info ≡ info

module _ {P : Type 0} (g : Ghosts P) (old mid : P) (db : Database) (s : StandsFor (g.map old) db) (counted : IfSome (g.map old 0) (λ header. HasCount header (g.count old))) (bounded : g.count old ≤ 2 ^ 50)
    (catalog : Directory) (loaded : IsLoaded g old mid catalog) (name slice : List ℕ) (is_name : slice ≡ name) where
  pub placed : FindsTables → (info : TableInfo) → Some info ≡ catalogs.table_named slice catalog.tables → At g old db s name info
  placed finds info is =
      let same = same_tables g old db s counted bounded catalog.tables (λ others indexes feet free stores frees apart. (loaded others indexes feet free stores frees apart).0) in
      let found = finds db s.infos s.stored name info s.tables (sym (is ∙ (λ i. catalogs.table_named (is_name i) (same i)))) in
      record { table = found.0; named = found.1; place = found.2; is_info = found.3 }
