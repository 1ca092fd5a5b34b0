-- The pages stand for the database without the rows that were removed.
use Rattle.std.proofs.Common.{◌≡◌, ℕ, ◌^◌, ◌≤◌, Bool, true, false, cond, List, [], ◌∷◌, ◌++◌, Option, None, Some, refl, sym, ◌∙◌, ap, subst, append_assoc, append-nil, arith}
use Rattle.std.specs.Prelude.{IfSome, find}
use Rattle.std.proofs.lemmas.Slice.Eq.{bytes_eq-Decides}
use Rattle.gx_pages.specs.declared.store.Pages.{Ghosts}
use Rattle.gx_pages.specs.Footprints.{KeepsPages}
use Rattle.gx_pages.specs.Frees.{HasCount}
use Rattle.gx_catalog.specs.declared.info.TableInfo.{TableInfo}
use Rattle.gx_model.specs.Database.{Database, Table, IsValid, is_table, table_named, with_table}
use Rattle.gx_model.specs.Steps.{others}
use Rattle.gx_model.specs.Truth.{Bound}
use Rattle.gx_database.specs.Heaps.{Stored}
use Rattle.gx_database.specs.Parts.{HasParts, feet_of}
use Rattle.gx_database.specs.Places.{Place}
use Rattle.gx_database.specs.Standing.{HasHeader, IsStored, AreStored, StandsFor}
use Rattle.gx_database.proofs.Changes.{heaps_changed}
use Rattle.gx_database.proofs.Exchange.{exchanged}
use Rattle.gx_database.proofs.Views.{heap_stored, header_stays}
use Rattle.gx_query.specs.Tables.{Removed}
use Rattle.gx_query.proofs.Standing.{parts, same_count}
use Rattle.gx_query.proofs.Steps.{deleted}

passes_step : (b : Bool) (p : Table → Bool) (t u : Table) (rest : Option Table) → p u ≡ b → (rest ≡ Some t → p t ≡ true) → cond b (Some u) rest ≡ Some t → p t ≡ true
passes_step true p t u rest is more same = ap (λ (x : Table). p x) (let e : t ≡ u = (cc) in e) ∙ is
passes_step false p t u rest is more same = more same

found_passes : (p : Table → Bool) (t : Table) (ts : List Table) → find p ts ≡ Some t → p t ≡ true
found_passes p t [] none = absurd (let never : None ≡ Some t = none in cc)
found_passes p t (u ∷ ts) found = passes_step (p u) p t u (find p ts) refl (found_passes p t ts) found

pub its_name : (db : Database) (name : List ℕ) (t : Table) → table_named db name ≡ Some t → t.name ≡ name
its_name db name t named = (bytes_eq-Decides t.name name).0 (found_passes (is_table name) t db.tables named)

module _ {P : Type 0} (g : Ghosts P) (old new : P) (db : Database) (stands : StandsFor (g.map old) db) (counted : IfSome (g.map old 0) (λ header. HasCount header (g.count old))) (bounded : g.count old ≤ 2 ^ 50)
    (name : List ℕ) (info : TableInfo) (t : Table) (named : table_named db name ≡ Some t) (place : Place name t db.tables stands.infos stands.stored) (is_info : place.info ≡ info) (condition : Option Bound)
    (removed : Removed g old new info t condition place.stored.feet stands.free) where
  later : Table
  later = record t { rows = others condition t }

  changed : Stored
  changed = record { heap = info.heap; rows = removed.rows; feet = place.stored.feet }

  here : IsStored t info place.stored
  here = subst (λ (i : TableInfo). IsStored t i place.stored) is_info place.here

  its_table : IsStored later info changed
  unfolding later changed
  its_table = record { name = here.name; columns = here.columns; heap = refl; next = ap (λ h. h.next) here.heap ∙ here.next; rows = removed.spelled }

  one_feet : (s : Stored) → feet_of (s ∷ []) ≡ s.feet
  one_feet s = append-nil s.feet

  in_middle : (front : List Stored) (s : Stored) (back : List Stored) → front ++ s ∷ back ≡ front ++ (s ∷ []) ++ back
  in_middle front s back = sym (append_assoc front (s ∷ []) back)

  parts_then : HasParts (g.map new) (g.count new) stands.infos stands.feet (place.stored_before ++ changed ∷ place.stored_behind) stands.free
  unfolding changed
  parts_then =
      let was : HasParts (g.map old) (g.count old) stands.infos stands.feet (place.stored_before ++ (place.stored ∷ []) ++ place.stored_behind) stands.free =
      subst (λ (l : List Stored). HasParts (g.map old) (g.count old) stands.infos stands.feet l stands.free) (place.heaps ∙ in_middle place.stored_before place.stored place.stored_behind)
      (parts g old db stands counted bounded) in
      let kept : KeepsPages g old new (feet_of (place.stored ∷ [])) stands.free (feet_of (changed ∷ [])) stands.free =
      subst (λ (l : List ℕ). KeepsPages g old new l stands.free (feet_of (changed ∷ [])) stands.free) (sym (one_feet place.stored))
      (subst (λ (l : List ℕ). KeepsPages g old new place.stored.feet stands.free l stands.free) (sym (one_feet changed)) removed.kept) in
      subst (λ (l : List Stored). HasParts (g.map new) (g.count new) stands.infos stands.feet l stands.free) (sym (in_middle place.stored_before changed place.stored_behind))
      (heaps_changed g old new stands.infos stands.feet place.stored_before (place.stored ∷ []) (changed ∷ []) place.stored_behind stands.free stands.free was kept
      (heap_stored g new info.heap removed.rows place.stored.feet stands.free removed.held, tt))

  tables_then : AreStored (with_table db name later).tables stands.infos (place.stored_before ++ changed ∷ place.stored_behind)
  tables_then =
      let infos : place.infos_before ++ info ∷ place.infos_behind ≡ stands.infos =
      ap (λ (i : TableInfo). place.infos_before ++ i ∷ place.infos_behind) (sym is_info) ∙ sym place.infos in
      subst (λ (l : List TableInfo). AreStored (with_table db name later).tables l (place.stored_before ++ changed ∷ place.stored_behind)) infos
      (exchanged db name t later stands.infos stands.stored place info changed stands.valid.names (its_name db name t named) its_table)

  pub stands_then : g.count new ≡ g.count old → IfSome (g.map new 0) (λ header. HasCount header (g.count new)) → ((page : ℕ) → g.count new ≤ page → g.map new page ≡ None) → IsValid (deleted db t condition)
      → StandsFor (g.map new) (deleted db t condition)
  unfolding later
  stands_then count counts ends valid =
      let header : HasHeader (g.map old) (g.count old) = subst (λ (n : ℕ). HasHeader (g.map old) n) (same_count g old db stands counted bounded) stands.header in
      let least = header.least in
      let most = header.most in
      let named_so : with_table db name later ≡ deleted db t condition = ap (λ (n : List ℕ). with_table db n later) (sym (its_name db name t named)) in
      record {
        valid = valid;
        count = g.count new;
        header = header_stays (g.map old) (g.map new) (g.count old) (g.count new) header removed.kept.header counts (omega (arith, least, count)) (omega (arith, most, count));
        ends = ends;
        infos = stands.infos;
        feet = stands.feet;
        stored = place.stored_before ++ changed ∷ place.stored_behind;
        free = stands.free;
        parts = parts_then;
        tables = subst (λ (d : Database). AreStored d.tables stands.infos (place.stored_before ++ changed ∷ place.stored_behind)) named_so tables_then;
      }
