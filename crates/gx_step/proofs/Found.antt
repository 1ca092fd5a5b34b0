-- The table that a catalog finds is the database's.
use Rattle.std.proofs.Common.{◌≡◌, ℕ, Bool, true, false, cond, List, [], ◌∷◌, Option, Some, None, refl, sym, ◌∙◌, ap, subst}
use Rattle.std.specs.Prelude.{find}
use Rattle.std.specs.Str.{bytes_eq}
use Rattle.gx_catalog.specs.Validity.{table_named as info_named}
use Rattle.gx_catalog.specs.declared.info.TableInfo.{TableInfo}
use Rattle.gx_model.specs.Database.{Database, Table, is_table, table_named}
use Rattle.gx_database.specs.Heaps.{Stored}
use Rattle.gx_database.specs.Places.{Place}
use Rattle.gx_database.specs.Standing.{IsStored, AreStored}
use Rattle.gx_database.proofs.Exchange.{at_front, behind}

-- a table of the catalog is the database's table of the name
abbrev pub FindsTables : Type 0
FindsTables = (db : Database) (infos : List TableInfo) (stored : List Stored) (name : List ℕ) (info : TableInfo) → AreStored db.tables infos stored → info_named name infos ≡ Some info
    → (t : Table) × (table_named db name ≡ Some t) × (place : Place name t db.tables infos stored) × (place.info ≡ info)

-- where the catalog finds no table there is none
abbrev pub FindsNone : Type 0
FindsNone = (db : Database) (infos : List TableInfo) (stored : List Stored) (name : List ℕ) → AreStored db.tables infos stored → info_named name infos ≡ None → table_named db name ≡ None

-- the table of the name, and its place, where its info is this one
pub record Found (name : List ℕ) (info : TableInfo) (ts : List Table) (infos : List TableInfo) (stored : List Stored) : Type 0 where
  pub table : Table
  pub named : find (is_table name) ts ≡ Some table
  pub place : Place name table ts infos stored
  pub is_info : place.info ≡ info

here : (name : List ℕ) (u : Table) (ts : List Table) (i : TableInfo) (infos : List TableInfo) (s : Stored) (stored : List Stored) → is_table name u ≡ true → IsStored u i s → AreStored ts infos stored
    → Found name i (u ∷ ts) (i ∷ infos) (s ∷ stored)
unfolding at_front
here name u ts i infos s stored n h k = record { table = u; named = rw n refl; place = at_front name u ts i infos s stored h k; is_info = refl }

there : (name : List ℕ) (info : TableInfo) (u : Table) (ts : List Table) (i : TableInfo) (infos : List TableInfo) (s : Stored) (stored : List Stored) → is_table name u ≡ false → IsStored u i s
    → Found name info ts infos stored → Found name info (u ∷ ts) (i ∷ infos) (s ∷ stored)
unfolding behind
there name info u ts i infos s stored n h f = record {
  table = f.table;
  named = rw n f.named;
  place = behind name f.table u ts i infos s stored h n f.place;
  is_info = f.is_info;
}

same_name : (name : List ℕ) (u : Table) (i : TableInfo) (b : Bool) → i.name ≡ u.name → bytes_eq i.name name ≡ b → is_table name u ≡ b
same_name name u i b n e = ap (λ (x : List ℕ). bytes_eq x name) (sym n) ∙ e

step : (name : List ℕ) (info : TableInfo) (b : Bool) (u : Table) (ts : List Table) (i : TableInfo) (infos : List TableInfo) (s : Stored) (stored : List Stored) → bytes_eq i.name name ≡ b → IsStored u i s
    → AreStored ts infos stored → (info_named name infos ≡ Some info → Found name info ts infos stored) → cond b (Some i) (info_named name infos) ≡ Some info
    → Found name info (u ∷ ts) (i ∷ infos) (s ∷ stored)
step name info true u ts i infos s stored n h k r e =
    let g : i ≡ info = cc in
    subst (λ (x : TableInfo). Found name x (u ∷ ts) (i ∷ infos) (s ∷ stored)) g (here name u ts i infos s stored (same_name name u i true h.name n) h k)
step name info false u ts i infos s stored n h k r e = there name info u ts i infos s stored (same_name name u i false h.name n) h (r e)

pub found : (name : List ℕ) (info : TableInfo) (ts : List Table) (infos : List TableInfo) (stored : List Stored) → AreStored ts infos stored → info_named name infos ≡ Some info
    → Found name info ts infos stored
found name info [] infos stored h e = absurd (nothing (subst (λ (xs : List TableInfo). info_named name xs ≡ Some info) h.0 e))
  where
    nothing : info_named name [] ≡ Some info → ⊥
    nothing g = cc
found name info (u ∷ ts) [] stored h e = absurd h
found name info (u ∷ ts) (i ∷ infos) [] h e = absurd h
found name info (u ∷ ts) (i ∷ infos) (s ∷ stored) h e =
    step name info (bytes_eq i.name name) u ts i infos s stored refl h.0 h.1 (found name info ts infos stored h.1) e

none_step : (name : List ℕ) (b : Bool) (u : Table) (i : TableInfo) (rest : Option TableInfo) (later : Option Table) → bytes_eq i.name name ≡ b → i.name ≡ u.name → (rest ≡ None → later ≡ None)
    → cond b (Some i) rest ≡ None → cond (is_table name u) (Some u) later ≡ None
none_step name true u i rest later n h r e = cc
none_step name false u i rest later n h r e = rw (same_name name u i false h n) (r e)

pub none : (name : List ℕ) (ts : List Table) (infos : List TableInfo) (stored : List Stored) → AreStored ts infos stored → info_named name infos ≡ None → find (is_table name) ts ≡ None
none name [] infos stored h e = refl
none name (u ∷ ts) [] stored h e = absurd h
none name (u ∷ ts) (i ∷ infos) [] h e = absurd h
none name (u ∷ ts) (i ∷ infos) (s ∷ stored) h e =
    none_step name (bytes_eq i.name name) u i (info_named name infos) (find (is_table name) ts) refl h.0.name (none name ts infos stored h.1) e
