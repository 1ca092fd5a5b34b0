-- The place of a table in a database, in the catalog, and among the heaps.
use Rattle.std.specs.Prelude.{◌≡◌, ℕ, false, List, ◌∷◌, ◌++◌}
use Rattle.std.specs.List.{AllByRecursion}
use Rattle.gx_catalog.specs.declared.info.TableInfo.{TableInfo}
use Rattle.gx_model.specs.Database.{Table, is_table}
use Rattle.gx_database.specs.Heaps.{Stored}
use Rattle.gx_database.specs.Standing.{IsStored, AreStored}

-- The table stands in these lists at one place, and no table before it has its name.
pub record Place (name : List ℕ) (t : Table) (all : List Table) (all_infos : List TableInfo) (all_stored : List Stored) : Type 0 where
  pub tables_before : List Table
  pub tables_behind : List Table
  pub infos_before : List TableInfo
  pub info : TableInfo
  pub infos_behind : List TableInfo
  pub stored_before : List Stored
  pub stored : Stored
  pub stored_behind : List Stored
  pub tables : all ≡ tables_before ++ t ∷ tables_behind
  pub infos : all_infos ≡ infos_before ++ info ∷ infos_behind
  pub heaps : all_stored ≡ stored_before ++ stored ∷ stored_behind
  pub before : AreStored tables_before infos_before stored_before
  pub here : IsStored t info stored
  pub behind : AreStored tables_behind infos_behind stored_behind
  pub others : AllByRecursion (λ u. is_table name u ≡ false) tables_before
