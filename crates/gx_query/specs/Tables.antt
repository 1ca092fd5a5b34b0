-- A table on pages.
use Rattle.std.specs.Prelude.{List, ℕ}
use Rattle.std.specs.List.{AllZip}
use Rattle.gx_pages.specs.declared.store.Pages.{Ghosts}
use Rattle.gx_pages.specs.Footprints.{KeepsPages}
use Rattle.gx_heap.specs.Heaps as heaps
use Rattle.gx_catalog.specs.declared.info.TableInfo.{TableInfo}
use Rattle.gx_model.specs.Database.{Table, IsTable}
use Rattle.gx_model.specs.Steps.{others}
use Rattle.gx_model.specs.Truth.{Bound}
use Rattle.std.specs.Prelude.{Option}
use Rattle.gx_database.specs.Standing.{IsStored, SpellsStored}

-- The pages hold this valid table: a heap of them has its rows, and this is what the catalog says of it.
pub record HoldsTable {P : Type 0} (g : Ghosts P) (pages : P) (info : TableInfo) (t : Table) : Type 0 where
  pub rows : List heaps.Row
  pub feet : List ℕ
  pub free : List ℕ
  pub held : heaps.HoldsHeap g pages info.heap rows feet free
  pub stored : IsStored t info (record { heap = info.heap; rows = rows; feet = feet })
  pub valid : IsTable t

-- The rows of which the condition is true were removed from the table: its heap has the others, on the same pages.
pub record Removed {P : Type 0} (g : Ghosts P) (old new : P) (info : TableInfo) (t : Table) (condition : Option Bound) (feet free : List ℕ) : Type 0 where
  pub rows : List heaps.Row
  pub held : heaps.HoldsHeap g new info.heap rows feet free
  pub kept : KeepsPages g old new feet free feet free
  pub spelled : AllZip (SpellsStored t.columns) (others condition t) rows
