-- Rows as they are looked at.
use Rattle.std.specs.Prelude.{◌≡◌, List, Option}
use Rattle.std.specs.List.{AllZip}
use Rattle.gx_pages.specs.declared.row.RowRef.{RowRef}
use Rattle.gx_heap.specs.Heaps.{Row}
use Rattle.gx_value.specs.declared.types.ColumnType.{ColumnType}
use Rattle.gx_value.specs.Rows.{SpellsRow}
use Rattle.gx_value.specs.Values.{Datum}
use Rattle.gx_model.specs.Database as model

-- where a row stands, and its fields
abbrev pub Seen : Type 0
Seen = RowRef × List (Option Datum)

-- The stored row stands there, and its bytes spell these fields.
pub record IsSeen (kinds : List ColumnType) (row : Row) (seen : Seen) : Type 0 where
  pub place : row.0 ≡ seen.0
  pub spelled : SpellsRow kinds row.1 seen.1

-- row by row
abbrev pub AreSeen : List ColumnType → List Row → List Seen → Type 0
AreSeen kinds rows seen = AllZip (IsSeen kinds) rows seen

-- the row of a table that it is
abbrev pub row_seen : Seen → model.Row
row_seen seen = record { number = seen.0.number; fields = seen.1 }
