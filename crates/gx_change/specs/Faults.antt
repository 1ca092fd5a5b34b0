-- The fault of CREATE INDEX while there are no classes of indexes.
use Rattle.std.specs.Prelude.{ℕ, Bool, ◌||◌, is_none, if◌then◌else◌, List, Option, None, Some}
use Rattle.gx_catalog.specs.declared.info.TableInfo.{TableInfo}
use Rattle.gx_model.specs.Database.{column_named}
use Rattle.gx_value.specs.Classes.{method_named}

-- E2 without the table, E4 without the column; E14 for a class or for a method that isn't one, and else E19
abbrev pub index_fault_of : Option TableInfo → List ℕ → List ℕ → Bool → ℕ
index_fault_of None method column has_class = 2
index_fault_of (Some info) method column has_class =
    if is_none (column_named info.columns column) then 4 else (if has_class || is_none (method_named method) then 14 else 19)
