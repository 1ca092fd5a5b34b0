-- The indexes of a catalog, as those of a database.
use Rattle.std.specs.Prelude.{ℕ, ◌==◌, Bool, ◌&&◌, List, [], map, Option, None, Some}
use Rattle.gx_catalog.specs.declared.info.IndexInfo.{IndexInfo}
use Rattle.gx_catalog.specs.declared.info.TableInfo.{TableInfo}
use Rattle.gx_catalog.specs.Validity.{table_numbered}
use Rattle.gx_model.specs.Database.{Index}

abbrev pub name_of : Option TableInfo → List ℕ
name_of None = []
name_of (Some t) = t.name

-- the index with the name of its table in place of the number
abbrev pub index_of : List TableInfo → IndexInfo → Index
index_of tables i = record { name = i.name; table = name_of (table_numbered i.table tables); column = i.column; class = i.class; parameter = i.parameter }

abbrev pub indexes_of : List TableInfo → List IndexInfo → List Index
indexes_of tables indexes = map (index_of tables) indexes

-- the index is on the column at this place of the table with this number
abbrev pub is_on : ℕ → ℕ → IndexInfo → Bool
is_on table place i = i.table == table && i.column == place
