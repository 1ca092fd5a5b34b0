-- Which lists of tables and indexes are those of a database.
use Rattle.std.specs.Prelude.{◌≡◌, ◌≢◌, ◌⊎◌, ℕ, ◌^◌, ◌<◌, ◌≤◌, ◌==◌, bytes_eq, true, List, [], ◌∷◌, length, map, find, count_by, Option, IsSomeAnd}
use Rattle.std.specs.List.{AllByRecursion, slice_get}
use Rattle.gx_value.specs.Classes.{takes, allows}
use Rattle.gx_value.specs.declared.fields.Column.{Column}
use Rattle.gx_heap.specs.declared.heap.Heap.{Heap}
use Rattle.gx_catalog.specs.declared.info.TableInfo.{TableInfo}
use Rattle.gx_catalog.specs.declared.info.IndexInfo.{IndexInfo}

-- a name has at most 63 bytes
abbrev pub IsName : List ℕ → Type 0
IsName name = length name ≤ 63

-- no element stands twice
abbrev pub AreDistinct : {X : Type 0} → List X → Type 0
AreDistinct [] = Unit {0}
AreDistinct (x ∷ xs) = AllByRecursion (λ other. other ≢ x) xs × AreDistinct xs

-- A table has at most 32 columns, of different names.
pub record AreColumns (columns : List Column) : Type 0 where
  pub few : length columns ≤ 32
  pub named : AllByRecursion (λ column. IsName column.name) columns
  pub distinct : AreDistinct (map (λ (column : Column). column.name) columns)

-- The next row number is from 1 to 2^48.
pub record IsHeap (heap : Heap) : Type 0 where
  pub some : 0 < heap.next
  pub most : heap.next ≤ 2 ^ 48

pub record IsTable (t : TableInfo) : Type 0 where
  pub name : IsName t.name
  pub columns : AreColumns t.columns
  pub heap : IsHeap t.heap

-- the table of this name, the table of this number, the index of this name
abbrev pub table_named : List ℕ → List TableInfo → Option TableInfo
table_named name tables = find (λ (t : TableInfo). bytes_eq t.name name) tables

abbrev pub table_numbered : ℕ → List TableInfo → Option TableInfo
table_numbered number tables = find (λ (t : TableInfo). t.number == number) tables

abbrev pub index_named : List ℕ → List IndexInfo → Option IndexInfo
index_named name indexes = find (λ (i : IndexInfo). bytes_eq i.name name) indexes

-- the index's class takes the type of this table's column
abbrev pub TakesColumn : IndexInfo → TableInfo → Type 0
TakesColumn i t = IsSomeAnd (slice_get t.columns i.column) (λ (column : Column). takes i.class column.kind ≡ true)

-- an index on a column of one of these tables: its class takes the column's type and allows the parameter
pub record IsIndex (tables : List TableInfo) (i : IndexInfo) : Type 0 where
  pub name : IsName i.name
  pub column : IsSomeAnd (table_numbered i.table tables) (TakesColumn i)
  pub parameter : allows i.class i.parameter ≡ true

-- how many indexes are on the table of this number
abbrev pub count_on : ℕ → List IndexInfo → ℕ
count_on number indexes = count_by (λ (i : IndexInfo). i.table == number) indexes

-- Tables and indexes of a database: at most 256 tables of different names and numbers, and at most 32 indexes on each,
-- of different names.
pub record AreCatalog (tables : List TableInfo) (indexes : List IndexInfo) : Type 0 where
  pub each_table : AllByRecursion IsTable tables
  pub few : length tables ≤ 256
  pub names : AreDistinct (map (λ (t : TableInfo). t.name) tables)
  pub numbers : AreDistinct (map (λ (t : TableInfo). t.number) tables)
  pub each_index : AllByRecursion (IsIndex tables) indexes
  pub index_names : AreDistinct (map (λ (i : IndexInfo). i.name) indexes)
  pub few_on_each : AllByRecursion (λ (t : TableInfo). count_on t.number indexes ≤ 32) tables

-- it is one of these
abbrev pub IsAmong : {X : Type 0} → X → List X → Type 0
IsAmong x [] = ⊥
IsAmong x (y ∷ ys) = (y ≡ x) ⊎ IsAmong x ys

-- a table has the number
abbrev pub HasNumber : ℕ → List TableInfo → Type 0
HasNumber number tables = (t : TableInfo) × IsAmong t tables × (t.number ≡ number)

-- an index has the name
abbrev pub HasIndex : List ℕ → List IndexInfo → Type 0
HasIndex name indexes = (i : IndexInfo) × IsAmong i indexes × (i.name ≡ name)

-- no index is on the table of this number
abbrev pub HasNoIndex : ℕ → List IndexInfo → Type 0
HasNoIndex number indexes = AllByRecursion (λ (i : IndexInfo). i.table ≢ number) indexes
