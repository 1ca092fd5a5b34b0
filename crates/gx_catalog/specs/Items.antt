-- The items of the catalog's chain, and their bytes.
use Rattle.std.specs.Prelude.{◌≡◌, ◌≢◌, ℕ, ◌^◌, ◌<◌, List, [], ◌∷◌, ◌++◌, length, map}
use Rattle.std.specs.List.{AllByRecursion, flat_map}
use Rattle.gx_bytes.specs.Fields.{le16, le32, le64}
use Rattle.gx_bytes.specs.Varints.{field_bytes}
use Rattle.gx_value.specs.Classes.{class_number}
use Rattle.gx_value.specs.declared.classes.Class.{Class}
use Rattle.gx_value.specs.Types.{type_number}
use Rattle.gx_value.specs.declared.fields.Column.{Column}
use Rattle.gx_heap.specs.declared.heap.Heap.{Heap}
use Rattle.gx_chain.specs.declared.entry.Entry.{Entry}
use Rattle.gx_catalog.specs.declared.info.TableInfo.{TableInfo}
use Rattle.gx_catalog.specs.declared.info.IndexInfo.{IndexInfo}
use Rattle.gx_catalog.specs.declared.info.Item.{Item}
use Rattle.gx_catalog.specs.declared.info.Item.TheVariants.{Table, Index}

-- the number of the next row, the first page and the last one, in eight bytes each
unfoldable pub heap_bytes : Heap → List ℕ
heap_bytes heap = le64 heap.next ++ (le64 heap.first ++ le64 heap.last)

-- the number of the type in a byte, and the name as a field
unfoldable pub column_bytes : Column → List ℕ
column_bytes column = type_number column.kind ∷ field_bytes column.name

-- a byte that says how many columns there are, and the columns
unfoldable pub columns_bytes : List Column → List ℕ
columns_bytes columns = length columns ∷ flat_map column_bytes columns

-- the table's number in four bytes, its heap, its columns, and the name as a field
unfoldable pub table_part : TableInfo → List ℕ
table_part t = le32 t.number ++ (heap_bytes t.heap ++ (columns_bytes t.columns ++ field_bytes t.name))

-- A table's item is byte 1 and this part.
abbrev pub table_bytes : TableInfo → List ℕ
table_bytes t = 1 ∷ table_part t

-- the place of the column from 0 and the number of the class in a byte each, and the parameter in two bytes
unfoldable pub class_bytes : ℕ → Class → ℕ → List ℕ
class_bytes column class parameter = column ∷ class_number class ∷ le16 parameter

-- the table's number in four bytes, the column and the class, the root of the index and that of its NULL rows or 0 in
-- eight bytes each, and the name as a field
unfoldable pub index_part : IndexInfo → List ℕ
index_part i = le32 i.table ++ (class_bytes i.column i.class i.parameter ++ (le64 i.root ++ (le64 i.nulls ++ field_bytes i.name)))

-- An index's item is byte 3 and this part.
abbrev pub index_bytes : IndexInfo → List ℕ
index_bytes i = 3 ∷ index_part i

abbrev pub item_bytes : Item → List ℕ
item_bytes (Table t) = table_bytes t
item_bytes (Index i) = index_bytes i

-- the tables among items, in order
abbrev pub tables_in : List Item → List TableInfo
tables_in [] = []
tables_in (Table t ∷ items) = t ∷ tables_in items
tables_in (Index i ∷ items) = tables_in items

-- the indexes among items, in order
abbrev pub indexes_in : List Item → List IndexInfo
indexes_in [] = []
indexes_in (Table t ∷ items) = indexes_in items
indexes_in (Index i ∷ items) = i ∷ indexes_in items

-- numbers fit their fields
pub record FitsHeap (heap : Heap) : Type 0 where
  pub next : heap.next < 2 ^ 64
  pub first : heap.first < 2 ^ 64
  pub last : heap.last < 2 ^ 64

pub record FitsTable (t : TableInfo) : Type 0 where
  pub number : t.number < 2 ^ 32
  pub heap : FitsHeap t.heap

pub record FitsIndex (i : IndexInfo) : Type 0 where
  pub table : i.table < 2 ^ 32
  pub parameter : i.parameter < 2 ^ 16
  pub root : i.root < 2 ^ 64
  pub nulls : i.nulls < 2 ^ 64

abbrev pub FitsItem : Item → Type 0
FitsItem (Table t) = FitsTable t
FitsItem (Index i) = FitsIndex i

-- the bytes begin with no value of this spelling
abbrev pub BeginsNone : {T : Type 0} → (T → Type 0) → (T → List ℕ) → List ℕ → Type 0
BeginsNone {T} Fits spell bytes = (value : T) (rest : List ℕ) → Fits value → bytes ≢ spell value ++ rest

-- they are the spelling of no value
abbrev pub IsNone : {T : Type 0} → (T → Type 0) → (T → List ℕ) → List ℕ → Type 0
IsNone {T} Fits spell bytes = (value : T) → Fits value → bytes ≢ spell value

-- a list of so many columns
abbrev pub HasCount : ℕ → List Column → Type 0
HasCount count columns = length columns ≡ count

-- the place of a column, a class and a parameter that fits its field
abbrev pub ClassPart : Type 0
ClassPart = ℕ × Class × ℕ

abbrev pub class_part : ClassPart → List ℕ
class_part part = class_bytes part.0 part.1 part.2

abbrev pub FitsClass : ClassPart → Type 0
FitsClass part = part.2 < 2 ^ 16

-- any value
abbrev pub Any : {T : Type 0} → T → Type 0
Any value = Unit {0}

abbrev pub bytes_of : List Entry → List (List ℕ)
bytes_of entries = map (λ (entry : Entry). entry.item) entries

-- The entries of a chain spell these tables and indexes: each is the item of one, whose numbers fit their fields, and the
-- tables follow one another as they do here, and so do the indexes.
pub record Spells (entries : List Entry) (tables : List TableInfo) (indexes : List IndexInfo) : Type 0 where
  pub items : List Item
  pub fit : AllByRecursion FitsItem items
  pub spelled : bytes_of entries ≡ map item_bytes items
  pub in_tables : tables ≡ tables_in items
  pub in_indexes : indexes ≡ indexes_in items

-- some entry is no item
abbrev pub SpellsNone : List Entry → Type 0
SpellsNone entries = (tables : List TableInfo) (indexes : List IndexInfo) → Spells entries tables indexes → ⊥
