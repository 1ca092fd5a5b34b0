-- A map of pages stands for a database.
use Rattle.std.specs.Prelude.{◌≡◌, ℕ, ◌+◌, ◌^◌, ◌≤◌, List, [], ◌∷◌, ◌++◌, map, take, drop, replicate, Some, None}
use Rattle.std.specs.List.{AllZip}
use Rattle.gx_bytes.specs.Fields.{le32, le64}
use Rattle.gx_words.specs.PageMap.{PageMap}
use Rattle.gx_pages.specs.Frees.{HasCount}
use Rattle.gx_catalog.specs.declared.info.TableInfo.{TableInfo}
use Rattle.gx_heap.specs.Heaps as heaps
use Rattle.gx_value.specs.declared.fields.Column.{Column}
use Rattle.gx_value.specs.Rows.{SpellsRow}
use Rattle.gx_model.specs.Database.{Database, Table, Row, IsValid}
use Rattle.gx_database.specs.Heaps.{Stored}
use Rattle.gx_database.specs.Parts.{HasParts}

-- Page 0 is the header: the mark of the product, the number of the format, which is 2, the count of pages, the first free page, the first page of
-- the catalog, which is 1, and zeros. The free pages say what the first of them is.
pub record HasHeader (pages : PageMap) (count : ℕ) : Type 0 where
  pub header : List ℕ
  pub at_zero : pages 0 ≡ Some header
  pub mark : take 8 header ≡ le32 1481197392 ++ le32 2
  pub counted : HasCount header count
  pub rest : drop 24 header ≡ le64 1 ++ replicate 8160 0
  pub least : 2 ≤ count
  pub most : count ≤ 2 ^ 50

-- the stored row has the number of the database's row, and the bytes of its values
pub record SpellsStored (columns : List Column) (row : Row) (stored : heaps.Row) : Type 0 where
  pub number : stored.0.number ≡ row.number
  pub spelled : SpellsRow (map (λ c. c.kind) columns) stored.1 row.fields

-- The table has the name and the columns that the catalog says, and the next row number and the rows of its heap.
pub record IsStored (t : Table) (info : TableInfo) (stored : Stored) : Type 0 where
  pub name : info.name ≡ t.name
  pub columns : info.columns ≡ t.columns
  pub heap : info.heap ≡ stored.heap
  pub next : stored.heap.next ≡ t.next
  pub rows : AllZip (SpellsStored t.columns) t.rows stored.rows

-- one table after another
abbrev pub AreStored : List Table → List TableInfo → List Stored → Type 0
AreStored [] infos stored = (infos ≡ []) × (stored ≡ [])
AreStored (t ∷ ts) (i ∷ is) (s ∷ ss) = IsStored t i s × AreStored ts is ss
AreStored (t ∷ ts) _ _ = ⊥

-- The map stands for a valid database: it has the catalog of its tables and their heaps, and no page at the count or above it.
pub record StandsFor (pages : PageMap) (db : Database) : Type 0 where
  pub valid : IsValid db
  pub count : ℕ
  pub header : HasHeader pages count
  pub ends : (page : ℕ) → count ≤ page → pages page ≡ None
  pub infos : List TableInfo
  pub feet : List ℕ
  pub stored : List Stored
  pub free : List ℕ
  pub parts : HasParts pages count infos feet stored free
  pub tables : AreStored db.tables infos stored
