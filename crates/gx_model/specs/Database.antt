-- A database: its tables and its indexes, each in the order in which they were made.
use Rattle.std.specs.Prelude.{◌≡◌, ◌⊎◌, ℕ, ◌+◌, ◌^◌, ◌≤◌, suc, Bool, true, false, not, if◌then◌else◌, List, [], ◌∷◌, ◌++◌, length, map, find, filter, position, slice_get, Option, IsSomeAnd}
use Rattle.std.specs.List.{list_any, AllByRecursion}
use Rattle.std.specs.Str.{bytes_eq}
use Rattle.gx_value.specs.declared.fields.Column.{Column}
use Rattle.gx_value.specs.declared.classes.Class.{Class}
use Rattle.gx_value.specs.Classes.{takes, allows}
use Rattle.gx_value.specs.Rows.{IsRowBytes, row_limit}
use Rattle.gx_value.specs.Values.{Datum, IsRow}

-- A row has its number, and a field for each column; None is NULL.
pub record Row : Type 0 where
  pub number : ℕ
  pub fields : List (Option Datum)

-- A table has the number that its next row gets.
pub record Table : Type 0 where
  pub name : List ℕ
  pub columns : List Column
  pub next : ℕ
  pub rows : List Row

-- An index has its table's name, the place of its column, counted from 0, its class and the class's parameter.
pub record Index : Type 0 where
  pub name : List ℕ
  pub table : List ℕ
  pub column : ℕ
  pub class : Class
  pub parameter : ℕ

pub record Database : Type 0 where
  pub tables : List Table
  pub indexes : List Index

-- the row is one of these
abbrev pub IsIn : Row → List Row → Type 0
IsIn row [] = ⊥
IsIn row (other ∷ rows) = (other ≡ row) ⊎ IsIn row rows

-- a new database
abbrev pub empty : Database
empty = record { tables = []; indexes = [] }

-- Names.

abbrev pub is_table : List ℕ → Table → Bool
is_table name t = bytes_eq t.name name

abbrev pub is_index : List ℕ → Index → Bool
is_index name i = bytes_eq i.name name

abbrev pub is_column : List ℕ → Column → Bool
is_column name c = bytes_eq c.name name

-- the table of a name
abbrev pub table_named : Database → List ℕ → Option Table
table_named db name = find (is_table name) db.tables

abbrev pub index_named : Database → List ℕ → Option Index
index_named db name = find (is_index name) db.indexes

abbrev pub column_named : List Column → List ℕ → Option Column
column_named columns name = find (is_column name) columns

-- the place of a column, counted from 0
abbrev pub place_of : List Column → List ℕ → Option ℕ
place_of columns name = position (is_column name) columns

-- the indexes on a table
abbrev pub indexes_on : Database → List ℕ → List Index
indexes_on db table = filter (λ i. bytes_eq i.table table) db.indexes

-- there is such a table, and this is so of it
abbrev pub OfTable : Database → List ℕ → (Table → Type 0) → Type 0
OfTable db name P = IsSomeAnd (table_named db name) P

-- Changes.

-- with another table in place of the one of the name
abbrev pub with_table : Database → List ℕ → Table → Database
with_table db name new = record db { tables = map (λ t. if is_table name t then new else t) db.tables }

-- without the table of the name and the indexes on it
abbrev pub without_table : Database → List ℕ → Database
without_table db name =
    record { tables = filter (λ t. not (is_table name t)) db.tables; indexes = filter (λ i. not (bytes_eq i.table name)) db.indexes }

-- without the index of the name
abbrev pub without_index : Database → List ℕ → Database
without_index db name = record db { indexes = filter (λ i. not (is_index name i)) db.indexes }

-- rows with these fields, one after another, and the numbers from n on
abbrev pub numbered : ℕ → List (List (Option Datum)) → List Row
numbered n [] = []
numbered n (fields ∷ more) = record { number = n; fields = fields } ∷ numbered (suc n) more

-- the table with these rows behind its own
abbrev pub with_rows : Table → List (List (Option Datum)) → Table
with_rows t added = record t { next = t.next + length added; rows = t.rows ++ numbered t.next added }

-- Valid databases.

-- the name of no other
abbrev pub AreDistinct : List (List ℕ) → Type 0
AreDistinct [] = Unit {0}
AreDistinct (n ∷ ns) = (list_any (bytes_eq n) ns ≡ false) × AreDistinct ns

-- the numbers rise, from at least the first of these to below the second
abbrev pub Rises : ℕ → ℕ → List Row → Type 0
Rises low high [] = low ≤ high
Rises low high (r ∷ rs) = (low ≤ r.number) × Rises (suc r.number) high rs

-- The row has a value of its type, or NULL, for each column, and its bytes aren't too many.
pub record IsRowOf (columns : List Column) (row : Row) : Type 0 where
  pub fields : IsRow (map (λ c. c.kind) columns) row.fields
  pub bytes : List ℕ
  pub encoded : IsRowBytes bytes row.fields
  pub short : length bytes ≤ row_limit

-- no more tables, columns of a table, and indexes on a table
abbrev pub most_tables : ℕ
most_tables = 256

abbrev pub most_columns : ℕ
most_columns = 32

abbrev pub most_indexes : ℕ
most_indexes = 32

-- no name has more bytes
abbrev pub longest_name : ℕ
longest_name = 63

abbrev pub IsShort : List ℕ → Type 0
IsShort name = length name ≤ longest_name

-- the row number that no row has
abbrev pub end_of_numbers : ℕ
end_of_numbers = 2 ^ 48

pub record IsTable (t : Table) : Type 0 where
  pub short : IsShort t.name
  pub short_columns : AllByRecursion IsShort (map (λ c. c.name) t.columns)
  pub columns : AreDistinct (map (λ c. c.name) t.columns)
  pub few : length t.columns ≤ most_columns
  pub numbers : Rises 1 t.next t.rows
  pub next : t.next ≤ end_of_numbers
  pub rows : AllByRecursion (IsRowOf t.columns) t.rows

-- the index's column is there, and its class takes the column's type and allows the parameter
pub record IsIndexOn (index : Index) (t : Table) : Type 0 where
  pub column : IsSomeAnd (slice_get t.columns index.column) (λ c. takes index.class c.kind ≡ true)
  pub parameter : allows index.class index.parameter ≡ true

abbrev pub IsIndex : Database → Index → Type 0
IsIndex db index = IsShort index.name × OfTable db index.table (IsIndexOn index)

pub record IsValid (db : Database) : Type 0 where
  pub tables : AllByRecursion IsTable db.tables
  pub names : AreDistinct (map (λ t. t.name) db.tables)
  pub few : length db.tables ≤ most_tables
  pub indexes : AllByRecursion (IsIndex db) db.indexes
  pub index_names : AreDistinct (map (λ i. i.name) db.indexes)
  pub few_indexes : (name : List ℕ) → length (indexes_on db name) ≤ most_indexes
  -- no class of indexes is there yet
  pub no_index : db.indexes ≡ []
