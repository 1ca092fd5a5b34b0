-- The types of columns and of operands: their words, and the numbers of column types.
use Rattle.std.specs.Prelude.{ℕ, ◌==◌, Bool, false, List, [], ◌∷◌, codes, bytes_eq, find, Option, None, Some, option_map, option_and_then, if◌then◌else◌}
use Rattle.std.specs.Option.{option_map_or}
use Rattle.gx_value.specs.declared.types.ColumnType.{ColumnType}
use Rattle.gx_value.specs.declared.types.ColumnType.TheVariants as column
use Rattle.gx_value.specs.declared.types.OperandType.{OperandType}
use Rattle.gx_value.specs.declared.types.OperandType.TheVariants as operand
use Rattle.gx_value.specs.declared.types.TypeWord.{TypeWord}
use Rattle.gx_value.specs.declared.types.Family.{Family}
use Rattle.gx_value.specs.declared.types.Family.TheVariants as family
use Rattle.gx_scalar.specs.declared.scalar.ScalarKind.TheVariants as scalars
use Rattle.gx_range.specs.declared.range.RangeKind.TheVariants as ranges

-- the number of a column type in the catalog
abbrev pub type_number : ColumnType → ℕ
type_number column.Int4 = 1
type_number column.Int8 = 2
type_number column.Text = 3
type_number column.Bytea = 4
type_number column.Date = 5
type_number column.Uuid = 6
type_number column.Int4Range = 7
type_number column.Int8Range = 8
type_number column.DateRange = 9
type_number column.Inet = 10
type_number column.Ltree = 11
type_number column.Hstore = 12
type_number column.Jsonb = 13
type_number column.Int4Array = 14

abbrev pub same_type : ColumnType → ColumnType → Bool
same_type a b = type_number a == type_number b

-- a number for each operand type
abbrev pub operand_number : OperandType → ℕ
operand_number operand.Int4 = 1
operand_number operand.Int8 = 2
operand_number operand.Text = 3
operand_number operand.Bytea = 4
operand_number operand.Date = 5
operand_number operand.Uuid = 6
operand_number operand.Int4Range = 7
operand_number operand.Int8Range = 8
operand_number operand.DateRange = 9
operand_number operand.Inet = 10
operand_number operand.Ltree = 11
operand_number operand.Hstore = 12
operand_number operand.Jsonb = 13
operand_number operand.Int4Array = 14
operand_number operand.TextArray = 15
operand_number operand.Lquery = 16
operand_number operand.LqueryArray = 17
operand_number operand.Ltxtquery = 18
operand_number operand.QueryInt = 19

-- a word, and the type that it names
pub record TypeLine : Type 0 where
  pub word : List ℕ
  pub kind : OperandType

abbrev pub word : List ℕ → OperandType → TypeLine
word w kind = record { word = w; kind = kind }

-- what the code's line says
abbrev pub line_of : TypeWord → TypeLine
line_of l = word l.word.now l.kind

abbrev pub words : List TypeLine
words =
    word (codes "int4") operand.Int4 ∷
    word (codes "int") operand.Int4 ∷
    word (codes "integer") operand.Int4 ∷
    word (codes "int8") operand.Int8 ∷
    word (codes "bigint") operand.Int8 ∷
    word (codes "text") operand.Text ∷
    word (codes "bytea") operand.Bytea ∷
    word (codes "date") operand.Date ∷
    word (codes "uuid") operand.Uuid ∷
    word (codes "int4range") operand.Int4Range ∷
    word (codes "int8range") operand.Int8Range ∷
    word (codes "daterange") operand.DateRange ∷
    word (codes "inet") operand.Inet ∷
    word (codes "ltree") operand.Ltree ∷
    word (codes "hstore") operand.Hstore ∷
    word (codes "jsonb") operand.Jsonb ∷
    word (codes "lquery") operand.Lquery ∷
    word (codes "ltxtquery") operand.Ltxtquery ∷
    word (codes "query_int") operand.QueryInt ∷
    []

-- those behind which `[]` stands
abbrev pub list_words : List TypeLine
list_words =
    word (codes "int4") operand.Int4Array ∷
    word (codes "int") operand.Int4Array ∷
    word (codes "integer") operand.Int4Array ∷
    word (codes "text") operand.TextArray ∷
    word (codes "lquery") operand.LqueryArray ∷
    []

-- the type that a word names among those
abbrev pub kind_among : List TypeLine → List ℕ → Option OperandType
kind_among lines w = option_map (λ l. l.kind) (find (λ l. bytes_eq l.word w) lines)

-- the first line of a word is this one, so that the line counts
abbrev pub counts : List TypeLine → TypeLine → Bool
counts lines l = option_map_or (λ kind. operand_number kind == operand_number l.kind) (kind_among lines l.word) false

-- the type with this word, with or without `[]` behind it
abbrev pub operand_named : List ℕ → Bool → Option OperandType
operand_named w list = if list then kind_among list_words w else kind_among words w

-- the operand type that is a column type
abbrev pub as_operand : ColumnType → OperandType
as_operand column.Int4 = operand.Int4
as_operand column.Int8 = operand.Int8
as_operand column.Text = operand.Text
as_operand column.Bytea = operand.Bytea
as_operand column.Date = operand.Date
as_operand column.Uuid = operand.Uuid
as_operand column.Int4Range = operand.Int4Range
as_operand column.Int8Range = operand.Int8Range
as_operand column.DateRange = operand.DateRange
as_operand column.Inet = operand.Inet
as_operand column.Ltree = operand.Ltree
as_operand column.Hstore = operand.Hstore
as_operand column.Jsonb = operand.Jsonb
as_operand column.Int4Array = operand.Int4Array

-- the column type that an operand type is, if any
abbrev pub as_column : OperandType → Option ColumnType
as_column operand.Int4 = Some column.Int4
as_column operand.Int8 = Some column.Int8
as_column operand.Text = Some column.Text
as_column operand.Bytea = Some column.Bytea
as_column operand.Date = Some column.Date
as_column operand.Uuid = Some column.Uuid
as_column operand.Int4Range = Some column.Int4Range
as_column operand.Int8Range = Some column.Int8Range
as_column operand.DateRange = Some column.DateRange
as_column operand.Inet = Some column.Inet
as_column operand.Ltree = Some column.Ltree
as_column operand.Hstore = Some column.Hstore
as_column operand.Jsonb = Some column.Jsonb
as_column operand.Int4Array = Some column.Int4Array
as_column operand.TextArray = None
as_column operand.Lquery = None
as_column operand.LqueryArray = None
as_column operand.Ltxtquery = None
as_column operand.QueryInt = None

-- the column type with this word
abbrev pub column_named : List ℕ → Bool → Option ColumnType
column_named w list = option_and_then as_column (operand_named w list)

-- the column types in the order of their numbers
abbrev pub all_types : List ColumnType
all_types =
    column.Int4 ∷
    column.Int8 ∷
    column.Text ∷
    column.Bytea ∷
    column.Date ∷
    column.Uuid ∷
    column.Int4Range ∷
    column.Int8Range ∷
    column.DateRange ∷
    column.Inet ∷
    column.Ltree ∷
    column.Hstore ∷
    column.Jsonb ∷
    column.Int4Array ∷
    []

-- the column type with this number
abbrev pub type_numbered : ℕ → Option ColumnType
type_numbered n = find (λ kind. type_number kind == n) all_types

abbrev pub same_operand : OperandType → OperandType → Bool
same_operand a b = operand_number a == operand_number b

-- which values a column type has: those of a crate of types, and of which kind
abbrev pub family_of : ColumnType → Family
family_of column.Int4 = family.Scalar scalars.Int4
family_of column.Int8 = family.Scalar scalars.Int8
family_of column.Text = family.Scalar scalars.Text
family_of column.Bytea = family.Scalar scalars.Bytea
family_of column.Date = family.Scalar scalars.Date
family_of column.Uuid = family.Scalar scalars.Uuid
family_of column.Int4Range = family.Range ranges.Int4
family_of column.Int8Range = family.Range ranges.Int8
family_of column.DateRange = family.Range ranges.Date
family_of column.Inet = family.Inet
family_of column.Ltree = family.Path
family_of column.Hstore = family.Hstore
family_of column.Jsonb = family.Json
family_of column.Int4Array = family.IntArray
