-- Values as plain data, and which are valid.
use Rattle.std.specs.Prelude.{ℕ, List, ℤ, Option, None, Some, map, option_map}
use Rattle.serde_json.specs.Data.{Data}
use Rattle.gx_scalar.specs.declared.scalar.Scalar.{Scalar}
use Rattle.gx_scalar.specs.Values as scalar_values
use Rattle.gx_range.specs.declared.range.Range.{Range}
use Rattle.gx_range.specs.declared.range.RangeKind.TheVariants.{Int8}
use Rattle.gx_range.specs.Values.{IsRange}
use Rattle.gx_inet.specs.declared.inet.Inet.{Inet}
use Rattle.gx_inet.specs.Value.{IsInet}
use Rattle.gx_ltree.specs.Path.{IsPath}
use Rattle.gx_hstore.specs.Map.{Pair, IsHstore}
use Rattle.gx_intarr.specs.Arrays.{IsArray}
use Rattle.gx_json.specs.Tree.{data_of}
use Rattle.gx_json.specs.Valid.{IsDocument}
use Rattle.gx_value.specs.declared.types.ColumnType.{ColumnType}
use Rattle.gx_value.specs.declared.types.Family.{Family}
use Rattle.gx_value.specs.declared.types.Family.TheVariants as family
use Rattle.gx_value.specs.declared.value.Value.{Value}
use Rattle.gx_value.specs.declared.value.Value.TheVariants as value
use Rattle.gx_value.specs.Types.{family_of}
use Rattle.std.specs.List.{AllZip, AllByRecursion}

-- a scalar, a range, an address, a list of labels, a map as its pairs, a list of numbers, a tree
pub data Datum : Type 0 where
  scalar : Scalar → Datum
  range : Range → Datum
  inet : Inet → Datum
  path : List (List ℕ) → Datum
  hstore : List Pair → Datum
  int_array : List ℤ → Datum
  json : Data → Datum

-- what a value of the code is
abbrev pub datum_of : Value → Datum
datum_of (value.Scalar s) = scalar s
datum_of (value.Range r) = range r
datum_of (value.Inet i) = inet i
datum_of (value.Path p) = path p
datum_of (value.Hstore h) = hstore h
datum_of (value.IntArray a) = int_array a
datum_of (value.Json j) = json (data_of j)

-- the fields of a row; None is NULL
abbrev pub row_of : List (Option Value) → List (Option Datum)
row_of fields = map (option_map datum_of) fields

-- a valid value of the family
abbrev pub IsOfFamily : Family → Datum → Type 0
IsOfFamily (family.Scalar kind) (scalar s) = scalar_values.IsScalar kind s
IsOfFamily (family.Range kind) (range r) = IsRange kind r
IsOfFamily family.Inet (inet i) = IsInet i
IsOfFamily family.Path (path p) = IsPath p
IsOfFamily family.Hstore (hstore h) = IsHstore h
IsOfFamily family.Json (json d) = IsDocument d
IsOfFamily family.IntArray (int_array items) = IsArray items
IsOfFamily _ _ = ⊥

-- a valid value of the column type
abbrev pub IsValue : ColumnType → Datum → Type 0
IsValue kind d = IsOfFamily (family_of kind) d

-- a valid value of some type
abbrev pub IsDatum : Datum → Type 0
IsDatum (scalar s) = scalar_values.IsValid s
IsDatum (range r) = IsRange Int8 r
IsDatum (inet i) = IsInet i
IsDatum (path p) = IsPath p
IsDatum (hstore h) = IsHstore h
IsDatum (int_array items) = IsArray items
IsDatum (json d) = IsDocument d

-- NULL, or a valid value of the column type
abbrev pub IsField : ColumnType → Option Datum → Type 0
IsField kind None = Unit {0}
IsField kind (Some d) = IsValue kind d

-- a field for each column
abbrev pub IsRow : List ColumnType → List (Option Datum) → Type 0
IsRow kinds row = AllZip IsField kinds row

-- NULL, or a valid value of some type
abbrev pub IsSomeField : Option Datum → Type 0
IsSomeField None = Unit {0}
IsSomeField (Some d) = IsDatum d

abbrev pub AreFields : List (Option Datum) → Type 0
AreFields row = AllByRecursion IsSomeField row
