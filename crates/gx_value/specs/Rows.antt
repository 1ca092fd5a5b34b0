-- Rows as bytes, and values as text.
use Rattle.std.specs.Prelude.{◌≡◌, ℕ, ◌<◌, List, [], ◌∷◌, ◌++◌, length, Option, None, Some}
use Rattle.serde_json.specs.Written.{compact_text}
use Rattle.gx_bytes.specs.Varints as varints
use Rattle.gx_scalar.specs.Encodings as scalars
use Rattle.gx_scalar.specs.Texts as scalar_texts
use Rattle.gx_range.specs.Encodings as ranges
use Rattle.gx_range.specs.Texts as range_texts
use Rattle.gx_inet.specs.Encoding as addresses
use Rattle.gx_inet.specs.Text as address_texts
use Rattle.gx_ltree.specs.Text as paths
use Rattle.gx_hstore.specs.Encoding as maps
use Rattle.gx_hstore.specs.Printing as map_texts
use Rattle.gx_intarr.specs.Arrays as arrays
use Rattle.gx_json.specs.Print as documents
use Rattle.gx_value.specs.declared.rows.RowError.{RowError}
use Rattle.gx_value.specs.declared.rows.RowError.TheVariants.{TooLong, Memory}
use Rattle.gx_value.specs.declared.types.ColumnType.{ColumnType}
use Rattle.gx_value.specs.declared.types.Family.{Family}
use Rattle.gx_value.specs.declared.types.Family.TheVariants as family
use Rattle.gx_value.specs.Types.{family_of}
use Rattle.gx_value.specs.Values.{Datum, scalar, range, inet, path, hstore, int_array, json, IsField, IsRow}

-- the bytes of a value: those of its crate of types
abbrev pub IsEncoded : List ℕ → Datum → Type 0
IsEncoded bytes (scalar s) = bytes ≡ scalars.encoded s
IsEncoded bytes (range r) = bytes ≡ ranges.encoded r
IsEncoded bytes (inet i) = bytes ≡ addresses.encoded i
IsEncoded bytes (path p) = bytes ≡ paths.printed p
IsEncoded bytes (hstore h) = maps.IsEncoded bytes h
IsEncoded bytes (int_array items) = arrays.IsEncoding bytes items
IsEncoded bytes (json d) = bytes ≡ compact_text d

-- new is old with the bytes of the value at its end
abbrev pub AppendsValue : List ℕ → List ℕ → Datum → Type 0
AppendsValue old new d = (bytes : List ℕ) × IsEncoded bytes d × (new ≡ old ++ bytes)

-- byte 0 for NULL; byte 1, and the bytes of the value as a field
abbrev pub IsFieldBytes : List ℕ → Option Datum → Type 0
IsFieldBytes bytes None = bytes ≡ 0 ∷ []
IsFieldBytes bytes (Some d) =
    (value : List ℕ) × (part : List ℕ) × IsEncoded value d × varints.IsField part value × (bytes ≡ 1 ∷ part)

-- new is old with the bytes of the field at its end
abbrev pub AppendsField : List ℕ → List ℕ → Option Datum → Type 0
AppendsField old new field = (bytes : List ℕ) × IsFieldBytes bytes field × (new ≡ old ++ bytes)

-- field by field
abbrev pub IsRowBytes : List ℕ → List (Option Datum) → Type 0
IsRowBytes bytes [] = bytes ≡ []
IsRowBytes bytes (field ∷ fields) =
    (front : List ℕ) × (rest : List ℕ) × IsFieldBytes front field × IsRowBytes rest fields × (bytes ≡ front ++ rest)

-- no row has more bytes
abbrev pub row_limit : ℕ
row_limit = 7_900

-- the row's bytes are more, and so many; want of memory is free
abbrev pub RefusesRow : List (Option Datum) → RowError → Type 0
RefusesRow row (TooLong n) = (bytes : List ℕ) × IsRowBytes bytes row × (n ≡ length bytes) × (row_limit < n)
RefusesRow row Memory = Unit {0}

-- a part's length and the part stand at the front
abbrev pub TakesPart : List ℕ → List ℕ → List ℕ → Type 0
TakesPart bytes part rest = (front : List ℕ) × varints.IsField front part × (bytes ≡ front ++ rest)

-- a valid field of the type stands at the front
pub record TakesField (kind : ColumnType) (bytes : List ℕ) (field : Option Datum) (rest : List ℕ) : Type 0 where
  pub front : List ℕ
  pub is_field : IsField kind field
  pub is_front : IsFieldBytes front field
  pub parts : bytes ≡ front ++ rest

-- a valid row of these types with these bytes
pub record SpellsRow (kinds : List ColumnType) (bytes : List ℕ) (row : List (Option Datum)) : Type 0 where
  pub is_row : IsRow kinds row
  pub is_bytes : IsRowBytes bytes row

-- the printed text of a value of the family
abbrev pub printed_as : Family → Datum → List ℕ
printed_as _ (scalar s) = scalar_texts.printed s
printed_as (family.Range kind) (range r) = range_texts.printed kind r
printed_as _ (range r) = []
printed_as _ (inet i) = address_texts.printed i
printed_as _ (path p) = paths.printed p
printed_as _ (hstore h) = map_texts.printed h
printed_as _ (int_array items) = arrays.printed items
printed_as _ (json d) = documents.printed d

-- the printed text of a value of the column type
abbrev pub printed : ColumnType → Datum → List ℕ
printed kind d = printed_as (family_of kind) d
