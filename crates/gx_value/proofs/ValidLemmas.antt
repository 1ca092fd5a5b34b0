-- Values of a column type are valid.
use Rattle.std.proofs.Common.{List, [], ◌∷◌, Option, None, Some}
use Rattle.gx_range.specs.declared.range.Range.{Range}
use Rattle.gx_range.specs.declared.range.Range.TheVariants.{Empty, Span}
use Rattle.gx_range.specs.declared.range.RangeKind.{RangeKind}
use Rattle.gx_range.specs.declared.range.RangeKind.TheVariants.{Int8}
use Rattle.gx_range.specs.Values.{IsRange}
use Rattle.gx_range.proofs.EncodingLemmas.{fits_wide}
use Rattle.gx_value.specs.declared.types.ColumnType.{ColumnType}
use Rattle.gx_value.specs.declared.types.Family.{Family}
use Rattle.gx_value.specs.declared.types.Family.TheVariants as family
use Rattle.gx_value.specs.Types.{family_of}
use Rattle.gx_value.specs.Values.{Datum, scalar, range, inet, path, hstore, int_array, json, IsOfFamily, IsDatum, IsRow, AreFields}

wide_range : (kind : RangeKind) (r : Range) → IsRange kind r → IsRange Int8 r
wide_range kind Empty valid = tt
wide_range kind (Span l u) valid = (fits_wide kind l valid.0, fits_wide kind u valid.1, valid.2)

valid_datum : (f : Family) (d : Datum) → IsOfFamily f d → IsDatum d
valid_datum (family.Scalar kind) (scalar s) valid = valid.1
valid_datum (family.Range kind) (range r) valid = wide_range kind r valid
valid_datum family.Inet (inet i) valid = valid
valid_datum family.Path (path p) valid = valid
valid_datum family.Hstore (hstore h) valid = valid
valid_datum family.Json (json d) valid = valid
valid_datum family.IntArray (int_array items) valid = valid
valid_datum _ _ valid = absurd valid

pub valid_row : (kinds : List ColumnType) (row : List (Option Datum)) → IsRow kinds row → AreFields row
valid_row [] [] valid = tt
valid_row [] (v ∷ row) valid = absurd valid
valid_row (kind ∷ kinds) [] valid = absurd valid
valid_row (kind ∷ kinds) (None ∷ row) valid = (tt, valid_row kinds row valid.1)
valid_row (kind ∷ kinds) (Some d ∷ row) valid = (valid_datum (family_of kind) d valid.0, valid_row kinds row valid.1)
