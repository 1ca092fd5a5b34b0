-- The printed text of a value is read as that value, by the laws of the types.
use Rattle.std.proofs.Common.{ℕ, List, ℤ, Ok}
use Rattle.serde_json.specs.Data.{Data}
use Rattle.gx_bytes.specs.Blanks.{core_of}
use Rattle.gx_scalar.specs.declared.scalar.Scalar.{Scalar}
use Rattle.gx_scalar.specs.Values as scalar_values
use Rattle.gx_scalar.specs.Texts as scalars
use Rattle.gx_range.specs.declared.range.Range.{Range}
use Rattle.gx_range.specs.declared.range.RangeKind.{RangeKind}
use Rattle.gx_range.specs.Values.{IsRange}
use Rattle.gx_range.specs.Texts as ranges
use Rattle.gx_inet.specs.declared.inet.Inet.{Inet}
use Rattle.gx_inet.specs.Value.{IsInet}
use Rattle.gx_inet.specs.Text as addresses
use Rattle.gx_ltree.specs.Path.{IsPath}
use Rattle.gx_ltree.specs.Text as paths
use Rattle.gx_hstore.specs.Map.{Pair, IsMap}
use Rattle.gx_hstore.specs.Text as maps
use Rattle.gx_hstore.specs.Printing as map_texts
use Rattle.gx_json.specs.Valid.{IsDocument}
use Rattle.gx_json.specs.Text as documents
use Rattle.gx_json.specs.Print as document_texts
use Rattle.gx_intarr.specs.Arrays as arrays
use Rattle.gx_value.specs.declared.types.Family.{Family}
use Rattle.gx_value.specs.declared.types.Family.TheVariants as family
use Rattle.gx_value.specs.Values.{Datum, scalar, range, inet, path, hstore, int_array, json, IsOfFamily}
use Rattle.gx_value.specs.Literals.{Spells}
use Rattle.gx_value.specs.Rows.{printed_as}

-- the laws of the types
pub record Laws : Type 0 where
  pub scalar_again : (s : Scalar) → scalar_values.IsValid s → scalars.Spells (scalars.printed s) s
  pub range_again : (kind : RangeKind) (r : Range) → IsRange kind r → ranges.SpellsRange kind (core_of (ranges.printed kind r)) r
  pub inet_again : (i : Inet) → IsInet i → addresses.SpellsInet (addresses.printed i) i
  pub path_again : (p : List (List ℕ)) → IsPath p → paths.SpellsPath (paths.printed p) p
  pub map_again : (h : List Pair) → IsMap h → maps.SpellsHstore (map_texts.printed h) h
  pub document_again : (d : Data) → IsDocument d → documents.AnswersJson (document_texts.printed d) (Ok d)
  pub array_again : (items : List ℤ) → arrays.IsArray items → arrays.SpellsArray (arrays.printed items) items

pub read_again : Laws → (f : Family) (d : Datum) → IsOfFamily f d → Spells f (printed_as f d) d
read_again laws (family.Scalar kind) (scalar s) valid = (valid, laws.scalar_again s valid.1)
read_again laws (family.Range kind) (range r) valid = (laws.range_again kind r valid, valid)
read_again laws family.Inet (inet i) valid = (valid, laws.inet_again i valid)
read_again laws family.Path (path p) valid = laws.path_again p valid
read_again laws family.Hstore (hstore h) valid = laws.map_again h valid.is_map
read_again laws family.Json (json d) valid = laws.document_again d valid
read_again laws family.IntArray (int_array items) valid = laws.array_again items valid
read_again laws _ _ valid = absurd valid
