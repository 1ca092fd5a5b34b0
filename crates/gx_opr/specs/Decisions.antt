-- The operators over values of every type decided: each test is true exactly where the operator holds.
use Rattle.std.specs.Prelude.{ℕ, ℤ, Bool, false, List, Option, None, Some}
use Rattle.std.specs.Option.{option_map_or}
use Rattle.gx_scalar.specs.declared.scalar.Scalar.{Scalar}
use Rattle.gx_scalar.specs.declared.scalar.Scalar.TheVariants as scalars
use Rattle.gx_scalar.specs.Operators as of_scalars
use Rattle.gx_range.specs.declared.range.Range.{Range}
use Rattle.gx_range.specs.Decisions as of_ranges
use Rattle.gx_inet.specs.declared.inet.Inet.{Inet}
use Rattle.gx_inet.specs.Decisions as of_inets
use Rattle.gx_ltree.specs.Operators as of_labels
use Rattle.gx_lquery.specs.Tests.{matches_path, matches_any}
use Rattle.gx_ltxtquery.specs.Formula as of_words
use Rattle.gx_hstore.specs.Map.{Pair}
use Rattle.gx_hstore.specs.Decisions as of_maps
use Rattle.gx_hstore.specs.Operators as map_questions
use Rattle.gx_intarr.specs.Formula as of_numbers
use Rattle.gx_intarr.specs.declared.operators.IntQuery.TheVariants as array_queries
use Rattle.gx_intarr.specs.Operators as of_arrays
use Rattle.serde_json.specs.Data.{Data}
use Rattle.gx_json.specs.Decisions as of_documents
use Rattle.gx_json.specs.Operators as document_questions
use Rattle.gx_value.specs.declared.operators.Operator.{Operator}
use Rattle.gx_value.specs.declared.operators.Operator.TheVariants.{Equal, Overlaps, Contains, Within, Matches, Has, Words, HasAll, HasAny, Formula}
use Rattle.gx_value.specs.Values as values
use Rattle.gx_opr.specs.Operands as rights
use Rattle.gx_opr.specs.Operators.{scalar_op, range_op, inet_op, ltree_op}

abbrev pub holds_of_scalar : Operator → Scalar → rights.Right → Bool
holds_of_scalar op v (rights.datum (values.scalar q)) = option_map_or (λ o. of_scalars.holds o v q) (scalar_op op) false
holds_of_scalar _ _ _ = false

-- a number or a day as an element
abbrev pub has_scalar : Range → Scalar → Bool
has_scalar v (scalars.Int4 n) = of_ranges.has_element v n
has_scalar v (scalars.Int8 n) = of_ranges.has_element v n
has_scalar v (scalars.Date n) = of_ranges.has_element v n
has_scalar _ _ = false

abbrev pub holds_of_range : Operator → Range → rights.Right → Bool
holds_of_range op v (rights.datum (values.range q)) = option_map_or (λ o. of_ranges.holds o v q) (range_op op) false
holds_of_range Contains v (rights.datum (values.scalar q)) = has_scalar v q
holds_of_range _ _ _ = false

abbrev pub holds_of_inet : Operator → Inet → rights.Right → Bool
holds_of_inet op v (rights.datum (values.inet q)) = option_map_or (λ o. of_inets.holds o v q) (inet_op op) false
holds_of_inet _ _ _ = false

abbrev pub holds_of_path : Operator → List (List ℕ) → rights.Right → Bool
holds_of_path op v (rights.datum (values.path q)) = option_map_or (λ o. of_labels.holds o v q) (ltree_op op) false
holds_of_path Matches v (rights.lquery q) = matches_path q.items v
holds_of_path Has v (rights.lqueries qs) = matches_any qs v
holds_of_path Words v (rights.ltxtquery t) = of_words.is_true_of t v
holds_of_path _ _ _ = false

abbrev pub holds_of_hstore : Operator → List Pair → rights.Right → Bool
holds_of_hstore Contains v (rights.datum (values.hstore q)) = of_maps.holds (map_questions.Contains q) v
holds_of_hstore Has v (rights.datum (values.scalar (scalars.Text key))) = of_maps.holds (map_questions.Has key) v
holds_of_hstore HasAll v (rights.texts keys) = of_maps.holds (map_questions.HasAll keys) v
holds_of_hstore HasAny v (rights.texts keys) = of_maps.holds (map_questions.HasAny keys) v
holds_of_hstore _ _ _ = false

abbrev pub holds_of_array : Operator → List ℤ → rights.Right → Bool
holds_of_array Overlaps v (rights.datum (values.int_array q)) = of_arrays.holds (array_queries.Overlaps q) v
holds_of_array Contains v (rights.datum (values.int_array q)) = of_arrays.holds (array_queries.Contains q) v
holds_of_array Within v (rights.datum (values.int_array q)) = of_arrays.holds (array_queries.Within q) v
holds_of_array Equal v (rights.datum (values.int_array q)) = of_arrays.holds (array_queries.Equal q) v
holds_of_array Formula v (rights.query_int t) = of_numbers.is_true_of t v
holds_of_array _ _ _ = false

abbrev pub holds_of_json : Operator → Data → rights.Right → Bool
holds_of_json Contains v (rights.datum (values.json q)) = of_documents.holds (document_questions.Contains q) v
holds_of_json Has v (rights.datum (values.scalar (scalars.Text key))) = of_documents.holds (document_questions.Has key) v
holds_of_json HasAll v (rights.texts keys) = of_documents.holds (document_questions.HasAll keys) v
holds_of_json HasAny v (rights.texts keys) = of_documents.holds (document_questions.HasAny keys) v
holds_of_json _ _ _ = false

-- whether the operator holds of the value and the right side
unfoldable pub holds : Operator → values.Datum → rights.Right → Bool
holds op (values.scalar v) q = holds_of_scalar op v q
holds op (values.range v) q = holds_of_range op v q
holds op (values.inet v) q = holds_of_inet op v q
holds op (values.path v) q = holds_of_path op v q
holds op (values.hstore v) q = holds_of_hstore op v q
holds op (values.int_array v) q = holds_of_array op v q
holds op (values.json v) q = holds_of_json op v q
