-- What each class is asked: an operator with its right side as the class's own query, whose test tells the candidates.
use Rattle.std.specs.Prelude.{◌≡◌, ℕ, ℤ, Bool, true, false, List, Option, None, Some, is_some}
use Rattle.serde_json.specs.Data.{Data}
use Rattle.gx_scalar.specs.declared.scalar.Scalar.{Scalar}
use Rattle.gx_scalar.specs.declared.scalar.Scalar.TheVariants as scalars
use Rattle.gx_scalar.specs.declared.scalar.ScalarKind.{ScalarKind}
use Rattle.gx_scalar.specs.Values.{IsScalar}
use Rattle.gx_range.specs.declared.range.Range.{Range}
use Rattle.gx_inet.specs.declared.inet.Inet.{Inet}
use Rattle.gx_inet.specs.Value.{IsInet}
use Rattle.gx_hstore.specs.Map.{Pair}
use Rattle.gx_ltxtquery.specs.declared.operators.LtreeQuery.{LtreeQuery}
use Rattle.gx_class_scalar.specs.declared.query.ScalarQuery.{ScalarQuery}
use Rattle.gx_class_scalar.specs.Keys as scalar_keys
use Rattle.gx_class_scalar.specs.Tests as scalar_tests
use Rattle.gx_class_range.specs.declared.query.RangeQuery.{RangeQuery}
use Rattle.gx_class_range.specs.Tests as range_tests
use Rattle.gx_class_inet.specs.declared.query.InetQuery.{InetQuery}
use Rattle.gx_class_inet.specs.Keys as inet_keys
use Rattle.gx_class_inet.specs.Tests as inet_tests
use Rattle.gx_class_sets.specs.HstoreTests as map_tests
use Rattle.gx_class_sets.specs.declared.hstore_query.HstoreQuery.{HstoreQuery}
use Rattle.gx_class_sets.specs.declared.int_query.IntQuery.{IntQuery}
use Rattle.gx_class_intset.specs.Tests as int_tests
use Rattle.gx_gin_arrays.specs.Tests as array_tests
use Rattle.gx_gin_arrays.specs.declared.int_query.IntQuery as gin_numbers
use Rattle.gx_gin_maps.specs.Tests as gin_map_tests
use Rattle.gx_gin_maps.specs.declared.hstore_query.HstoreQuery as gin_maps
use Rattle.gx_gin_documents.specs.Paths as paths
use Rattle.gx_gin_documents.specs.Tests as document_tests
use Rattle.gx_gin_documents.specs.declared.json_query.JsonQuery.{JsonQuery}
use Rattle.gx_value.specs.declared.classes.Class.{Class}
use Rattle.gx_value.specs.declared.classes.Class.TheVariants.{GistInt4, GistInt8, GistText, GistBytea, GistDate, GistUuid, RangeOps, InetOps, GistLtree, GistHstore, GistInt, GistIntbig, ArrayOps, GinInt, GinHstore, JsonbOps, JsonbPathOps}
use Rattle.gx_value.specs.declared.operators.Operator.{Operator}
use Rattle.gx_value.specs.declared.operators.Operator.TheVariants.{Equal, Overlaps, Contains, Within, Matches, Has, Words, HasAll, HasAny, Formula}
use Rattle.gx_value.specs.Values.{IsDatum, scalar, range, inet, path, hstore, int_array, json}
use Rattle.gx_opr.specs.Operands.{Right, datum, texts, lquery, lqueries, ltxtquery, query_int}
use Rattle.gx_opr.specs.Operators.{scalar_op, range_op, inet_op, ltree_op}
use Rattle.gx_candidates.specs.Candidates.{isnt_no, of_scalar, range_passes, of_range, of_inet, path_passes, of_path, map_passes, of_map, signed_passes, of_signed, set_passes, of_set, reached, array_passes, of_array, of_numbers, gin_map_passes, of_gin_map, json_passes, of_document, of_paths}

-- a query where there is something to ask, and only there
abbrev pub Asks : {Q : Type 0} → Bool → (Q → Type 0) → Option Q → Type 0
Asks has IsQuery None = has ≡ false
Asks has IsQuery (Some query) = (has ≡ true) × IsQuery query

-- a value among right sides is a valid one of some type
abbrev pub IsValidRight : Right → Type 0
IsValidRight (datum d) = IsDatum d
IsValidRight _ = Unit {0}

abbrev pub IsScalarRight : ScalarKind → Right → Type 0
IsScalarRight kind (datum (scalar s)) = IsScalar kind s
IsScalarRight kind _ = Unit {0}

-- The right sides with which an operator is a question to the classes of a type.

abbrev pub asks_scalar : Operator → Right → Bool
asks_scalar op (datum (scalar q)) = is_some (scalar_op op)
asks_scalar _ _ = false

abbrev pub is_element : Scalar → Bool
is_element (scalars.Int4 n) = true
is_element (scalars.Int8 n) = true
is_element (scalars.Date n) = true
is_element _ = false

abbrev pub asks_range : Operator → Right → Bool
asks_range op (datum (range q)) = is_some (range_op op)
asks_range Contains (datum (scalar q)) = is_element q
asks_range _ _ = false

abbrev pub asks_inet : Operator → Right → Bool
asks_inet op (datum (inet q)) = is_some (inet_op op)
asks_inet _ _ = false

abbrev pub asks_path : Operator → Right → Bool
asks_path op (datum (path q)) = is_some (ltree_op op)
asks_path Matches (lquery q) = true
asks_path Has (lqueries qs) = true
asks_path Words (ltxtquery t) = true
asks_path _ _ = false

abbrev pub asks_map : Operator → Right → Bool
asks_map Contains (datum (hstore q)) = true
asks_map Has (datum (scalar (scalars.Text key))) = true
asks_map HasAll (texts keys) = true
asks_map HasAny (texts keys) = true
asks_map _ _ = false

-- gist__int_ops and gist__intbig_ops
abbrev pub asks_set : Operator → Right → Bool
asks_set Overlaps (datum (int_array q)) = true
asks_set Contains (datum (int_array q)) = true
asks_set Equal (datum (int_array q)) = true
asks_set Formula (query_int t) = true
asks_set _ _ = false

abbrev pub asks_array : Operator → Right → Bool
asks_array Overlaps (datum (int_array q)) = true
asks_array Contains (datum (int_array q)) = true
asks_array Within (datum (int_array q)) = true
asks_array Equal (datum (int_array q)) = true
asks_array _ _ = false

-- gin__int_ops
abbrev pub asks_numbers : Operator → Right → Bool
asks_numbers Formula (query_int t) = true
asks_numbers op q = asks_array op q

abbrev pub asks_document : Operator → Right → Bool
asks_document Contains (datum (json q)) = true
asks_document Has (datum (scalar (scalars.Text key))) = true
asks_document HasAll (texts keys) = true
asks_document HasAny (texts keys) = true
asks_document _ _ = false

-- jsonb_path_ops
abbrev pub asks_paths : Operator → Right → Bool
asks_paths Contains (datum (json q)) = true
asks_paths _ _ = false

-- the right sides with which an operator is a question to the class
abbrev pub asks : Class → Operator → Right → Bool
asks GistInt4 op q = asks_scalar op q
asks GistInt8 op q = asks_scalar op q
asks GistText op q = asks_scalar op q
asks GistBytea op q = asks_scalar op q
asks GistDate op q = asks_scalar op q
asks GistUuid op q = asks_scalar op q
asks RangeOps op q = asks_range op q
asks InetOps op q = asks_inet op q
asks GistLtree op q = asks_path op q
asks GistHstore op q = asks_map op q
asks GistInt op q = asks_set op q
asks GistIntbig op q = asks_set op q
asks ArrayOps op q = asks_array op q
asks GinInt op q = asks_numbers op q
asks GinHstore op q = asks_map op q
asks JsonbOps op q = asks_document op q
asks JsonbPathOps op q = asks_paths op q

-- The class's query: valid where the right side is, and its test doesn't say No exactly of the candidates.

pub record IsScalarQuery (op : Operator) (q : Right) (query : ScalarQuery) : Type 0 where
  pub valid : (kind : ScalarKind) → IsScalarRight kind q → IsScalar kind query.operand
  pub test : (v : Scalar) → isnt_no (scalar_tests.leaf_answer query.op (scalar_keys.leaf_key v) query.operand) ≡ of_scalar op q v

pub record IsRangeQuery (op : Operator) (q : Right) (query : RangeQuery) : Type 0 where
  pub valid : IsValidRight q → range_tests.IsQuery query
  pub test : (v : Range) → range_passes query v ≡ of_range op q v

pub record IsInetQuery (op : Operator) (q : Right) (query : InetQuery) : Type 0 where
  pub valid : IsValidRight q → IsInet query.operand
  pub test : (v : Inet) → isnt_no (inet_tests.leaf_answer query.op (inet_keys.leaf_key v) query.operand) ≡ of_inet op q v

-- signatures of any length
pub record IsPathQuery (op : Operator) (q : Right) (query : LtreeQuery) : Type 0 where
  pub test : (n : ℕ) (v : List (List ℕ)) → path_passes n query v ≡ of_path n op q v

pub record IsMapQuery (op : Operator) (q : Right) (query : HstoreQuery) : Type 0 where
  pub valid : IsValidRight q → map_tests.IsQuery query
  pub test : (n : ℕ) (v : List Pair) → map_passes n query v ≡ of_map n op q v

-- of both classes: signatures of any length, and any number of intervals
pub record IsSetQuery (op : Operator) (q : Right) (query : IntQuery) : Type 0 where
  pub valid : IsValidRight q → int_tests.IsQuery query
  pub signature : (n : ℕ) (v : List ℤ) → signed_passes n query v ≡ of_signed n op q v
  pub intervals : (r : ℕ) (v : List ℤ) → set_passes r query v ≡ of_set r op q v

pub record IsArrayQuery (op : Operator) (q : Right) (query : gin_numbers.IntQuery) : Type 0 where
  pub valid : IsValidRight q → array_tests.IsArrayQuery query
  pub test : (v : List ℤ) → array_passes query v ≡ of_array op q v

pub record IsNumbersQuery (op : Operator) (q : Right) (query : gin_numbers.IntQuery) : Type 0 where
  pub valid : IsValidRight q → array_tests.IsQuery query
  pub test : (v : List ℤ) → array_passes query v ≡ of_numbers op q v

pub record IsGinMapQuery (op : Operator) (q : Right) (query : gin_maps.HstoreQuery) : Type 0 where
  pub valid : IsValidRight q → gin_map_tests.IsQuery query
  pub test : (v : List Pair) → gin_map_passes query v ≡ of_gin_map op q v

pub record IsDocumentQuery (op : Operator) (q : Right) (query : JsonQuery) : Type 0 where
  pub valid : IsValidRight q → document_tests.IsQuery query
  pub test : (v : Data) → json_passes query v ≡ of_document op q v

abbrev pub json_path_passes : JsonQuery → Data → Bool
json_path_passes q v = reached (document_tests.path_mode q) (document_tests.path_wanted q) (document_tests.path_answer q) (paths.items v)

pub record IsPathsQuery (op : Operator) (q : Right) (query : JsonQuery) : Type 0 where
  pub valid : IsValidRight q → document_tests.IsPathQuery query
  pub test : (v : Data) → json_path_passes query v ≡ of_paths op q v
