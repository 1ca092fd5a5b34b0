-- The queries of the classes tell the candidates.
use Rattle.std.proofs.Common.{◌≡◌, ℕ, ℤ, Bool, List, Option, Some, None, Result, Ok, Err, OnOk, refl, sym, ◌∙◌}
use Rattle.gx_scalar.specs.declared.scalar.Scalar.{Scalar}
use Rattle.gx_scalar.specs.declared.scalar.ScalarKind.{ScalarKind}
use Rattle.gx_scalar.specs.declared.scalar.ScalarKind.TheVariants.{Int4, Int8, Text, Bytea, Date, Uuid}
use Rattle.gx_range.specs.declared.range.Range.{Range}
use Rattle.gx_inet.specs.declared.inet.Inet.{Inet}
use Rattle.gx_hstore.specs.Map.{Pair}
use Rattle.gx_gist.specs.declared.test.Test.{Test}
use Rattle.gx_gist.specs.declared.test.Test.TheVariants.{No, Maybe, Yes}
use Rattle.gx_gist_tree.specs.Trees.{passes}
use Rattle.gx_class_scalar.specs.declared.query.ScalarQuery.{ScalarQuery}
use Rattle.gx_class_scalar.specs.Keys as scalar_keys
use Rattle.gx_class_scalar.specs.Tests as scalar_tests
use Rattle.gx_class_range.specs.declared.query.RangeQuery.{RangeQuery}
use Rattle.gx_class_range.specs.Keys as range_keys
use Rattle.gx_class_range.specs.Tests as range_tests
use Rattle.gx_class_inet.specs.declared.query.InetQuery.{InetQuery}
use Rattle.gx_class_inet.specs.Keys as inet_keys
use Rattle.gx_class_inet.specs.Tests as inet_tests
use Rattle.gx_ltxtquery.specs.declared.operators.LtreeQuery.{LtreeQuery}
use Rattle.gx_class_ltree.specs.Keys as path_keys
use Rattle.gx_class_ltree.specs.Tests as path_tests
use Rattle.gx_class_sets.specs.declared.hstore_query.HstoreQuery.{HstoreQuery}
use Rattle.gx_class_sets.specs.declared.int_query.IntQuery.{IntQuery}
use Rattle.gx_class_sets.specs.HstoreTests as map_tests
use Rattle.gx_class_sets.specs.IntbigTests as intbig_tests
use Rattle.gx_class_intset.specs.Keys as int_keys
use Rattle.gx_class_intset.specs.Tests as int_tests
use Rattle.serde_json.specs.Data.{Data}
use Rattle.gx_gin_arrays.specs.declared.int_query.IntQuery as gin_numbers
use Rattle.gx_gin_maps.specs.declared.hstore_query.HstoreQuery as gin_maps
use Rattle.gx_gin_documents.specs.declared.json_query.JsonQuery.{JsonQuery}
use Rattle.gx_value.specs.declared.classes.Class.TheVariants.{RangeOps, InetOps, GistLtree, GistHstore, GistInt, GistIntbig, ArrayOps, GinInt, GinHstore, JsonbOps, JsonbPathOps}
use Rattle.gx_value.specs.declared.operators.Operator.{Operator}
use Rattle.gx_value.specs.Values.{scalar, range, inet, path, hstore, int_array, json}
use Rattle.gx_opr.specs.Operands.{Right}
use Rattle.gx_candidates.specs.Candidates.{array_passes, candidate, gin_map_passes, isnt_no, json_passes, of_scalar}
use Rattle.gx_candidates.specs.Laws.{scalar_class}
use Rattle.gx_candidates.specs.Queries.{Asks, asks, asks_scalar, IsScalarQuery, IsRangeQuery, IsInetQuery, IsPathQuery, IsMapQuery, IsSetQuery, IsArrayQuery, IsNumbersQuery, IsGinMapQuery, IsDocumentQuery, IsPathsQuery, json_path_passes}

-- what holds at any rate holds where there is a value
pub on_any : {T E : Type 0} (r : Result T E) (F : Type 0) → F → OnOk r F
on_any (Ok value) F holds = holds
on_any (Err error) F holds = tt

-- another thing that is known of the query
pub asks_same : {Q : Type 0} (has : Bool) (A B : Q → Type 0) (made : Option Q) → ((query : Q) → A query → B query) → Asks has A made → Asks has B made
asks_same has A B None under h = h
asks_same has A B (Some query) under h = (h.0, under query h.1)

pub passes_is : (t : Test) → passes t ≡ isnt_no t
passes_is No = refl
passes_is Maybe = refl
passes_is Yes = refl

-- the same of the classes of scalars
pub scalars_same : (kind : ScalarKind) (op : Operator) (q : Right) (A B : ScalarQuery → Type 0) (made : Option ScalarQuery)
    → ((query : ScalarQuery) → A query → B query) → Asks (asks_scalar op q) A made → Asks (asks (scalar_class kind) op q) B made
scalars_same Int4 op q A B made under h = asks_same (asks_scalar op q) A B made under h
scalars_same Int8 op q A B made under h = asks_same (asks_scalar op q) A B made under h
scalars_same Text op q A B made under h = asks_same (asks_scalar op q) A B made under h
scalars_same Bytea op q A B made under h = asks_same (asks_scalar op q) A B made under h
scalars_same Date op q A B made under h = asks_same (asks_scalar op q) A B made under h
scalars_same Uuid op q A B made under h = asks_same (asks_scalar op q) A B made under h

scalar_is : (kind : ScalarKind) (n : ℕ) (op : Operator) (q : Right) (v : Scalar) → candidate (scalar_class kind) n op q (scalar v) ≡ of_scalar op q v
unfolding candidate
scalar_is Int4 n op q v = refl
scalar_is Int8 n op q v = refl
scalar_is Text n op q v = refl
scalar_is Bytea n op q v = refl
scalar_is Date n op q v = refl
scalar_is Uuid n op q v = refl

pub scalar_test : (kind : ScalarKind) (n : ℕ) (op : Operator) (q : Right) (query : ScalarQuery) → IsScalarQuery op q query
    → (v : Scalar) → passes (scalar_tests.leaf_answer query.op (scalar_keys.leaf_key v) query.operand) ≡ candidate (scalar_class kind) n op q (scalar v)
scalar_test kind n op q query is v = passes_is (scalar_tests.leaf_answer query.op (scalar_keys.leaf_key v) query.operand) ∙ is.test v ∙ sym (scalar_is kind n op q v)

pub range_test : (n : ℕ) (op : Operator) (q : Right) (query : RangeQuery) → IsRangeQuery op q query
    → (v : Range) → passes (range_tests.leaf_answer (range_keys.leaf_key v) query) ≡ candidate RangeOps n op q (range v)
unfolding candidate
range_test n op q query is v = passes_is (range_tests.leaf_answer (range_keys.leaf_key v) query) ∙ is.test v

pub inet_test : (n : ℕ) (op : Operator) (q : Right) (query : InetQuery) → IsInetQuery op q query
    → (v : Inet) → passes (inet_tests.leaf_answer query.op (inet_keys.leaf_key v) query.operand) ≡ candidate InetOps n op q (inet v)
unfolding candidate
inet_test n op q query is v = passes_is (inet_tests.leaf_answer query.op (inet_keys.leaf_key v) query.operand) ∙ is.test v

pub path_test : (n : ℕ) (op : Operator) (q : Right) (query : LtreeQuery) → IsPathQuery op q query → (v : List (List ℕ))
    → passes (path_tests.leaf_answer n (path_keys.leaf_key n v).low.path (path_keys.leaf_key n v).low.cut (path_keys.leaf_key n v).sig query) ≡ candidate GistLtree n op q (path v)
unfolding candidate
path_test n op q query is v =
    passes_is (path_tests.leaf_answer n (path_keys.leaf_key n v).low.path (path_keys.leaf_key n v).low.cut (path_keys.leaf_key n v).sig query) ∙ is.test n v

pub map_test : (n : ℕ) (op : Operator) (q : Right) (query : HstoreQuery) → IsMapQuery op q query
    → (v : List Pair) → passes (map_tests.answer n (map_tests.leaf_key n v) query) ≡ candidate GistHstore n op q (hstore v)
unfolding candidate
map_test n op q query is v = passes_is (map_tests.answer n (map_tests.leaf_key n v) query) ∙ is.test n v

pub set_test : (n : ℕ) (op : Operator) (q : Right) (query : IntQuery) → IsSetQuery op q query
    → (v : List ℤ) → passes (int_tests.leaf_answer n (int_keys.leaf_key n v) query) ≡ candidate GistInt n op q (int_array v)
unfolding candidate
set_test n op q query is v = passes_is (int_tests.leaf_answer n (int_keys.leaf_key n v) query) ∙ is.intervals n v

pub signed_test : (n : ℕ) (op : Operator) (q : Right) (query : IntQuery) → IsSetQuery op q query
    → (v : List ℤ) → passes (intbig_tests.leaf_answer n (intbig_tests.leaf_key n v) query) ≡ candidate GistIntbig n op q (int_array v)
unfolding candidate
signed_test n op q query is v = passes_is (intbig_tests.leaf_answer n (intbig_tests.leaf_key n v) query) ∙ is.signature n v

-- the same of GIN classes
pub array_test : (op : Operator) (q : Right) (query : gin_numbers.IntQuery) → IsArrayQuery op q query → (v : List ℤ) → array_passes query v ≡ candidate ArrayOps 0 op q (int_array v)
unfolding candidate
array_test op q query is v = is.test v

pub numbers_test : (op : Operator) (q : Right) (query : gin_numbers.IntQuery) → IsNumbersQuery op q query → (v : List ℤ) → array_passes query v ≡ candidate GinInt 0 op q (int_array v)
unfolding candidate
numbers_test op q query is v = is.test v

pub gin_map_test : (op : Operator) (q : Right) (query : gin_maps.HstoreQuery) → IsGinMapQuery op q query → (v : List Pair) → gin_map_passes query v ≡ candidate GinHstore 0 op q (hstore v)
unfolding candidate
gin_map_test op q query is v = is.test v

pub document_test : (op : Operator) (q : Right) (query : JsonQuery) → IsDocumentQuery op q query → (v : Data) → json_passes query v ≡ candidate JsonbOps 0 op q (json v)
unfolding candidate
document_test op q query is v = is.test v

pub paths_test : (op : Operator) (q : Right) (query : JsonQuery) → IsPathsQuery op q query → (v : Data) → json_path_passes query v ≡ candidate JsonbPathOps 0 op q (json v)
unfolding candidate
paths_test op q query is v = is.test v
