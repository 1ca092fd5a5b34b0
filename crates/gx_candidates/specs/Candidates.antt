-- Which rows an index finds for an operator: those whose value its keys don't rule out. A function of the value alone.
use Rattle.std.specs.Prelude.{ℕ, ℤ, zero, suc, Bool, true, false, ◌&&◌, List, length, map, if◌then◌else◌}
use Rattle.std.specs.Option.{option_map_or}
use Rattle.serde_json.specs.Data.{Data}
use Rattle.gx_formula.specs.Formula.{Tree}
use Rattle.gx_lquery.specs.declared.variant.Variant.{Variant}
use Rattle.gx_scalar.specs.declared.scalar.Scalar.{Scalar}
use Rattle.gx_scalar.specs.declared.scalar.Scalar.TheVariants as scalars
use Rattle.gx_range.specs.declared.range.Range.{Range}
use Rattle.gx_inet.specs.declared.inet.Inet.{Inet}
use Rattle.gx_hstore.specs.Map.{Pair}
use Rattle.gx_ltxtquery.specs.Formula as of_words
use Rattle.gx_ltxtquery.specs.declared.operators.LtreeQuery.{LtreeQuery}
use Rattle.gx_ltxtquery.specs.declared.operators.LtreeQuery.TheVariants as path_query
use Rattle.gx_kleene.specs.Answers.{leaf_formula}
use Rattle.gx_gist.specs.declared.test.Test.{Test}
use Rattle.gx_gist.specs.declared.test.Test.TheVariants.{No, Maybe, Yes}
use Rattle.gx_gin.specs.Reach.{flags, reaches}
use Rattle.gx_gin.specs.Rising.{rising_of}
use Rattle.gx_gin.specs.declared.wanted.Mode.{Mode}
use Rattle.gx_gin.specs.declared.wanted.Mode.TheVariants.{Default, All}
use Rattle.gx_gin_items.specs.Items.{shortened}
use Rattle.gx_gin_items.specs.Tests.{all_found, sure, maybe, unless_empty}
use Rattle.gx_class_scalar.specs.Keys as scalar_keys
use Rattle.gx_class_scalar.specs.Tests as scalar_tests
use Rattle.gx_class_range.specs.Keys as range_keys
use Rattle.gx_class_range.specs.Tests as range_tests
use Rattle.gx_class_range.specs.declared.query.RangeQuery.{RangeQuery}
use Rattle.gx_class_range.specs.declared.query.RangeQuery.TheVariants as range_query
use Rattle.gx_class_inet.specs.Keys as inet_keys
use Rattle.gx_class_inet.specs.Tests as inet_tests
use Rattle.gx_class_ltree.specs.Keys as path_keys
use Rattle.gx_class_ltree.specs.Tests as path_tests
use Rattle.gx_class_sets.specs.HstoreTests as map_tests
use Rattle.gx_class_sets.specs.IntbigTests as intbig_tests
use Rattle.gx_class_sets.specs.declared.hstore_query.HstoreQuery.{HstoreQuery}
use Rattle.gx_class_sets.specs.declared.hstore_query.HstoreQuery.TheVariants as map_query
use Rattle.gx_class_sets.specs.declared.int_query.IntQuery.{IntQuery}
use Rattle.gx_class_sets.specs.declared.int_query.IntQuery.TheVariants as set_query
use Rattle.gx_class_intset.specs.Intervals as intervals
use Rattle.gx_class_intset.specs.Keys as int_keys
use Rattle.gx_class_intset.specs.Tests as int_tests
use Rattle.gx_gin_arrays.specs.Numbers as arrays
use Rattle.gx_gin_arrays.specs.Tests as array_tests
use Rattle.gx_gin_arrays.specs.declared.int_query.IntQuery as gin_numbers
use Rattle.gx_gin_arrays.specs.declared.int_query.IntQuery.TheVariants as array_query
use Rattle.gx_gin_maps.specs.Tests as gin_map_tests
use Rattle.gx_gin_maps.specs.declared.hstore_query.HstoreQuery as gin_maps
use Rattle.gx_gin_maps.specs.declared.hstore_query.HstoreQuery.TheVariants as gin_map_query
use Rattle.gx_gin_documents.specs.Items as documents
use Rattle.gx_gin_documents.specs.Paths as paths
use Rattle.gx_gin_documents.specs.Tests as document_tests
use Rattle.gx_gin_documents.specs.declared.json_query.JsonQuery.{JsonQuery}
use Rattle.gx_gin_documents.specs.declared.json_query.JsonQuery.TheVariants as json_query
use Rattle.gx_value.specs.declared.classes.Class.{Class}
use Rattle.gx_value.specs.declared.classes.Class.TheVariants.{GistInt4, GistInt8, GistText, GistBytea, GistDate, GistUuid, RangeOps, InetOps, GistLtree, GistHstore, GistInt, GistIntbig, ArrayOps, GinInt, GinHstore, JsonbOps, JsonbPathOps}
use Rattle.gx_value.specs.declared.operators.Operator.{Operator}
use Rattle.gx_value.specs.declared.operators.Operator.TheVariants.{Equal, Overlaps, Contains, Within, Matches, Has, Words, HasAll, HasAny, Formula}
use Rattle.gx_value.specs.Values.{Datum, scalar, range, inet, path, hstore, int_array, json}
use Rattle.gx_opr.specs.Operands.{Right, datum, texts, lquery, lqueries, ltxtquery, query_int}
use Rattle.gx_opr.specs.Operators.{scalar_op, range_op, inet_op, ltree_op}

abbrev pub isnt_no : Test → Bool
isnt_no No = false
isnt_no Maybe = true
isnt_no Yes = true

-- GiST: the leaf test of the value's key isn't No.

abbrev pub of_scalar : Operator → Right → Scalar → Bool
of_scalar op (datum (scalar q)) v = option_map_or (λ o. isnt_no (scalar_tests.leaf_answer o (scalar_keys.leaf_key v) q)) (scalar_op op) false
of_scalar _ _ _ = false

abbrev pub range_passes : RangeQuery → Range → Bool
range_passes q v = isnt_no (range_tests.leaf_answer (range_keys.leaf_key v) q)

-- a number or a day as an element
abbrev pub of_element : Scalar → Range → Bool
of_element (scalars.Int4 n) v = range_passes (range_query.Element n) v
of_element (scalars.Int8 n) v = range_passes (range_query.Element n) v
of_element (scalars.Date n) v = range_passes (range_query.Element n) v
of_element _ _ = false

abbrev pub of_range : Operator → Right → Range → Bool
of_range op (datum (range q)) v = option_map_or (λ o. range_passes (range_query.Range o q) v) (range_op op) false
of_range Contains (datum (scalar q)) v = of_element q v
of_range _ _ _ = false

abbrev pub of_inet : Operator → Right → Inet → Bool
of_inet op (datum (inet q)) v = option_map_or (λ o. isnt_no (inet_tests.leaf_answer o (inet_keys.leaf_key v) q)) (inet_op op) false
of_inet _ _ _ = false

-- a signature has n bytes
abbrev pub path_passes : ℕ → LtreeQuery → List (List ℕ) → Bool
path_passes n q v =
    isnt_no (path_tests.leaf_answer n (path_keys.leaf_key n v).low.path (path_keys.leaf_key n v).low.cut (path_keys.leaf_key n v).sig q)

-- of the words of a path that is cut in its key, or isn't
abbrev pub words_pass : ℕ → Bool → List (List ℕ) → List ℕ → Tree Variant → Bool
words_pass n false p sig t = of_words.is_true_of t p
words_pass n true p sig t = isnt_no (leaf_formula (λ v. maybe (path_tests.variant_may n sig v)) t)

abbrev pub of_path : ℕ → Operator → Right → List (List ℕ) → Bool
of_path n op (datum (path q)) v = option_map_or (λ o. path_passes n (path_query.Path o q) v) (ltree_op op) false
of_path n Matches (lquery q) v = path_passes n (path_query.Lquery q) v
of_path n Has (lqueries qs) v = path_passes n (path_query.Lqueries qs) v
of_path n Words (ltxtquery t) v = words_pass n (path_keys.leaf_key n v).low.cut (path_keys.leaf_key n v).low.path (path_keys.leaf_key n v).sig t
of_path _ _ _ _ = false

abbrev pub map_passes : ℕ → HstoreQuery → List Pair → Bool
map_passes n q v = isnt_no (map_tests.answer n (map_tests.leaf_key n v) q)

abbrev pub of_map : ℕ → Operator → Right → List Pair → Bool
of_map n Contains (datum (hstore q)) v = map_passes n (map_query.Contains q) v
of_map n Has (datum (scalar (scalars.Text key))) v = map_passes n (map_query.Has key) v
of_map n HasAll (texts keys) v = map_passes n (map_query.HasAll keys) v
of_map n HasAny (texts keys) v = map_passes n (map_query.HasAny keys) v
of_map _ _ _ _ = false

abbrev pub signed_passes : ℕ → IntQuery → List ℤ → Bool
signed_passes n q v = isnt_no (intbig_tests.leaf_answer n (intbig_tests.leaf_key n v) q)

abbrev pub of_signed : ℕ → Operator → Right → List ℤ → Bool
of_signed n Overlaps (datum (int_array q)) v = signed_passes n (set_query.Overlaps q) v
of_signed n Contains (datum (int_array q)) v = signed_passes n (set_query.Contains q) v
of_signed n Equal (datum (int_array q)) v = signed_passes n (set_query.Equal q) v
of_signed n Formula (query_int t) v = isnt_no (leaf_formula (λ m. maybe (intbig_tests.may_have n (intbig_tests.leaf_key n v) m)) t)
of_signed _ _ _ _ = false

-- a key has r intervals at most
abbrev pub set_passes : ℕ → IntQuery → List ℤ → Bool
set_passes r q v = isnt_no (int_tests.leaf_answer r (int_keys.leaf_key r v) q)

abbrev pub of_set : ℕ → Operator → Right → List ℤ → Bool
of_set r Overlaps (datum (int_array q)) v = set_passes r (set_query.Overlaps q) v
of_set r Contains (datum (int_array q)) v = set_passes r (set_query.Contains q) v
of_set r Equal (datum (int_array q)) v = set_passes r (set_query.Equal q) v
of_set r Formula (query_int t) v =
    isnt_no (leaf_formula (λ m. int_tests.said (int_keys.leaf_key r v).exact (intervals.has (int_keys.leaf_key r v).intervals m)) t)
of_set _ _ _ _ = false

-- GIN: the value is in reach, and the flags of its items don't rule it out.

abbrev pub reached : Mode → List (List ℕ) → (List Bool → Test) → List (List ℕ) → Bool
reached mode wanted answer items = reaches mode wanted items && isnt_no (answer (flags wanted items))

abbrev pub array_passes : gin_numbers.IntQuery → List ℤ → Bool
array_passes q v = reached (array_tests.mode q) (array_tests.wanted q) (array_tests.answer q) (arrays.items v)

abbrev pub formula_passes : Tree ℤ → List ℤ → Bool
formula_passes t v =
    reached (if array_tests.is_true_of_none t then All else Default) (arrays.items (arrays.numbers_in t))
    (λ found. sure (array_tests.is_true_of_flags (arrays.items (arrays.numbers_in t)) found t)) (arrays.items v)

abbrev pub of_array : Operator → Right → List ℤ → Bool
of_array Overlaps (datum (int_array q)) v = array_passes (array_query.Overlaps q) v
of_array Contains (datum (int_array q)) v = array_passes (array_query.Contains q) v
of_array Within (datum (int_array q)) v = array_passes (array_query.Within q) v
of_array Equal (datum (int_array q)) v = array_passes (array_query.Equal q) v
of_array _ _ _ = false

abbrev pub of_numbers : Operator → Right → List ℤ → Bool
of_numbers Formula (query_int t) v = formula_passes t v
of_numbers op q v = of_array op q v

abbrev pub gin_map_passes : gin_maps.HstoreQuery → List Pair → Bool
gin_map_passes q v = reached (gin_map_tests.mode q) (gin_map_tests.wanted q) (gin_map_tests.answer q) (gin_map_tests.items v)

abbrev pub of_gin_map : Operator → Right → List Pair → Bool
of_gin_map Contains (datum (hstore q)) v = gin_map_passes (gin_map_query.Contains q) v
of_gin_map Has (datum (scalar (scalars.Text key))) v = gin_map_passes (gin_map_query.Has key) v
of_gin_map HasAll (texts keys) v = gin_map_passes (gin_map_query.HasAll keys) v
of_gin_map HasAny (texts keys) v = gin_map_passes (gin_map_query.HasAny keys) v
of_gin_map _ _ _ = false

abbrev pub json_passes : JsonQuery → Data → Bool
json_passes q v = reached (document_tests.mode q) (document_tests.wanted q) (document_tests.answer q) (documents.items v)

abbrev pub document_passes : Data → Data → Bool
document_passes q v =
    reached (unless_empty All (documents.document_items q)) (rising_of (map shortened (documents.document_items q)))
    (λ found. maybe (all_found found)) (documents.items v)

abbrev pub of_document : Operator → Right → Data → Bool
of_document Contains (datum (json q)) v = document_passes q v
of_document Has (datum (scalar (scalars.Text key))) v = json_passes (json_query.Has key) v
of_document HasAll (texts keys) v = json_passes (json_query.HasAll keys) v
of_document HasAny (texts keys) v = json_passes (json_query.HasAny keys) v
of_document _ _ _ = false

-- jsonb_path_ops
abbrev pub paths_pass : Data → Data → Bool
paths_pass q v =
    reached (unless_empty All (paths.document_paths q)) (rising_of (map paths.path_item (paths.document_paths q)))
    (λ found. maybe (all_found found)) (paths.items v)

abbrev pub of_paths : Operator → Right → Data → Bool
of_paths Contains (datum (json q)) v = paths_pass q v
of_paths _ _ _ = false

-- An index of the class with this parameter doesn't rule the value out for the operator and its right side.
unfoldable pub candidate : Class → ℕ → Operator → Right → Datum → Bool
candidate GistInt4 n op q (scalar v) = of_scalar op q v
candidate GistInt8 n op q (scalar v) = of_scalar op q v
candidate GistText n op q (scalar v) = of_scalar op q v
candidate GistBytea n op q (scalar v) = of_scalar op q v
candidate GistDate n op q (scalar v) = of_scalar op q v
candidate GistUuid n op q (scalar v) = of_scalar op q v
candidate RangeOps n op q (range v) = of_range op q v
candidate InetOps n op q (inet v) = of_inet op q v
candidate GistLtree n op q (path v) = of_path n op q v
candidate GistHstore n op q (hstore v) = of_map n op q v
candidate GistInt n op q (int_array v) = of_set n op q v
candidate GistIntbig n op q (int_array v) = of_signed n op q v
candidate ArrayOps n op q (int_array v) = of_array op q v
candidate GinInt n op q (int_array v) = of_numbers op q v
candidate GinHstore n op q (hstore v) = of_gin_map op q v
candidate JsonbOps n op q (json v) = of_document op q v
candidate JsonbPathOps n op q (json v) = of_paths op q v
candidate _ _ _ _ _ = false

-- as many, and 1 where there is none
abbrev pub at_least_one : ℕ → ℕ
at_least_one zero = 1
at_least_one (suc n) = suc n

-- how many entries a value has in an index: GiST one, GIN one for each item, or for the placeholder
unfoldable pub entries_of : Class → Datum → ℕ
entries_of ArrayOps (int_array v) = at_least_one (length (arrays.items v))
entries_of GinInt (int_array v) = at_least_one (length (arrays.items v))
entries_of GinHstore (hstore v) = at_least_one (length (gin_map_tests.items v))
entries_of JsonbOps (json v) = at_least_one (length (documents.items v))
entries_of JsonbPathOps (json v) = at_least_one (length (paths.items v))
entries_of _ _ = 1
