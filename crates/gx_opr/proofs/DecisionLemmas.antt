-- The tests of the operators tell where they hold, by the tests of the types.
use Rattle.std.proofs.Common.{◌≡◌, ℕ, ℤ, Bool, true, false, List, Option, None, Some, Contains, Any, IsSomeAnd}
use Rattle.std.specs.Bool.{Decides}
use Rattle.std.specs.Option.{option_map_or}
use Rattle.std.specs.List.{list_any}
use Rattle.gx_scalar.specs.declared.scalar.Scalar.{Scalar}
use Rattle.gx_scalar.specs.declared.scalar.Scalar.TheVariants as scalars
use Rattle.gx_scalar.specs.declared.operators.ScalarOp.{ScalarOp}
use Rattle.gx_scalar.specs.Operators as of_scalars
use Rattle.gx_range.specs.declared.range.Range.{Range}
use Rattle.gx_range.specs.declared.range.RangeOp.{RangeOp}
use Rattle.gx_range.specs.Decisions as range_tests
use Rattle.gx_range.specs.Operators as of_ranges
use Rattle.gx_inet.specs.declared.inet.Inet.{Inet}
use Rattle.gx_inet.specs.declared.inet.InetOp.{InetOp}
use Rattle.gx_inet.specs.Decisions as inet_tests
use Rattle.gx_inet.specs.Operators as of_inets
use Rattle.gx_ltree.specs.declared.operators.LtreeOp.{LtreeOp}
use Rattle.gx_ltree.specs.Operators as of_labels
use Rattle.gx_lquery.specs.declared.query.Lquery.{Lquery}
use Rattle.gx_lquery.specs.declared.query.LqueryItem.{LqueryItem}
use Rattle.gx_lquery.specs.declared.variant.Variant.{Variant}
use Rattle.gx_lquery.specs.Matching.{MatchesVariant, MatchesPath, MatchesAny}
use Rattle.gx_lquery.specs.Tests.{matches_variant, matches_path, matches_any}
use Rattle.gx_lquery.proofs.TestLemmas.{any_decided}
use Rattle.gx_formula.specs.Formula.{Tree}
use Rattle.gx_formula.proofs.TruthLemmas.{truth_decided}
use Rattle.gx_ltxtquery.specs.Formula as of_words
use Rattle.gx_hstore.specs.Map.{Pair}
use Rattle.gx_hstore.specs.Decisions as map_tests
use Rattle.gx_hstore.specs.Operators as of_maps
use Rattle.gx_intarr.specs.declared.operators.IntQuery.{IntQuery}
use Rattle.gx_intarr.specs.declared.operators.IntQuery.TheVariants as array_queries
use Rattle.gx_intarr.specs.Formula as of_numbers
use Rattle.gx_intarr.specs.Operators as of_arrays
use Rattle.gx_intarr.proofs.ArrayLemmas.{contains_passes, passes_contains}
use Rattle.serde_json.specs.Data.{Data}
use Rattle.gx_json.specs.Decisions as document_tests
use Rattle.gx_json.specs.Operators as of_documents
use Rattle.gx_value.specs.declared.operators.Operator.{Operator}
use Rattle.gx_value.specs.declared.operators.Operator.TheVariants as op
use Rattle.gx_value.specs.Values as values
use Rattle.gx_opr.specs.Decisions.{holds_of_scalar, has_scalar, holds_of_range, holds_of_inet, holds_of_path, holds_of_hstore, holds_of_array, holds_of_json, holds}
use Rattle.gx_opr.specs.Operands as rights
use Rattle.gx_opr.specs.Operators.{scalar_op, range_op, inet_op, ltree_op, HoldsOfScalar, HasScalar, HoldsOfRange, HoldsOfInet, HoldsOfPath, HoldsOfHstore, HoldsOfArray, HoldsOfJson, Holds}

-- the laws of the types
pub record Laws : Type 0 where
  pub of_range : (o : RangeOp) (a b : Range) → Decides (range_tests.holds o a b) (of_ranges.Holds o a b)
  pub of_element : (a : Range) (n : ℤ) → Decides (range_tests.has_element a n) (of_ranges.HasElement a n)
  pub of_inet : (o : InetOp) (x y : Inet) → Decides (inet_tests.holds o x y) (of_inets.Holds o x y)
  pub of_label : (o : LtreeOp) (value operand : List (List ℕ)) → Decides (of_labels.holds o value operand) (of_labels.Holds o value operand)
  pub of_variant : (variant : Variant) (label : List ℕ) → Decides (matches_variant variant label) (MatchesVariant variant label)
  pub of_query : (items : List LqueryItem) (path : List (List ℕ)) → Decides (matches_path items path) (MatchesPath items path)
  pub of_queries : (queries : List Lquery) (path : List (List ℕ)) → Decides (matches_any queries path) (MatchesAny queries path)
  pub of_map : (q : of_maps.Question) (v : List Pair) → Decides (map_tests.holds q v) (of_maps.Holds q v)
  pub of_array : (q : IntQuery) (v : List ℤ) → Decides (of_arrays.holds q v) (of_arrays.Holds q v)
  pub of_document : (q : of_documents.Question) (v : Data) → Decides (document_tests.holds q v) (of_documents.Holds q v)

-- what never holds
never : Decides false ⊥
never = (λ e. cc, λ h. absurd h)

-- an operator that a type may lack
if_there : {A : Type 0} (p : A → Bool) (P : A → Type 0) → ((a : A) → Decides (p a) (P a)) → (o : Option A) → Decides (option_map_or p o false) (IsSomeAnd o P)
if_there p P d None = (λ e. cc, λ h. absurd h)
if_there p P d (Some a) = d a

as_it_is : (b : Bool) → Decides b (b ≡ true)
as_it_is b = (λ e. e, λ e. e)

scalar_decided : (o : Operator) (v : Scalar) (q : rights.Right) → Decides (holds_of_scalar o v q) (HoldsOfScalar o v q)
scalar_decided o v (rights.datum (values.scalar q)) = if_there (λ x. of_scalars.holds x v q) (λ x. of_scalars.Holds x v q) (λ x. as_it_is (of_scalars.holds x v q)) (scalar_op o)
scalar_decided o v (rights.datum _) = never
scalar_decided o v _ = never

element_decided : Laws → (v : Range) (q : Scalar) → Decides (has_scalar v q) (HasScalar v q)
element_decided laws v (scalars.Int4 n) = laws.of_element v n
element_decided laws v (scalars.Int8 n) = laws.of_element v n
element_decided laws v (scalars.Date n) = laws.of_element v n
element_decided laws v _ = never

range_decided : Laws → (o : Operator) (v : Range) (q : rights.Right) → Decides (holds_of_range o v q) (HoldsOfRange o v q)
range_decided laws o v (rights.datum (values.range q)) = if_there (λ x. range_tests.holds x v q) (λ x. of_ranges.Holds x v q) (λ x. laws.of_range x v q) (range_op o)
range_decided laws op.Contains v (rights.datum (values.scalar q)) = element_decided laws v q
range_decided laws _ v _ = never

inet_decided : Laws → (o : Operator) (v : Inet) (q : rights.Right) → Decides (holds_of_inet o v q) (HoldsOfInet o v q)
inet_decided laws o v (rights.datum (values.inet q)) = if_there (λ x. inet_tests.holds x v q) (λ x. of_inets.Holds x v q) (λ x. laws.of_inet x v q) (inet_op o)
inet_decided laws o v (rights.datum _) = never
inet_decided laws o v _ = never

words_decided : Laws → (t : Tree Variant) (v : List (List ℕ)) → Decides (of_words.is_true_of t v) (of_words.IsTrueOf t v)
words_decided laws t v =
    truth_decided _ (λ w. Any (λ label. MatchesVariant w label) v)
    (λ w. any_decided (λ label. matches_variant w label) (λ label. MatchesVariant w label) (λ label. laws.of_variant w label) v) t

path_decided : Laws → (o : Operator) (v : List (List ℕ)) (q : rights.Right) → Decides (holds_of_path o v q) (HoldsOfPath o v q)
path_decided laws o v (rights.datum (values.path q)) = if_there (λ x. of_labels.holds x v q) (λ x. of_labels.Holds x v q) (λ x. laws.of_label x v q) (ltree_op o)
path_decided laws op.Matches v (rights.lquery q) = laws.of_query q.items v
path_decided laws op.Has v (rights.lqueries qs) = laws.of_queries qs v
path_decided laws op.Words v (rights.ltxtquery t) = words_decided laws t v
path_decided laws _ v _ = never

map_decided : Laws → (o : Operator) (v : List Pair) (q : rights.Right) → Decides (holds_of_hstore o v q) (HoldsOfHstore o v q)
map_decided laws op.Contains v (rights.datum (values.hstore q)) = laws.of_map (of_maps.Contains q) v
map_decided laws op.Has v (rights.datum (values.scalar (scalars.Text key))) = laws.of_map (of_maps.Has key) v
map_decided laws op.HasAll v (rights.texts keys) = laws.of_map (of_maps.HasAll keys) v
map_decided laws op.HasAny v (rights.texts keys) = laws.of_map (of_maps.HasAny keys) v
map_decided laws _ v _ = never

numbers_decided : (t : Tree ℤ) (v : List ℤ) → Decides (of_numbers.is_true_of t v) (of_numbers.IsTrueOf t v)
numbers_decided t v = truth_decided (of_numbers.has v) (λ n. Contains v n) (λ n. (passes_contains v n, contains_passes v n)) t

array_decided : Laws → (o : Operator) (v : List ℤ) (q : rights.Right) → Decides (holds_of_array o v q) (HoldsOfArray o v q)
array_decided laws op.Overlaps v (rights.datum (values.int_array q)) = laws.of_array (array_queries.Overlaps q) v
array_decided laws op.Contains v (rights.datum (values.int_array q)) = laws.of_array (array_queries.Contains q) v
array_decided laws op.Within v (rights.datum (values.int_array q)) = laws.of_array (array_queries.Within q) v
array_decided laws op.Equal v (rights.datum (values.int_array q)) = laws.of_array (array_queries.Equal q) v
array_decided laws op.Formula v (rights.query_int t) = numbers_decided t v
array_decided laws _ v _ = never

document_decided : Laws → (o : Operator) (v : Data) (q : rights.Right) → Decides (holds_of_json o v q) (HoldsOfJson o v q)
document_decided laws op.Contains v (rights.datum (values.json q)) = laws.of_document (of_documents.Contains q) v
document_decided laws op.Has v (rights.datum (values.scalar (scalars.Text key))) = laws.of_document (of_documents.Has key) v
document_decided laws op.HasAll v (rights.texts keys) = laws.of_document (of_documents.HasAll keys) v
document_decided laws op.HasAny v (rights.texts keys) = laws.of_document (of_documents.HasAny keys) v
document_decided laws _ v _ = never

pub all_decided : Laws → (o : Operator) (v : values.Datum) (q : rights.Right) → Decides (holds o v q) (Holds o v q)
unfolding holds
all_decided laws o (values.scalar v) q = scalar_decided o v q
all_decided laws o (values.range v) q = range_decided laws o v q
all_decided laws o (values.inet v) q = inet_decided laws o v q
all_decided laws o (values.path v) q = path_decided laws o v q
all_decided laws o (values.hstore v) q = map_decided laws o v q
all_decided laws o (values.int_array v) q = array_decided laws o v q
all_decided laws o (values.json v) q = document_decided laws o v q
