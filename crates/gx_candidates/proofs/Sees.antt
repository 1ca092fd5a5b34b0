-- Where an operator holds, each class's test doesn't say No.
use Rattle.std.proofs.Common.{sym, ap, subst, ◌∙◌}
use Rattle.std.specs.Prelude.{◌≡◌, ◌≢◌, ℕ, ℤ, Bool, true, false, ◌&&◌, List, Option, None, Some, IsSomeAnd, refl}
use Rattle.std.specs.Option.{option_map_or}
use Rattle.serde_json.specs.Data.{Data}
use Rattle.gx_scalar.specs.declared.scalar.Scalar.{Scalar}
use Rattle.gx_scalar.specs.declared.scalar.Scalar.TheVariants as scalars
use Rattle.gx_scalar.specs.declared.scalar.ScalarKind.{ScalarKind}
use Rattle.gx_scalar.specs.Values.{IsScalar}
use Rattle.gx_scalar.specs.Operators as of_scalars
use Rattle.gx_range.specs.declared.range.Range.{Range}
use Rattle.gx_range.specs.Operators as of_ranges
use Rattle.gx_inet.specs.declared.inet.Inet.{Inet}
use Rattle.gx_inet.specs.Operators as of_inets
use Rattle.gx_hstore.specs.Map.{Pair, IsHstore}
use Rattle.gx_formula.specs.Formula.{Tree, Not, And, Or}
use Rattle.gx_intarr.specs.Arrays.{IsArray}
use Rattle.gx_intarr.specs.declared.formula.IntFormula.{IntFormula}
use Rattle.gx_intarr.specs.declared.formula.IntFormula.TheVariants as int
use Rattle.gx_intarr.specs.Formula.{IsTrueOf}
use Rattle.gx_intarr.specs.Formula.{tree_of as int_tree}
use Rattle.gx_ltxtquery.specs.Formula as of_words
use Rattle.gx_ltxtquery.specs.Formula.{tree_of as words_tree}
use Rattle.gx_ltxtquery.specs.declared.formula.Ltxtquery.{Ltxtquery}
use Rattle.gx_class_ltree.specs.Keys as path_keys
use Rattle.gx_class_ltree.specs.Tests as path_tests
use Rattle.gx_gin_items.specs.Tests.{place_in}
use Rattle.gx_gin_arrays.specs.Numbers.{number_item, items, numbers_in}
use Rattle.gx_gin_arrays.specs.Placed.{ArePlaced, IsPlaced}
use Rattle.gx_gin_arrays.specs.Placed.{tree_of as placed_tree}
use Rattle.gx_gin_arrays.specs.declared.placed.PlacedFormula.{PlacedFormula}
use Rattle.gx_gin_arrays.specs.declared.placed.PlacedFormula.TheVariants as placed_formula
use Rattle.gx_gin_arrays.specs.declared.placed.PlacedQuery.{PlacedQuery}
use Rattle.gx_gist.specs.declared.test.Test.{Test}
use Rattle.gx_gist.specs.declared.test.Test.TheVariants.{No, Maybe, Yes}
use Rattle.gx_sig.specs.BitSets.{IsSignatureLength}
use Rattle.gx_class_scalar.specs.Keys as scalar_keys
use Rattle.gx_class_scalar.specs.Tests as scalar_tests
use Rattle.gx_class_scalar.specs.Laws as scalar_laws
use Rattle.gx_class_range.specs.declared.query.RangeQuery.TheVariants as range_query
use Rattle.gx_class_range.specs.Laws as range_laws
use Rattle.gx_class_inet.specs.Keys as inet_keys
use Rattle.gx_class_inet.specs.Tests as inet_tests
use Rattle.gx_class_inet.specs.Laws as inet_laws
use Rattle.gx_ltree.specs.Operators as of_labels
use Rattle.gx_ltxtquery.specs.declared.operators.LtreeQuery.TheVariants as path_query
use Rattle.gx_class_ltree.specs.Laws as path_laws
use Rattle.gx_class_sets.specs.HstoreLaws as map_laws
use Rattle.gx_class_sets.specs.IntbigLaws as intbig_laws
use Rattle.gx_class_sets.specs.declared.hstore_query.HstoreQuery.TheVariants as map_query
use Rattle.gx_class_sets.specs.declared.int_query.IntQuery.TheVariants as set_query
use Rattle.gx_class_intset.specs.Laws as int_laws
use Rattle.gx_gin_arrays.specs.Laws as array_laws
use Rattle.gx_gin_arrays.specs.declared.int_query.IntQuery.TheVariants as array_query
use Rattle.gx_gin_maps.specs.Laws as gin_map_laws
use Rattle.gx_gin_maps.specs.declared.hstore_query.HstoreQuery.TheVariants as gin_map_query
use Rattle.gx_gin_documents.specs.Laws as document_laws
use Rattle.gx_gin_documents.specs.declared.json_query.JsonQuery.TheVariants as json_query
use Rattle.gx_value.specs.declared.operators.Operator.{Operator}
use Rattle.gx_value.specs.declared.operators.Operator.TheVariants as ops
use Rattle.gx_value.specs.declared.value.Value.TheVariants as value
use Rattle.gx_opr.specs.declared.operand.Part.{Part}
use Rattle.gx_opr.specs.declared.operand.Part.TheVariants as part
use Rattle.gx_opr.specs.Operands.{query_int, right_of}
use Rattle.gx_opr.specs.Operators.{scalar_op, range_op, inet_op, ltree_op, HoldsOfRange, HoldsOfInet, HoldsOfPath, HoldsOfHstore, HoldsOfArray, HoldsOfJson}
use Rattle.gx_candidates.specs.Candidates.{isnt_no, range_passes, of_range, of_inet, path_passes, of_path, of_map, of_signed, of_set, of_array, formula_passes, of_numbers, words_pass, of_gin_map, of_document, of_paths}
use Rattle.gx_candidates.specs.Queries.{IsValidRight}

isnt : (t : Test) → t ≢ No → isnt_no t ≡ true
isnt No h = absurd (h refl)
isnt Maybe h = refl
isnt Yes h = refl

if_there : {A : Type 0} (f : A → Bool) (P : A → Type 0) → ((a : A) → P a → f a ≡ true) → (o : Option A) → IsSomeAnd o P → option_map_or f o false ≡ true
if_there f P d None h = absurd h
if_there f P d (Some a) h = d a h

both : (a b : Bool) → a ≡ true → b ≡ true → (a && b) ≡ true
both true b e f = f
both false b e f = e

pub scalar_sees : (kind : ScalarKind) (op : Operator) (v q : Scalar) → IsScalar kind v → IsScalar kind q → IsSomeAnd (scalar_op op) (λ o. of_scalars.Holds o v q)
    → option_map_or (λ o. isnt_no (scalar_tests.leaf_answer o (scalar_keys.leaf_key v) q)) (scalar_op op) false ≡ true
scalar_sees kind op v q p r h =
    if_there (λ o. isnt_no (scalar_tests.leaf_answer o (scalar_keys.leaf_key v) q)) (λ o. of_scalars.Holds o v q)
    (λ o e. isnt (scalar_tests.leaf_answer o (scalar_keys.leaf_key v) q) (scalar_laws.leaf_sees kind v (record { op = o; operand = q }) p r e)) (scalar_op op) h

element_sees : (n : ℤ) (v : Range) → of_ranges.HasElement v n → range_passes (range_query.Element n) v ≡ true
element_sees n v h = isnt _ (range_laws.leaf_sees v (range_query.Element n) h)

pub range_sees : (op : Operator) (v : Range) (p : Part) → HoldsOfRange op v (right_of p) → of_range op (right_of p) v ≡ true
range_sees op v (part.Value (value.Range q)) h =
    if_there (λ o. range_passes (range_query.Range o q) v) (λ o. of_ranges.Holds o v q) (λ o e. isnt _ (range_laws.leaf_sees v (range_query.Range o q) e)) (range_op op) h
range_sees ops.Contains v (part.Value (value.Scalar (scalars.Int4 n))) h = element_sees n v h
range_sees ops.Contains v (part.Value (value.Scalar (scalars.Int8 n))) h = element_sees n v h
range_sees ops.Contains v (part.Value (value.Scalar (scalars.Date n))) h = element_sees n v h
range_sees _ v _ h = absurd h

pub inet_sees : (op : Operator) (v : Inet) (p : Part) → HoldsOfInet op v (right_of p) → of_inet op (right_of p) v ≡ true
inet_sees op v (part.Value (value.Inet q)) h =
    if_there (λ o. isnt_no (inet_tests.leaf_answer o (inet_keys.leaf_key v) q)) (λ o. of_inets.Holds o v q) (λ o e. isnt _ (inet_laws.leaf_sees o v q e)) (inet_op op) h
inet_sees _ v _ h = absurd h

words_are : (n : ℕ) (v : List (List ℕ)) (q : Ltxtquery) (cut : Bool) → isnt_no (path_tests.leaf_answer n (path_keys.leaf_key n v).low.path cut (path_keys.leaf_key n v).sig (path_query.Words q)) ≡ true
    → words_pass n cut (path_keys.leaf_key n v).low.path (path_keys.leaf_key n v).sig (words_tree q.formula) ≡ true
words_are n v q true e = e
words_are n v q false e = is_sure (of_words.is_true_of (words_tree q.formula) (path_keys.leaf_key n v).low.path) e
  where
    is_sure : (b : Bool) → isnt_no (path_tests.sure b) ≡ true → b ≡ true
    is_sure true e = refl
    is_sure false e = e

pub path_sees : (n : ℕ) (op : Operator) (v : List (List ℕ)) (p : Part) → IsSignatureLength n → HoldsOfPath op v (right_of p) → of_path n op (right_of p) v ≡ true
path_sees n op v (part.Value (value.Path q)) long h =
    if_there (λ o. path_passes n (path_query.Path o q) v) (λ o. of_labels.Holds o v q) (λ o e. isnt _ ((path_laws.leaf_is_right n v (path_query.Path o q) long).sees e)) (ltree_op op) h
path_sees n ops.Matches v (part.Lquery q) long h = isnt _ ((path_laws.leaf_is_right n v (path_query.Lquery q) long).sees h)
path_sees n ops.Has v (part.Lqueries q) long h = isnt _ ((path_laws.leaf_is_right n v (path_query.Lqueries q) long).sees h)
path_sees n ops.Words v (part.Ltxtquery q) long h = words_are n v q (path_keys.leaf_key n v).low.cut (isnt _ ((path_laws.leaf_is_right n v (path_query.Words q) long).sees h))
path_sees n _ v _ long h = absurd h

pub map_sees : (n : ℕ) (op : Operator) (v : List Pair) (p : Part) → IsSignatureLength n → IsValidRight (right_of p) → HoldsOfHstore op v (right_of p) → of_map n op (right_of p) v ≡ true
map_sees n ops.Contains v (part.Value (value.Hstore q)) long r h = isnt _ ((map_laws.leaf_is_right n v (map_query.Contains q) long r).sees h)
map_sees n ops.Has v (part.Value (value.Scalar (scalars.Text q))) long r h = isnt _ ((map_laws.leaf_is_right n v (map_query.Has q) long tt).sees h)
map_sees n ops.HasAll v (part.Texts q) long r h = isnt _ ((map_laws.leaf_is_right n v (map_query.HasAll q) long tt).sees h)
map_sees n ops.HasAny v (part.Texts q) long r h = isnt _ ((map_laws.leaf_is_right n v (map_query.HasAny q) long tt).sees h)
map_sees n _ v _ long r h = absurd h

pub signed_sees : (n : ℕ) (op : Operator) (v : List ℤ) (p : Part) → IsSignatureLength n → (op ≡ ops.Within → ⊥) → HoldsOfArray op v (right_of p) → of_signed n op (right_of p) v ≡ true
signed_sees n ops.Overlaps v (part.Value (value.IntArray q)) long has h = isnt _ ((intbig_laws.leaf_is_right n v (set_query.Overlaps q) long).sees h)
signed_sees n ops.Contains v (part.Value (value.IntArray q)) long has h = isnt _ ((intbig_laws.leaf_is_right n v (set_query.Contains q) long).sees h)
signed_sees n ops.Equal v (part.Value (value.IntArray q)) long has h = isnt _ ((intbig_laws.leaf_is_right n v (set_query.Equal q) long).sees h)
signed_sees n ops.Within v p long has h = absurd (has refl)
signed_sees n ops.Formula v (part.QueryInt q) long has h = isnt _ ((intbig_laws.leaf_is_right n v (set_query.Formula q) long).sees h)
signed_sees n _ v _ long has h = absurd h

pub set_sees : (r : ℕ) (op : Operator) (v : List ℤ) (p : Part) → IsArray v → (op ≡ ops.Within → ⊥) → HoldsOfArray op v (right_of p) → of_set r op (right_of p) v ≡ true
set_sees r ops.Overlaps v (part.Value (value.IntArray q)) isv has h = isnt _ ((int_laws.leaf_is_right r v (set_query.Overlaps q) isv).sees h)
set_sees r ops.Contains v (part.Value (value.IntArray q)) isv has h = isnt _ ((int_laws.leaf_is_right r v (set_query.Contains q) isv).sees h)
set_sees r ops.Equal v (part.Value (value.IntArray q)) isv has h = isnt _ ((int_laws.leaf_is_right r v (set_query.Equal q) isv).sees h)
set_sees r ops.Within v p isv has h = absurd (has refl)
set_sees r ops.Formula v (part.QueryInt q) isv has h = isnt _ ((int_laws.leaf_is_right r v (set_query.Formula q) isv).sees h)
set_sees r _ v _ isv has h = absurd h

pub array_sees : (op : Operator) (v : List ℤ) (p : Part) → IsArray v → IsValidRight (right_of p) → (op ≡ ops.Formula → ⊥) → HoldsOfArray op v (right_of p) → of_array op (right_of p) v ≡ true
array_sees ops.Overlaps v (part.Value (value.IntArray q)) isv r has h = both _ _ (array_laws.reach_sees v (array_query.Overlaps q) h) (isnt _ ((array_laws.passes_are_right v (array_query.Overlaps q) isv r).sees h))
array_sees ops.Contains v (part.Value (value.IntArray q)) isv r has h = both _ _ (array_laws.reach_sees v (array_query.Contains q) h) (isnt _ ((array_laws.passes_are_right v (array_query.Contains q) isv r).sees h))
array_sees ops.Within v (part.Value (value.IntArray q)) isv r has h = both _ _ (array_laws.reach_sees v (array_query.Within q) h) (isnt _ ((array_laws.passes_are_right v (array_query.Within q) isv r).sees h))
array_sees ops.Equal v (part.Value (value.IntArray q)) isv r has h = both _ _ (array_laws.reach_sees v (array_query.Equal q) h) (isnt _ ((array_laws.passes_are_right v (array_query.Equal q) isv r).sees h))
array_sees ops.Formula v p isv r has h = absurd (has refl)
array_sees _ v _ isv r has h = absurd h

-- the query with places, of a formula
abbrev placed : List (List ℕ) → IntFormula → PlacedFormula
placed its (int.Number n) = placed_formula.Number n (place_in its (number_item n))
placed its (int.Not' p f) = placed_formula.Not' p (placed its f)
placed its (int.And' p f q g) = placed_formula.And' p (placed its f) q (placed its g)
placed its (int.Or' p f q g) = placed_formula.Or' p (placed its f) q (placed its g)

same_tree : (its : List (List ℕ)) (f : IntFormula) → placed_tree (placed its f) ≡ int_tree f
same_tree its (int.Number n) = refl
same_tree its (int.Not' p f) = ap Not (same_tree its f)
same_tree its (int.And' p f q g) = ap (λ t. And t (placed_tree (placed its g))) (same_tree its f) ∙ ap (λ t. And (int_tree f) t) (same_tree its g)
same_tree its (int.Or' p f q g) = ap (λ t. Or t (placed_tree (placed its g))) (same_tree its f) ∙ ap (λ t. Or (int_tree f) t) (same_tree its g)

are_placed : (its : List (List ℕ)) (f : IntFormula) → ArePlaced its (placed its f)
are_placed its (int.Number n) = refl
are_placed its (int.Not' p f) = are_placed its f
are_placed its (int.And' p f q g) = (are_placed its f, are_placed its g)
are_placed its (int.Or' p f q g) = (are_placed its f, are_placed its g)

formula_sees : (q : PlacedQuery) (t : Tree ℤ) (v : List ℤ) → placed_tree q.formula ≡ t → IsPlaced q.formula → IsArray v → IsTrueOf t v → formula_passes t v ≡ true
formula_sees q t v same is isv h =
    subst (λ (x : Tree ℤ). formula_passes x v ≡ true) same
    (both _ _ (array_laws.reach_sees v (array_query.Formula q) (subst (λ (x : Tree ℤ). IsTrueOf x v) (sym same) h))
    (isnt _ ((array_laws.passes_are_right v (array_query.Formula q) isv is).sees (subst (λ (x : Tree ℤ). IsTrueOf x v) (sym same) h))))

of_formula : (f : IntFormula) (v : List ℤ) → IsArray (numbers_in (int_tree f)) → IsArray v → IsTrueOf (int_tree f) v → formula_passes (int_tree f) v ≡ true
of_formula f v ints isv h =
    let its = items (numbers_in (int_tree f)) in
    let same = same_tree its f in
    formula_sees (record { formula = placed its f }) (int_tree f) v same
    (subst (λ (x : Tree ℤ). ArePlaced (items (numbers_in x)) (placed its f)) (sym same) (are_placed its f), subst (λ (x : Tree ℤ). IsArray (numbers_in x)) (sym same) ints) isv h

pub numbers_see : (op : Operator) (v : List ℤ) (p : Part) → IsArray v → IsValidRight (right_of p) → ((t : Tree ℤ) → right_of p ≡ query_int t → IsArray (numbers_in t)) → HoldsOfArray op v (right_of p) → of_numbers op (right_of p) v ≡ true
numbers_see ops.Formula v (part.QueryInt q) isv r ints h = of_formula q.formula v (ints (int_tree q.formula) refl) isv h
numbers_see ops.Formula v _ isv r ints h = absurd h
numbers_see ops.Overlaps v p isv r ints h = array_sees ops.Overlaps v p isv r (λ e. cc) h
numbers_see ops.Contains v p isv r ints h = array_sees ops.Contains v p isv r (λ e. cc) h
numbers_see ops.Within v p isv r ints h = array_sees ops.Within v p isv r (λ e. cc) h
numbers_see ops.Equal v p isv r ints h = array_sees ops.Equal v p isv r (λ e. cc) h
numbers_see _ v _ isv r ints h = absurd h

pub gin_map_sees : (op : Operator) (v : List Pair) (p : Part) → IsHstore v → IsValidRight (right_of p) → HoldsOfHstore op v (right_of p) → of_gin_map op (right_of p) v ≡ true
gin_map_sees ops.Contains v (part.Value (value.Hstore q)) isv r h = both _ _ (gin_map_laws.reach_sees v (gin_map_query.Contains q) r h) (isnt _ ((gin_map_laws.passes_are_right v (gin_map_query.Contains q) isv r).sees h))
gin_map_sees ops.Has v (part.Value (value.Scalar (scalars.Text q))) isv r h = both _ _ (gin_map_laws.reach_sees v (gin_map_query.Has q) tt h) (isnt _ ((gin_map_laws.passes_are_right v (gin_map_query.Has q) isv tt).sees h))
gin_map_sees ops.HasAll v (part.Texts q) isv r h = both _ _ (gin_map_laws.reach_sees v (gin_map_query.HasAll q) tt h) (isnt _ ((gin_map_laws.passes_are_right v (gin_map_query.HasAll q) isv tt).sees h))
gin_map_sees ops.HasAny v (part.Texts q) isv r h = both _ _ (gin_map_laws.reach_sees v (gin_map_query.HasAny q) tt h) (isnt _ ((gin_map_laws.passes_are_right v (gin_map_query.HasAny q) isv tt).sees h))
gin_map_sees _ v _ isv r h = absurd h

pub document_sees : (op : Operator) (v : Data) (p : Part) → HoldsOfJson op v (right_of p) → of_document op (right_of p) v ≡ true
document_sees ops.Contains v (part.Value (value.Json q)) h = both _ _ (document_laws.reach_sees v (json_query.Contains q) h) (isnt _ ((document_laws.passes_are_right v (json_query.Contains q)).sees h))
document_sees ops.Has v (part.Value (value.Scalar (scalars.Text q))) h = both _ _ (document_laws.reach_sees v (json_query.Has q) h) (isnt _ ((document_laws.passes_are_right v (json_query.Has q)).sees h))
document_sees ops.HasAll v (part.Texts q) h = both _ _ (document_laws.reach_sees v (json_query.HasAll q) h) (isnt _ ((document_laws.passes_are_right v (json_query.HasAll q)).sees h))
document_sees ops.HasAny v (part.Texts q) h = both _ _ (document_laws.reach_sees v (json_query.HasAny q) h) (isnt _ ((document_laws.passes_are_right v (json_query.HasAny q)).sees h))
document_sees _ v _ h = absurd h

pub paths_see : (v : Data) (p : Part) → IsValidRight (right_of p) → HoldsOfJson ops.Contains v (right_of p) → of_paths ops.Contains (right_of p) v ≡ true
paths_see v (part.Value (value.Json q)) r h = both _ _ (document_laws.path_reach_sees v (json_query.Contains q) r h) (isnt _ ((document_laws.paths_are_right v (json_query.Contains q) r).sees h))
paths_see v _ r h = absurd h
