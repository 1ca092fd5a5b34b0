-- Each class has a query for each question that its indexes answer.
use Rattle.std.specs.Prelude.{◌≡◌, true, not, List, is_some, refl, ℤ}
use Rattle.gx_scalar.specs.declared.scalar.Scalar.TheVariants as scalars
use Rattle.gx_value.specs.declared.classes.Class.TheVariants as classes
use Rattle.gx_value.specs.declared.types.ColumnType.TheVariants as column
use Rattle.gx_value.specs.declared.types.OperandType.{OperandType}
use Rattle.gx_value.specs.declared.types.OperandType.TheVariants as operand
use Rattle.gx_value.specs.declared.operators.Operator.{Operator}
use Rattle.gx_value.specs.declared.operators.Operator.TheVariants as ops
use Rattle.gx_value.specs.Types.{same_operand}
use Rattle.gx_value.specs.Operators.{same_operator, is_operand}
use Rattle.gx_value.specs.Values.{scalar, path, hstore, int_array, json}
use Rattle.gx_opr.specs.Operands.{Right, datum, texts, lquery, lqueries, ltxtquery, query_int, right_of, IsRight}
use Rattle.gx_opr.specs.Operators.{ltree_op}
use Rattle.gx_candidates.specs.Queries.{asks_path, asks_map, asks_set, asks_array, asks_numbers, asks_document, asks_paths}
use Rattle.gx_candidates.specs.Laws.{QuestionsAreAsked}
use Rattle.gx_candidates.proofs.AskedScalars.{int4_is, int8_is, int4range_is, int8range_is, int4_bound, int8_bound, never, second, one, text_is, bytea_is, date_is, uuid_is, scalar_asked, daterange_is, date_bound, range_asked, inet_asked}

-- label paths
path_right : (t : OperandType) (op : Operator) (q : Right) → is_some (ltree_op op) ≡ true → same_operand t operand.Ltree ≡ true → IsRight t q → asks_path op q ≡ true
path_right operand.Ltree op (datum (path s)) some e r = some
path_right operand.Ltree op _ some e r = absurd r
path_right _ op q some e r = never e

lquery_right : (t : OperandType) (q : Right) → same_operand t operand.Lquery ≡ true → IsRight t q → asks_path ops.Matches q ≡ true
lquery_right operand.Lquery (lquery s) e r = refl
lquery_right operand.Lquery _ e r = absurd r
lquery_right _ q e r = never e

lqueries_right : (t : OperandType) (q : Right) → same_operand t operand.LqueryArray ≡ true → IsRight t q → asks_path ops.Has q ≡ true
lqueries_right operand.LqueryArray (lqueries s) e r = refl
lqueries_right operand.LqueryArray _ e r = absurd r
lqueries_right _ q e r = never e

words_right : (t : OperandType) (q : Right) → same_operand t operand.Ltxtquery ≡ true → IsRight t q → asks_path ops.Words q ≡ true
words_right operand.Ltxtquery (ltxtquery s) e r = refl
words_right operand.Ltxtquery _ e r = absurd r
words_right _ q e r = never e

path_asked : (t : OperandType) (op : Operator) (q : Right) → is_operand column.Ltree op t ≡ true → IsRight t q → asks_path op q ≡ true
path_asked t ops.Less q e r = path_right t ops.Less q refl (one (same_operand t operand.Ltree) e) r
path_asked t ops.LessEqual q e r = path_right t ops.LessEqual q refl (one (same_operand t operand.Ltree) e) r
path_asked t ops.Equal q e r = path_right t ops.Equal q refl (one (same_operand t operand.Ltree) e) r
path_asked t ops.GreaterEqual q e r = path_right t ops.GreaterEqual q refl (one (same_operand t operand.Ltree) e) r
path_asked t ops.Greater q e r = path_right t ops.Greater q refl (one (same_operand t operand.Ltree) e) r
path_asked t ops.Contains q e r = path_right t ops.Contains q refl (one (same_operand t operand.Ltree) e) r
path_asked t ops.Within q e r = path_right t ops.Within q refl (one (same_operand t operand.Ltree) e) r
path_asked t ops.Matches q e r = lquery_right t q (one (same_operand t operand.Lquery) e) r
path_asked t ops.Has q e r = lqueries_right t q (one (same_operand t operand.LqueryArray) e) r
path_asked t ops.Words q e r = words_right t q (one (same_operand t operand.Ltxtquery) e) r
path_asked t _ q e r = never e

-- maps
map_right : (t : OperandType) (q : Right) → same_operand t operand.Hstore ≡ true → IsRight t q → asks_map ops.Contains q ≡ true
map_right operand.Hstore (datum (hstore s)) e r = refl
map_right operand.Hstore _ e r = absurd r
map_right _ q e r = never e

map_key_right : (t : OperandType) (q : Right) → same_operand t operand.Text ≡ true → IsRight t q → asks_map ops.Has q ≡ true
map_key_right operand.Text (datum (scalar (scalars.Text n))) e r = refl
map_key_right operand.Text (datum (scalar (scalars.Int4 n))) e r = let is = r.0 in cc
map_key_right operand.Text (datum (scalar (scalars.Int8 n))) e r = let is = r.0 in cc
map_key_right operand.Text (datum (scalar (scalars.Bytea n))) e r = let is = r.0 in cc
map_key_right operand.Text (datum (scalar (scalars.Date n))) e r = let is = r.0 in cc
map_key_right operand.Text (datum (scalar (scalars.Uuid n))) e r = let is = r.0 in cc
map_key_right operand.Text _ e r = absurd r
map_key_right _ q e r = never e

map_all_right : (t : OperandType) (q : Right) → same_operand t operand.TextArray ≡ true → IsRight t q → asks_map ops.HasAll q ≡ true
map_all_right operand.TextArray (texts s) e r = refl
map_all_right operand.TextArray _ e r = absurd r
map_all_right _ q e r = never e

map_any_right : (t : OperandType) (q : Right) → same_operand t operand.TextArray ≡ true → IsRight t q → asks_map ops.HasAny q ≡ true
map_any_right operand.TextArray (texts s) e r = refl
map_any_right operand.TextArray _ e r = absurd r
map_any_right _ q e r = never e

map_asked : (t : OperandType) (op : Operator) (q : Right) → is_operand column.Hstore op t ≡ true → IsRight t q → asks_map op q ≡ true
map_asked t ops.Contains q e r = map_right t q (one (same_operand t operand.Hstore) e) r
map_asked t ops.Has q e r = map_key_right t q (one (same_operand t operand.Text) e) r
map_asked t ops.HasAll q e r = map_all_right t q (one (same_operand t operand.TextArray) e) r
map_asked t ops.HasAny q e r = map_any_right t q (one (same_operand t operand.TextArray) e) r
map_asked t _ q e r = never e

-- documents
document_right : (t : OperandType) (q : Right) → same_operand t operand.Jsonb ≡ true → IsRight t q → asks_document ops.Contains q ≡ true
document_right operand.Jsonb (datum (json s)) e r = refl
document_right operand.Jsonb _ e r = absurd r
document_right _ q e r = never e

document_key_right : (t : OperandType) (q : Right) → same_operand t operand.Text ≡ true → IsRight t q → asks_document ops.Has q ≡ true
document_key_right operand.Text (datum (scalar (scalars.Text n))) e r = refl
document_key_right operand.Text (datum (scalar (scalars.Int4 n))) e r = let is = r.0 in cc
document_key_right operand.Text (datum (scalar (scalars.Int8 n))) e r = let is = r.0 in cc
document_key_right operand.Text (datum (scalar (scalars.Bytea n))) e r = let is = r.0 in cc
document_key_right operand.Text (datum (scalar (scalars.Date n))) e r = let is = r.0 in cc
document_key_right operand.Text (datum (scalar (scalars.Uuid n))) e r = let is = r.0 in cc
document_key_right operand.Text _ e r = absurd r
document_key_right _ q e r = never e

document_all_right : (t : OperandType) (q : Right) → same_operand t operand.TextArray ≡ true → IsRight t q → asks_document ops.HasAll q ≡ true
document_all_right operand.TextArray (texts s) e r = refl
document_all_right operand.TextArray _ e r = absurd r
document_all_right _ q e r = never e

document_any_right : (t : OperandType) (q : Right) → same_operand t operand.TextArray ≡ true → IsRight t q → asks_document ops.HasAny q ≡ true
document_any_right operand.TextArray (texts s) e r = refl
document_any_right operand.TextArray _ e r = absurd r
document_any_right _ q e r = never e

document_path_right : (t : OperandType) (q : Right) → same_operand t operand.Jsonb ≡ true → IsRight t q → asks_paths ops.Contains q ≡ true
document_path_right operand.Jsonb (datum (json s)) e r = refl
document_path_right operand.Jsonb _ e r = absurd r
document_path_right _ q e r = never e

document_asked : (t : OperandType) (op : Operator) (q : Right) → is_operand column.Jsonb op t ≡ true → IsRight t q → asks_document op q ≡ true
document_asked t ops.Contains q e r = document_right t q (one (same_operand t operand.Jsonb) e) r
document_asked t ops.Has q e r = document_key_right t q (one (same_operand t operand.Text) e) r
document_asked t ops.HasAll q e r = document_all_right t q (one (same_operand t operand.TextArray) e) r
document_asked t ops.HasAny q e r = document_any_right t q (one (same_operand t operand.TextArray) e) r
document_asked t _ q e r = never e

paths_asked : (t : OperandType) (op : Operator) (q : Right) → not (not (same_operator op ops.Contains)) ≡ true → is_operand column.Jsonb op t ≡ true → IsRight t q → asks_paths op q ≡ true
paths_asked t ops.Contains q has e r = document_path_right t q (one (same_operand t operand.Jsonb) e) r
paths_asked t _ q has e r = never has

-- arrays
set_right : (t : OperandType) (op : Operator) (q : Right) → ((s : List ℤ) → asks_set op (datum (int_array s)) ≡ true) → same_operand t operand.Int4Array ≡ true → IsRight t q → asks_set op q ≡ true
set_right operand.Int4Array op (datum (int_array s)) has e r = has s
set_right operand.Int4Array op _ has e r = absurd r
set_right _ op q has e r = never e

array_right : (t : OperandType) (op : Operator) (q : Right) → ((s : List ℤ) → asks_array op (datum (int_array s)) ≡ true) → same_operand t operand.Int4Array ≡ true → IsRight t q → asks_array op q ≡ true
array_right operand.Int4Array op (datum (int_array s)) has e r = has s
array_right operand.Int4Array op _ has e r = absurd r
array_right _ op q has e r = never e

formula_right : (t : OperandType) (q : Right) → same_operand t operand.QueryInt ≡ true → IsRight t q → asks_set ops.Formula q ≡ true
formula_right operand.QueryInt (query_int s) e r = refl
formula_right operand.QueryInt _ e r = absurd r
formula_right _ q e r = never e

numbers_right : (t : OperandType) (q : Right) → same_operand t operand.QueryInt ≡ true → IsRight t q → asks_numbers ops.Formula q ≡ true
numbers_right operand.QueryInt (query_int s) e r = refl
numbers_right operand.QueryInt _ e r = absurd r
numbers_right _ q e r = never e

set_asked : (t : OperandType) (op : Operator) (q : Right) → not (same_operator op ops.Within) ≡ true → is_operand column.Int4Array op t ≡ true → IsRight t q → asks_set op q ≡ true
set_asked t ops.Overlaps q has e r = set_right t ops.Overlaps q (λ s. refl) (one (same_operand t operand.Int4Array) e) r
set_asked t ops.Contains q has e r = set_right t ops.Contains q (λ s. refl) (one (same_operand t operand.Int4Array) e) r
set_asked t ops.Equal q has e r = set_right t ops.Equal q (λ s. refl) (one (same_operand t operand.Int4Array) e) r
set_asked t ops.Formula q has e r = formula_right t q (one (same_operand t operand.QueryInt) e) r
set_asked t ops.Within q has e r = never has
set_asked t _ q has e r = never e

array_asked : (t : OperandType) (op : Operator) (q : Right) → not (same_operator op ops.Formula) ≡ true → is_operand column.Int4Array op t ≡ true → IsRight t q → asks_array op q ≡ true
array_asked t ops.Overlaps q has e r = array_right t ops.Overlaps q (λ s. refl) (one (same_operand t operand.Int4Array) e) r
array_asked t ops.Contains q has e r = array_right t ops.Contains q (λ s. refl) (one (same_operand t operand.Int4Array) e) r
array_asked t ops.Within q has e r = array_right t ops.Within q (λ s. refl) (one (same_operand t operand.Int4Array) e) r
array_asked t ops.Equal q has e r = array_right t ops.Equal q (λ s. refl) (one (same_operand t operand.Int4Array) e) r
array_asked t ops.Formula q has e r = never has
array_asked t _ q has e r = never e

numbers_asked : (t : OperandType) (op : Operator) (q : Right) → is_operand column.Int4Array op t ≡ true → IsRight t q → asks_numbers op q ≡ true
numbers_asked t ops.Formula q e r = numbers_right t q (one (same_operand t operand.QueryInt) e) r
numbers_asked t ops.Overlaps q e r = array_asked t ops.Overlaps q refl e r
numbers_asked t ops.Contains q e r = array_asked t ops.Contains q refl e r
numbers_asked t ops.Within q e r = array_asked t ops.Within q refl e r
numbers_asked t ops.Equal q e r = array_asked t ops.Equal q refl e r
numbers_asked t _ q e r = never e

pub asked : QuestionsAreAsked
asked classes.GistInt4 n column.Int4 op o a = scalar_asked operand.Int4 o.kind op (right_of o.part) (int4_is o.kind) a.listed a.operand
asked classes.GistInt8 n column.Int8 op o a = scalar_asked operand.Int8 o.kind op (right_of o.part) (int8_is o.kind) a.listed a.operand
asked classes.GistText n column.Text op o a = scalar_asked operand.Text o.kind op (right_of o.part) (text_is o.kind) a.listed a.operand
asked classes.GistBytea n column.Bytea op o a = scalar_asked operand.Bytea o.kind op (right_of o.part) (bytea_is o.kind) a.listed a.operand
asked classes.GistDate n column.Date op o a = scalar_asked operand.Date o.kind op (right_of o.part) (date_is o.kind) a.listed a.operand
asked classes.GistUuid n column.Uuid op o a = scalar_asked operand.Uuid o.kind op (right_of o.part) (uuid_is o.kind) a.listed a.operand
asked classes.RangeOps n column.Int4Range op o a = range_asked operand.Int4Range operand.Int4 o.kind op (right_of o.part) (int4range_is o.kind) (int4_bound o.kind) a.listed a.operand
asked classes.RangeOps n column.Int8Range op o a = range_asked operand.Int8Range operand.Int8 o.kind op (right_of o.part) (int8range_is o.kind) (int8_bound o.kind) a.listed a.operand
asked classes.RangeOps n column.DateRange op o a = range_asked operand.DateRange operand.Date o.kind op (right_of o.part) (daterange_is o.kind) (date_bound o.kind) a.listed a.operand
asked classes.InetOps n column.Inet op o a = inet_asked o.kind op (right_of o.part) a.listed a.operand
asked classes.GistLtree n column.Ltree op o a = path_asked o.kind op (right_of o.part) a.listed a.operand
asked classes.GistHstore n column.Hstore op o a = map_asked o.kind op (right_of o.part) a.listed a.operand
asked classes.GistInt n column.Int4Array op o a = set_asked o.kind op (right_of o.part) (second _ _ a.supports) a.listed a.operand
asked classes.GistIntbig n column.Int4Array op o a = set_asked o.kind op (right_of o.part) (second _ _ a.supports) a.listed a.operand
asked classes.ArrayOps n column.Int4Array op o a = array_asked o.kind op (right_of o.part) (second _ _ a.supports) a.listed a.operand
asked classes.GinInt n column.Int4Array op o a = numbers_asked o.kind op (right_of o.part) a.listed a.operand
asked classes.GinHstore n column.Hstore op o a = map_asked o.kind op (right_of o.part) a.listed a.operand
asked classes.JsonbOps n column.Jsonb op o a = document_asked o.kind op (right_of o.part) a.listed a.operand
asked classes.JsonbPathOps n column.Jsonb op o a = paths_asked o.kind op (right_of o.part) (second _ _ a.supports) a.listed a.operand
asked classes.GistInt4 n _ op o a = never a.takes
asked classes.GistInt8 n _ op o a = never a.takes
asked classes.GistText n _ op o a = never a.takes
asked classes.GistBytea n _ op o a = never a.takes
asked classes.GistDate n _ op o a = never a.takes
asked classes.GistUuid n _ op o a = never a.takes
asked classes.RangeOps n _ op o a = never a.takes
asked classes.InetOps n _ op o a = never a.takes
asked classes.GistLtree n _ op o a = never a.takes
asked classes.GistHstore n _ op o a = never a.takes
asked classes.GistInt n _ op o a = never a.takes
asked classes.GistIntbig n _ op o a = never a.takes
asked classes.ArrayOps n _ op o a = never a.takes
asked classes.GinInt n _ op o a = never a.takes
asked classes.GinHstore n _ op o a = never a.takes
asked classes.JsonbOps n _ op o a = never a.takes
asked classes.JsonbPathOps n _ op o a = never a.takes
