-- The law of candidates, class by class.
use Rattle.std.specs.Prelude.{◌≡◌, ◌==◌, ◌↔◌, IsTrue, ℕ, Bool, true, false, not, cond, ◌&&◌, ◌||◌, ◌⊎◌, List, [], ◌∷◌, ◌++◌, ℤ, None, Some, refl}
use Rattle.std.proofs.Common.{sym, ap, subst, ◌∙◌, inl, inr, true≢false, eqb-true}
use Rattle.std.specs.List.{list_any}
use Rattle.std.specs.Option.{option_map_or}
use Rattle.serde_json.specs.Data.{Data}
use Rattle.gx_formula.specs.Formula.{Tree, Word, Not, And, Or}
use Rattle.gx_intarr.specs.Arrays.{IsArray}
use Rattle.gx_intarr.specs.Formula.{HasInt4}
use Rattle.gx_gin_arrays.specs.Numbers.{numbers_in}
use Rattle.gx_scalar.specs.declared.scalar.Scalar.{Scalar}
use Rattle.gx_scalar.specs.declared.scalar.ScalarKind.{ScalarKind}
use Rattle.gx_scalar.specs.declared.scalar.ScalarKind.TheVariants as kinds
use Rattle.gx_scalar.specs.Values.{IsScalar}
use Rattle.gx_sig.specs.BitSets.{IsSignatureLength}
use Rattle.gx_value.specs.declared.classes.Class.TheVariants as classes
use Rattle.gx_value.specs.declared.types.ColumnType.{ColumnType}
use Rattle.gx_value.specs.declared.types.ColumnType.TheVariants as column
use Rattle.gx_value.specs.declared.types.OperandType.{OperandType}
use Rattle.gx_value.specs.declared.types.OperandType.TheVariants as operand
use Rattle.gx_value.specs.declared.operators.Operator.{Operator}
use Rattle.gx_value.specs.declared.operators.Operator.TheVariants as ops
use Rattle.gx_value.specs.declared.value.Value.TheVariants as value
use Rattle.gx_value.specs.Classes.{siglens}
use Rattle.gx_value.specs.Types.{same_operand}
use Rattle.gx_value.specs.Operators.{Line, same_operator}
use Rattle.gx_value.specs.Values.{Datum, scalar, range, inet, path, hstore, int_array, json, IsValue, IsDatum}
use Rattle.gx_opr.specs.declared.operand.Operand.{Operand}
use Rattle.gx_opr.specs.declared.operand.Part.{Part}
use Rattle.gx_opr.specs.declared.operand.Part.TheVariants as part
use Rattle.gx_opr.specs.Decisions.{holds}
use Rattle.gx_opr.specs.Operands.{Right, datum, query_int, right_of, IsRight}
use Rattle.gx_opr.specs.Operators.{Holds, HoldsOfScalar, HoldsOfJson}
use Rattle.gx_candidates.specs.Candidates.{of_scalar, of_paths, candidate}
use Rattle.gx_candidates.specs.Queries.{IsScalarRight, IsValidRight}
use Rattle.gx_candidates.specs.Laws.{scalar_class, IsAsked, CandidatesSee}
use Rattle.gx_candidates.proofs.Sees.{scalar_sees, range_sees, inet_sees, path_sees, map_sees, signed_sees, set_sees, array_sees, numbers_see, gin_map_sees, document_sees, paths_see}

pub record Laws : Type 0 where
  pub decided : (op : Operator) (v : Datum) (q : Right) → IsTrue (holds op v q) ↔ Holds op v q
  pub valid : (kind : ColumnType) (d : Datum) → IsValue kind d → IsDatum d

never : {A : Type 0} → false ≡ true → A
never e = absurd (true≢false (sym e))

-- the lengths of signatures
split : (m n : ℕ) (rest b : Bool) (P : Type 0) → (m == n) ≡ b → (b || rest) ≡ true → (rest ≡ true → P) → (n ≡ m) ⊎ P
split m n rest true P same e f = inl (sym (eqb-true m n same))
split m n rest false P same e f = inr (f e)

one_of : (m n : ℕ) (rest : Bool) (P : Type 0) → ((m == n) || rest) ≡ true → (rest ≡ true → P) → (n ≡ m) ⊎ P
one_of m n rest P e f = split m n rest (m == n) P refl e f

last : (m n : ℕ) (b : Bool) → (m == n) ≡ b → (b || false) ≡ true → n ≡ m
last m n true same e = sym (eqb-true m n same)
last m n false same e = never e

is_length : (n : ℕ) → list_any (λ m. m == n) siglens ≡ true → IsSignatureLength n
is_length n e =
    one_of 4 n _ _ e (λ e. one_of 8 n _ _ e (λ e. one_of 16 n _ _ e (λ e. one_of 28 n _ _ e
    (λ e. one_of 32 n _ _ e (λ e. one_of 64 n _ _ e (λ e. one_of 128 n _ _ e (λ e. last 252 n (252 == n) refl e)))))))

-- what a class lacks
second : (a b : Bool) → (a && b) ≡ true → b ≡ true
second true b e = e
second false b e = never e

other_than : (op other : Operator) → same_operator other other ≡ true → not (same_operator op other) ≡ true → op ≡ other → ⊥
other_than op other same e is = never (sym (ap not same) ∙ subst (λ (x : Operator). not (same_operator x other) ≡ true) is e)

-- the operand of a scalar column is of its type
only : (a t : OperandType) (os : List Operator) (b : Bool) → list_any (same_operand t) (option_map_or (λ (l : Line). l.operands) (cond b (Some (record { operators = os; operands = a ∷ [] })) None) []) ≡ true → same_operand t a ≡ true
only a t os true e = first (same_operand t a) e
  where
    first : (c : Bool) → (c || false) ≡ true → c ≡ true
    first true e = refl
    first false e = never e
only a t os false e = never e

pub valid_right : Laws → (t : OperandType) (q : Right) → IsRight t q → IsValidRight q
valid_right laws operand.Int4 (datum d) r = laws.valid column.Int4 d r
valid_right laws operand.Int8 (datum d) r = laws.valid column.Int8 d r
valid_right laws operand.Text (datum d) r = laws.valid column.Text d r
valid_right laws operand.Bytea (datum d) r = laws.valid column.Bytea d r
valid_right laws operand.Date (datum d) r = laws.valid column.Date d r
valid_right laws operand.Uuid (datum d) r = laws.valid column.Uuid d r
valid_right laws operand.Int4Range (datum d) r = laws.valid column.Int4Range d r
valid_right laws operand.Int8Range (datum d) r = laws.valid column.Int8Range d r
valid_right laws operand.DateRange (datum d) r = laws.valid column.DateRange d r
valid_right laws operand.Inet (datum d) r = laws.valid column.Inet d r
valid_right laws operand.Ltree (datum d) r = laws.valid column.Ltree d r
valid_right laws operand.Hstore (datum d) r = laws.valid column.Hstore d r
valid_right laws operand.Jsonb (datum d) r = laws.valid column.Jsonb d r
valid_right laws operand.Int4Array (datum d) r = laws.valid column.Int4Array d r
valid_right laws _ (datum d) r = absurd r
valid_right laws t _ r = tt

scalar_case : (k : ScalarKind) (op : Operator) (v : Scalar) (p : Part) → IsScalar k v → ((s : Scalar) → right_of p ≡ datum (scalar s) → IsScalar k s) → HoldsOfScalar op v (right_of p) → of_scalar op (right_of p) v ≡ true
scalar_case k op v (part.Value (value.Scalar s)) isv r h = scalar_sees k op v s isv (r s refl) h
scalar_case k op v _ isv r h = absurd h

int4_right : (t : OperandType) (s : Scalar) → same_operand t operand.Int4 ≡ true → IsRight t (datum (scalar s)) → IsScalar kinds.Int4 s
int4_right operand.Int4 s e r = r
int4_right _ s e r = never e

int8_right : (t : OperandType) (s : Scalar) → same_operand t operand.Int8 ≡ true → IsRight t (datum (scalar s)) → IsScalar kinds.Int8 s
int8_right operand.Int8 s e r = r
int8_right _ s e r = never e

text_right : (t : OperandType) (s : Scalar) → same_operand t operand.Text ≡ true → IsRight t (datum (scalar s)) → IsScalar kinds.Text s
text_right operand.Text s e r = r
text_right _ s e r = never e

bytea_right : (t : OperandType) (s : Scalar) → same_operand t operand.Bytea ≡ true → IsRight t (datum (scalar s)) → IsScalar kinds.Bytea s
bytea_right operand.Bytea s e r = r
bytea_right _ s e r = never e

date_right : (t : OperandType) (s : Scalar) → same_operand t operand.Date ≡ true → IsRight t (datum (scalar s)) → IsScalar kinds.Date s
date_right operand.Date s e r = r
date_right _ s e r = never e

uuid_right : (t : OperandType) (s : Scalar) → same_operand t operand.Uuid ≡ true → IsRight t (datum (scalar s)) → IsScalar kinds.Uuid s
uuid_right operand.Uuid s e r = r
uuid_right _ s e r = never e

arrays_join : (xs ys : List ℤ) → IsArray xs → IsArray ys → IsArray (xs ++ ys)
arrays_join [] ys h k = k
arrays_join (x ∷ xs) ys h k = (h.0, arrays_join xs ys h.1 k)

numbers_int4 : (t : Tree ℤ) → HasInt4 t → IsArray (numbers_in t)
numbers_int4 (Word n) is = (is, tt)
numbers_int4 (Not t) is = numbers_int4 t is
numbers_int4 (And t u) is = arrays_join (numbers_in t) (numbers_in u) (numbers_int4 t is.0) (numbers_int4 u is.1)
numbers_int4 (Or t u) is = arrays_join (numbers_in t) (numbers_in u) (numbers_int4 t is.0) (numbers_int4 u is.1)

formula_right : (kind : OperandType) (t : Tree ℤ) → IsRight kind (query_int t) → IsArray (numbers_in t)
formula_right operand.QueryInt t r = numbers_int4 t r
formula_right _ t r = absurd r

paths_any : (laws : Laws) (op : Operator) (v : Data) (p : Part) → not (not (same_operator op ops.Contains)) ≡ true → IsValidRight (right_of p) → HoldsOfJson op v (right_of p) → of_paths op (right_of p) v ≡ true
paths_any laws ops.Contains v p has r h = paths_see v p r h
paths_any laws _ v p has r h = never has

-- what has to be shown of scalars alone
of_scalars_alone : (k : ScalarKind) (q : Right) → ((s : Scalar) → q ≡ datum (scalar s) → IsScalar k s) → IsScalarRight k q
of_scalars_alone k (datum (scalar s)) f = f s refl
of_scalars_alone k _ f = tt

pub scalar_question : (k : ScalarKind) (n : ℕ) (kind : ColumnType) (op : Operator) (o : Operand) → IsAsked (scalar_class k) n kind op o → IsScalarRight k (right_of o.part)
scalar_question kinds.Int4 n column.Int4 op o asked =
    of_scalars_alone kinds.Int4 (right_of o.part) (λ s e. int4_right o.kind s (only operand.Int4 o.kind _ _ asked.listed) (subst (λ (q : Right). IsRight o.kind q) e asked.operand))
scalar_question kinds.Int8 n column.Int8 op o asked =
    of_scalars_alone kinds.Int8 (right_of o.part) (λ s e. int8_right o.kind s (only operand.Int8 o.kind _ _ asked.listed) (subst (λ (q : Right). IsRight o.kind q) e asked.operand))
scalar_question kinds.Text n column.Text op o asked =
    of_scalars_alone kinds.Text (right_of o.part) (λ s e. text_right o.kind s (only operand.Text o.kind _ _ asked.listed) (subst (λ (q : Right). IsRight o.kind q) e asked.operand))
scalar_question kinds.Bytea n column.Bytea op o asked =
    of_scalars_alone kinds.Bytea (right_of o.part) (λ s e. bytea_right o.kind s (only operand.Bytea o.kind _ _ asked.listed) (subst (λ (q : Right). IsRight o.kind q) e asked.operand))
scalar_question kinds.Date n column.Date op o asked =
    of_scalars_alone kinds.Date (right_of o.part) (λ s e. date_right o.kind s (only operand.Date o.kind _ _ asked.listed) (subst (λ (q : Right). IsRight o.kind q) e asked.operand))
scalar_question kinds.Uuid n column.Uuid op o asked =
    of_scalars_alone kinds.Uuid (right_of o.part) (λ s e. uuid_right o.kind s (only operand.Uuid o.kind _ _ asked.listed) (subst (λ (q : Right). IsRight o.kind q) e asked.operand))
scalar_question kinds.Int4 n _ op o asked = never asked.takes
scalar_question kinds.Int8 n _ op o asked = never asked.takes
scalar_question kinds.Text n _ op o asked = never asked.takes
scalar_question kinds.Bytea n _ op o asked = never asked.takes
scalar_question kinds.Date n _ op o asked = never asked.takes
scalar_question kinds.Uuid n _ op o asked = never asked.takes

see_GistInt4 : Laws → (n : ℕ) (kind : ColumnType) (op : Operator) (o : Operand) (v : Datum) → IsAsked classes.GistInt4 n kind op o → IsValue kind v → holds op v (right_of o.part) ≡ true
    → candidate classes.GistInt4 n op (right_of o.part) v ≡ true
unfolding candidate
see_GistInt4 laws n column.Int4 op o (scalar v) asked isv h =
    scalar_case kinds.Int4 op v o.part isv
    (λ s e. int4_right o.kind s (only operand.Int4 o.kind _ _ asked.listed) (subst (λ (q : Right). IsRight o.kind q) e asked.operand)) ((laws.decided op (scalar v) (right_of o.part)).0 h)
see_GistInt4 laws n column.Int4 op o _ asked isv h = absurd isv
see_GistInt4 laws n _ op o v asked isv h = never asked.takes

see_GistInt8 : Laws → (n : ℕ) (kind : ColumnType) (op : Operator) (o : Operand) (v : Datum) → IsAsked classes.GistInt8 n kind op o → IsValue kind v → holds op v (right_of o.part) ≡ true
    → candidate classes.GistInt8 n op (right_of o.part) v ≡ true
unfolding candidate
see_GistInt8 laws n column.Int8 op o (scalar v) asked isv h =
    scalar_case kinds.Int8 op v o.part isv
    (λ s e. int8_right o.kind s (only operand.Int8 o.kind _ _ asked.listed) (subst (λ (q : Right). IsRight o.kind q) e asked.operand)) ((laws.decided op (scalar v) (right_of o.part)).0 h)
see_GistInt8 laws n column.Int8 op o _ asked isv h = absurd isv
see_GistInt8 laws n _ op o v asked isv h = never asked.takes

see_GistText : Laws → (n : ℕ) (kind : ColumnType) (op : Operator) (o : Operand) (v : Datum) → IsAsked classes.GistText n kind op o → IsValue kind v → holds op v (right_of o.part) ≡ true
    → candidate classes.GistText n op (right_of o.part) v ≡ true
unfolding candidate
see_GistText laws n column.Text op o (scalar v) asked isv h =
    scalar_case kinds.Text op v o.part isv
    (λ s e. text_right o.kind s (only operand.Text o.kind _ _ asked.listed) (subst (λ (q : Right). IsRight o.kind q) e asked.operand)) ((laws.decided op (scalar v) (right_of o.part)).0 h)
see_GistText laws n column.Text op o _ asked isv h = absurd isv
see_GistText laws n _ op o v asked isv h = never asked.takes

see_GistBytea : Laws → (n : ℕ) (kind : ColumnType) (op : Operator) (o : Operand) (v : Datum) → IsAsked classes.GistBytea n kind op o → IsValue kind v → holds op v (right_of o.part) ≡ true
    → candidate classes.GistBytea n op (right_of o.part) v ≡ true
unfolding candidate
see_GistBytea laws n column.Bytea op o (scalar v) asked isv h =
    scalar_case kinds.Bytea op v o.part isv
    (λ s e. bytea_right o.kind s (only operand.Bytea o.kind _ _ asked.listed) (subst (λ (q : Right). IsRight o.kind q) e asked.operand)) ((laws.decided op (scalar v) (right_of o.part)).0 h)
see_GistBytea laws n column.Bytea op o _ asked isv h = absurd isv
see_GistBytea laws n _ op o v asked isv h = never asked.takes

see_GistDate : Laws → (n : ℕ) (kind : ColumnType) (op : Operator) (o : Operand) (v : Datum) → IsAsked classes.GistDate n kind op o → IsValue kind v → holds op v (right_of o.part) ≡ true
    → candidate classes.GistDate n op (right_of o.part) v ≡ true
unfolding candidate
see_GistDate laws n column.Date op o (scalar v) asked isv h =
    scalar_case kinds.Date op v o.part isv
    (λ s e. date_right o.kind s (only operand.Date o.kind _ _ asked.listed) (subst (λ (q : Right). IsRight o.kind q) e asked.operand)) ((laws.decided op (scalar v) (right_of o.part)).0 h)
see_GistDate laws n column.Date op o _ asked isv h = absurd isv
see_GistDate laws n _ op o v asked isv h = never asked.takes

see_GistUuid : Laws → (n : ℕ) (kind : ColumnType) (op : Operator) (o : Operand) (v : Datum) → IsAsked classes.GistUuid n kind op o → IsValue kind v → holds op v (right_of o.part) ≡ true
    → candidate classes.GistUuid n op (right_of o.part) v ≡ true
unfolding candidate
see_GistUuid laws n column.Uuid op o (scalar v) asked isv h =
    scalar_case kinds.Uuid op v o.part isv
    (λ s e. uuid_right o.kind s (only operand.Uuid o.kind _ _ asked.listed) (subst (λ (q : Right). IsRight o.kind q) e asked.operand)) ((laws.decided op (scalar v) (right_of o.part)).0 h)
see_GistUuid laws n column.Uuid op o _ asked isv h = absurd isv
see_GistUuid laws n _ op o v asked isv h = never asked.takes

see_RangeOps : Laws → (n : ℕ) (kind : ColumnType) (op : Operator) (o : Operand) (v : Datum) → IsAsked classes.RangeOps n kind op o → IsValue kind v → holds op v (right_of o.part) ≡ true
    → candidate classes.RangeOps n op (right_of o.part) v ≡ true
unfolding candidate
see_RangeOps laws n column.Int4Range op o (range v) asked isv h = range_sees op v o.part ((laws.decided op (range v) (right_of o.part)).0 h)
see_RangeOps laws n column.Int4Range op o _ asked isv h = absurd isv
see_RangeOps laws n column.Int8Range op o (range v) asked isv h = range_sees op v o.part ((laws.decided op (range v) (right_of o.part)).0 h)
see_RangeOps laws n column.Int8Range op o _ asked isv h = absurd isv
see_RangeOps laws n column.DateRange op o (range v) asked isv h = range_sees op v o.part ((laws.decided op (range v) (right_of o.part)).0 h)
see_RangeOps laws n column.DateRange op o _ asked isv h = absurd isv
see_RangeOps laws n _ op o v asked isv h = never asked.takes

see_InetOps : Laws → (n : ℕ) (kind : ColumnType) (op : Operator) (o : Operand) (v : Datum) → IsAsked classes.InetOps n kind op o → IsValue kind v → holds op v (right_of o.part) ≡ true
    → candidate classes.InetOps n op (right_of o.part) v ≡ true
unfolding candidate
see_InetOps laws n column.Inet op o (inet v) asked isv h = inet_sees op v o.part ((laws.decided op (inet v) (right_of o.part)).0 h)
see_InetOps laws n column.Inet op o _ asked isv h = absurd isv
see_InetOps laws n _ op o v asked isv h = never asked.takes

see_GistLtree : Laws → (n : ℕ) (kind : ColumnType) (op : Operator) (o : Operand) (v : Datum) → IsAsked classes.GistLtree n kind op o → IsValue kind v → holds op v (right_of o.part) ≡ true
    → candidate classes.GistLtree n op (right_of o.part) v ≡ true
unfolding candidate
see_GistLtree laws n column.Ltree op o (path v) asked isv h = path_sees n op v o.part (is_length n asked.allows) ((laws.decided op (path v) (right_of o.part)).0 h)
see_GistLtree laws n column.Ltree op o _ asked isv h = absurd isv
see_GistLtree laws n _ op o v asked isv h = never asked.takes

see_GistHstore : Laws → (n : ℕ) (kind : ColumnType) (op : Operator) (o : Operand) (v : Datum) → IsAsked classes.GistHstore n kind op o → IsValue kind v → holds op v (right_of o.part) ≡ true
    → candidate classes.GistHstore n op (right_of o.part) v ≡ true
unfolding candidate
see_GistHstore laws n column.Hstore op o (hstore v) asked isv h = map_sees n op v o.part (is_length n asked.allows) (valid_right laws o.kind (right_of o.part) asked.operand) ((laws.decided op (hstore v) (right_of o.part)).0 h)
see_GistHstore laws n column.Hstore op o _ asked isv h = absurd isv
see_GistHstore laws n _ op o v asked isv h = never asked.takes

see_GistInt : Laws → (n : ℕ) (kind : ColumnType) (op : Operator) (o : Operand) (v : Datum) → IsAsked classes.GistInt n kind op o → IsValue kind v → holds op v (right_of o.part) ≡ true
    → candidate classes.GistInt n op (right_of o.part) v ≡ true
unfolding candidate
see_GistInt laws n column.Int4Array op o (int_array v) asked isv h = set_sees n op v o.part isv (other_than op ops.Within refl (second _ _ asked.supports)) ((laws.decided op (int_array v) (right_of o.part)).0 h)
see_GistInt laws n column.Int4Array op o _ asked isv h = absurd isv
see_GistInt laws n _ op o v asked isv h = never asked.takes

see_GistIntbig : Laws → (n : ℕ) (kind : ColumnType) (op : Operator) (o : Operand) (v : Datum) → IsAsked classes.GistIntbig n kind op o → IsValue kind v → holds op v (right_of o.part) ≡ true
    → candidate classes.GistIntbig n op (right_of o.part) v ≡ true
unfolding candidate
see_GistIntbig laws n column.Int4Array op o (int_array v) asked isv h = signed_sees n op v o.part (is_length n asked.allows) (other_than op ops.Within refl (second _ _ asked.supports)) ((laws.decided op (int_array v) (right_of o.part)).0 h)
see_GistIntbig laws n column.Int4Array op o _ asked isv h = absurd isv
see_GistIntbig laws n _ op o v asked isv h = never asked.takes

see_ArrayOps : Laws → (n : ℕ) (kind : ColumnType) (op : Operator) (o : Operand) (v : Datum) → IsAsked classes.ArrayOps n kind op o → IsValue kind v → holds op v (right_of o.part) ≡ true
    → candidate classes.ArrayOps n op (right_of o.part) v ≡ true
unfolding candidate
see_ArrayOps laws n column.Int4Array op o (int_array v) asked isv h = array_sees op v o.part isv (valid_right laws o.kind (right_of o.part) asked.operand) (other_than op ops.Formula refl (second _ _ asked.supports)) ((laws.decided op (int_array v) (right_of o.part)).0 h)
see_ArrayOps laws n column.Int4Array op o _ asked isv h = absurd isv
see_ArrayOps laws n _ op o v asked isv h = never asked.takes

see_GinInt : Laws → (n : ℕ) (kind : ColumnType) (op : Operator) (o : Operand) (v : Datum) → IsAsked classes.GinInt n kind op o → IsValue kind v → holds op v (right_of o.part) ≡ true
    → candidate classes.GinInt n op (right_of o.part) v ≡ true
unfolding candidate
see_GinInt laws n column.Int4Array op o (int_array v) asked isv h = numbers_see op v o.part isv (valid_right laws o.kind (right_of o.part) asked.operand) (λ t e. formula_right o.kind t (subst (λ (q : Right). IsRight o.kind q) e asked.operand)) ((laws.decided op (int_array v) (right_of o.part)).0 h)
see_GinInt laws n column.Int4Array op o _ asked isv h = absurd isv
see_GinInt laws n _ op o v asked isv h = never asked.takes

see_GinHstore : Laws → (n : ℕ) (kind : ColumnType) (op : Operator) (o : Operand) (v : Datum) → IsAsked classes.GinHstore n kind op o → IsValue kind v → holds op v (right_of o.part) ≡ true
    → candidate classes.GinHstore n op (right_of o.part) v ≡ true
unfolding candidate
see_GinHstore laws n column.Hstore op o (hstore v) asked isv h = gin_map_sees op v o.part isv (valid_right laws o.kind (right_of o.part) asked.operand) ((laws.decided op (hstore v) (right_of o.part)).0 h)
see_GinHstore laws n column.Hstore op o _ asked isv h = absurd isv
see_GinHstore laws n _ op o v asked isv h = never asked.takes

see_JsonbOps : Laws → (n : ℕ) (kind : ColumnType) (op : Operator) (o : Operand) (v : Datum) → IsAsked classes.JsonbOps n kind op o → IsValue kind v → holds op v (right_of o.part) ≡ true
    → candidate classes.JsonbOps n op (right_of o.part) v ≡ true
unfolding candidate
see_JsonbOps laws n column.Jsonb op o (json v) asked isv h = document_sees op v o.part ((laws.decided op (json v) (right_of o.part)).0 h)
see_JsonbOps laws n column.Jsonb op o _ asked isv h = absurd isv
see_JsonbOps laws n _ op o v asked isv h = never asked.takes

see_JsonbPathOps : Laws → (n : ℕ) (kind : ColumnType) (op : Operator) (o : Operand) (v : Datum) → IsAsked classes.JsonbPathOps n kind op o → IsValue kind v → holds op v (right_of o.part) ≡ true
    → candidate classes.JsonbPathOps n op (right_of o.part) v ≡ true
unfolding candidate
see_JsonbPathOps laws n column.Jsonb op o (json v) asked isv h = paths_any laws op v o.part (second _ _ asked.supports) (valid_right laws o.kind (right_of o.part) asked.operand) ((laws.decided op (json v) (right_of o.part)).0 h)
see_JsonbPathOps laws n column.Jsonb op o _ asked isv h = absurd isv
see_JsonbPathOps laws n _ op o v asked isv h = never asked.takes

pub see : Laws → CandidatesSee
see laws classes.GistInt4 n kind op o v asked isv h = see_GistInt4 laws n kind op o v asked isv h
see laws classes.GistInt8 n kind op o v asked isv h = see_GistInt8 laws n kind op o v asked isv h
see laws classes.GistText n kind op o v asked isv h = see_GistText laws n kind op o v asked isv h
see laws classes.GistBytea n kind op o v asked isv h = see_GistBytea laws n kind op o v asked isv h
see laws classes.GistDate n kind op o v asked isv h = see_GistDate laws n kind op o v asked isv h
see laws classes.GistUuid n kind op o v asked isv h = see_GistUuid laws n kind op o v asked isv h
see laws classes.RangeOps n kind op o v asked isv h = see_RangeOps laws n kind op o v asked isv h
see laws classes.InetOps n kind op o v asked isv h = see_InetOps laws n kind op o v asked isv h
see laws classes.GistLtree n kind op o v asked isv h = see_GistLtree laws n kind op o v asked isv h
see laws classes.GistHstore n kind op o v asked isv h = see_GistHstore laws n kind op o v asked isv h
see laws classes.GistInt n kind op o v asked isv h = see_GistInt laws n kind op o v asked isv h
see laws classes.GistIntbig n kind op o v asked isv h = see_GistIntbig laws n kind op o v asked isv h
see laws classes.ArrayOps n kind op o v asked isv h = see_ArrayOps laws n kind op o v asked isv h
see laws classes.GinInt n kind op o v asked isv h = see_GinInt laws n kind op o v asked isv h
see laws classes.GinHstore n kind op o v asked isv h = see_GinHstore laws n kind op o v asked isv h
see laws classes.JsonbOps n kind op o v asked isv h = see_JsonbOps laws n kind op o v asked isv h
see laws classes.JsonbPathOps n kind op o v asked isv h = see_JsonbPathOps laws n kind op o v asked isv h
