-- What is read of a literal is one.
use Rattle.std.proofs.Common.{◌≡◌, ◌≢◌, ◌⊎◌, inl, inr, ℕ, List, [], ◌∷◌, Option, Some, None, Result, Ok, Err, refl, sym, ◌∙◌}
use Rattle.gx_bytes.specs.declared.error.ValueError.{ValueError}
use Rattle.gx_bytes.specs.declared.error.ValueError.TheVariants.{NoValue, OutOfRange, TooDeep, Memory}
use Rattle.gx_value.specs.declared.types.ColumnType.{ColumnType}
use Rattle.gx_value.specs.declared.types.OperandType.{OperandType}
use Rattle.gx_value.specs.declared.types.Family.{Family}
use Rattle.gx_value.specs.declared.literal.Form.{Form}
use Rattle.gx_value.specs.declared.literal.Form.TheVariants as form
use Rattle.gx_value.specs.declared.literal.Literal.{Literal}
use Rattle.gx_value.specs.Literals as values
use Rattle.gx_value.specs.Types.{family_of, as_column}
use Rattle.gx_value.specs.Values.{Datum}
use Rattle.gx_opr.specs.Literals as rights
use Rattle.gx_opr.specs.Operands.{Right, datum, texts, lquery, lqueries, ltxtquery, query_int}
use Rattle.gx_model.specs.Checks.{fault_of}

-- no two answers, but for want of memory
abbrev pub IsOne : {V : Type 0} → (Result V ValueError → Type 0) → Type 0
IsOne {V = V} Says = (r s : Result V ValueError) → r ≢ Err Memory → s ≢ Err Memory → Says r → Says s → r ≡ s

abbrev pub refusal : {V : Type 0} → ValueError → Result V ValueError
refusal e = Err e

abbrev pub reading : {V : Type 0} → V → Result V ValueError
reading v = Ok v

pub not_memory : {V : Type 0} (e : ValueError) (n : ℕ) → fault_of e ≡ Some n → refusal {V = V} e ≢ refusal Memory
not_memory NoValue n h = λ g. cc
not_memory OutOfRange n h = λ g. cc
not_memory TooDeep n h = λ g. cc
not_memory Memory n h = λ g. cc

pub no_error : {V : Type 0} (v : V) → reading v ≢ refusal Memory
no_error v = λ g. cc

pub same_value : {V : Type 0} (v w : V) → reading v ≡ reading w → v ≡ w
same_value v w h = cc

-- a value and a fault
pub not_both : {V : Type 0} (Says : Result V ValueError → Type 0) (v : V) (e : ValueError) (n : ℕ) → IsOne Says → Says (Ok v) → Says (Err e) → fault_of e ≡ Some n → ⊥
not_both Says v e n one p q h = let g = one (Ok v) (Err e) (no_error v) (not_memory e n h) p q in cc

same_fault : {V : Type 0} (e f : ValueError) (n m : ℕ) → refusal {V = V} e ≡ refusal f → fault_of e ≡ Some n → fault_of f ≡ Some m → n ≡ m
same_fault e f n m g h k = cc

-- two faults
pub one_fault : {V : Type 0} (Says : Result V ValueError → Type 0) (e f : ValueError) (n m : ℕ) → IsOne Says → Says (Err e) → Says (Err f) → fault_of e ≡ Some n → fault_of f ≡ Some m → n ≡ m
one_fault Says e f n m one p q h k = same_fault e f n m (one (Err e) (Err f) (not_memory e n h) (not_memory f m k) p q) h k

-- two values
pub one_value : {V : Type 0} (Says : Result V ValueError → Type 0) (v w : V) → IsOne Says → Says (Ok v) → Says (Ok w) → v ≡ w
one_value Says v w one p q = same_value v w (one (Ok v) (Ok w) (no_error v) (no_error w) p q)

-- NULL is read as nothing, and is not refused; all else has the texts of a literal.

abbrev HasTexts : Form → List (List ℕ) → Type 0
HasTexts f ts = values.HasTexts f ts

abbrev pub IsNull : {V : Type 0} → Form → Option V → Type 0
IsNull f found = (f ≡ form.Null) × (found ≡ None)

value_texts : (k : Family) (f : Form) (ts : List (List ℕ)) (found : Option Datum) → values.ReadsTexts k f ts found → HasTexts f ts ⊎ IsNull f found
value_texts k form.Null ts None h = inr (refl, refl)
value_texts k form.Null ts (Some d) h = absurd h
value_texts k form.Text [] found h = absurd h
value_texts k form.Text (t ∷ []) found h = inl (t, refl)
value_texts k form.Text (t ∷ u ∷ ts) found h = absurd h
value_texts k form.Number [] found h = absurd h
value_texts k form.Number (t ∷ []) found h = inl (t, refl)
value_texts k form.Number (t ∷ u ∷ ts) found h = absurd h
value_texts k form.List ts found h = inl tt

refused_texts : (k : Family) (f : Form) (ts : List (List ℕ)) (e : ValueError) → values.RefusesTexts k f ts e → HasTexts f ts
refused_texts k form.Null ts e h = absurd h
refused_texts k form.Text [] e h = absurd h
refused_texts k form.Text (t ∷ []) e h = (t, refl)
refused_texts k form.Text (t ∷ u ∷ ts) e h = absurd h
refused_texts k form.Number [] e h = absurd h
refused_texts k form.Number (t ∷ []) e h = (t, refl)
refused_texts k form.Number (t ∷ u ∷ ts) e h = absurd h
refused_texts k form.List ts e h = tt

null_is_none : (k : Family) (f : Form) (ts : List (List ℕ)) (found : Option Datum) → f ≡ form.Null → values.ReadsTexts k f ts found → found ≡ None
null_is_none k form.Null ts None e h = refl
null_is_none k form.Null ts (Some d) e h = absurd h
null_is_none k form.Text ts found e h = cc
null_is_none k form.Number ts found e h = cc
null_is_none k form.List ts found e h = cc

right_texts : (k : OperandType) (f : Form) (ts : List (List ℕ)) (found : Option Right) → rights.ReadsTexts k f ts found → HasTexts f ts ⊎ IsNull f found
right_texts k form.Null ts None h = inr (refl, refl)
right_texts k form.Null ts (Some d) h = absurd h
right_texts k form.Text [] found h = absurd h
right_texts k form.Text (t ∷ []) found h = inl (t, refl)
right_texts k form.Text (t ∷ u ∷ ts) found h = absurd h
right_texts k form.Number [] found h = absurd h
right_texts k form.Number (t ∷ []) found h = inl (t, refl)
right_texts k form.Number (t ∷ u ∷ ts) found h = absurd h
right_texts k form.List ts found h = inl tt

right_refused_texts : (k : OperandType) (f : Form) (ts : List (List ℕ)) (e : ValueError) → rights.RefusesTexts k f ts e → HasTexts f ts
right_refused_texts k form.Null ts e h = absurd h
right_refused_texts k form.Text [] e h = absurd h
right_refused_texts k form.Text (t ∷ []) e h = (t, refl)
right_refused_texts k form.Text (t ∷ u ∷ ts) e h = absurd h
right_refused_texts k form.Number [] e h = absurd h
right_refused_texts k form.Number (t ∷ []) e h = (t, refl)
right_refused_texts k form.Number (t ∷ u ∷ ts) e h = absurd h
right_refused_texts k form.List ts e h = tt

right_null_is_none : (k : OperandType) (f : Form) (ts : List (List ℕ)) (found : Option Right) → f ≡ form.Null → rights.ReadsTexts k f ts found → found ≡ None
right_null_is_none k form.Null ts None e h = refl
right_null_is_none k form.Null ts (Some d) e h = absurd h
right_null_is_none k form.Text ts found e h = cc
right_null_is_none k form.Number ts found e h = cc
right_null_is_none k form.List ts found e h = cc

-- a column type's right side

as_texts : (column : Option ColumnType) (k : OperandType) (l : Literal) (found : Option Right) → rights.ReadsAs k column l found → HasTexts l.form l.texts ⊎ IsNull l.form found
as_texts None k l found h = right_texts k l.form l.texts found h
as_texts (Some c) k l None h = right_side (value_texts (family_of c) l.form l.texts None h)
  where
    right_side : HasTexts l.form l.texts ⊎ IsNull {V = Datum} l.form None → HasTexts l.form l.texts ⊎ IsNull {V = Right} l.form None
    right_side (inl g) = inl g
    right_side (inr g) = inr (g.0, refl)
as_texts (Some c) k l (Some (datum d)) h = left_side (value_texts (family_of c) l.form l.texts (Some d) h)
  where
    left_side : HasTexts l.form l.texts ⊎ IsNull l.form (Some d) → HasTexts l.form l.texts ⊎ IsNull l.form (Some (datum d))
    left_side (inl g) = inl g
    left_side (inr g) = let e = g.1 in cc
as_texts (Some c) k l (Some (texts ts)) h = absurd h
as_texts (Some c) k l (Some (lquery q)) h = absurd h
as_texts (Some c) k l (Some (lqueries qs)) h = absurd h
as_texts (Some c) k l (Some (ltxtquery q)) h = absurd h
as_texts (Some c) k l (Some (query_int q)) h = absurd h

as_refused_texts : (column : Option ColumnType) (k : OperandType) (l : Literal) (e : ValueError) → rights.RefusesAs k column l e → HasTexts l.form l.texts
as_refused_texts None k l e h = right_refused_texts k l.form l.texts e h
as_refused_texts (Some c) k l e h = refused_texts (family_of c) l.form l.texts e h

as_null_is_none : (column : Option ColumnType) (k : OperandType) (l : Literal) (found : Option Right) → l.form ≡ form.Null → rights.ReadsAs k column l found → found ≡ None
as_null_is_none None k l found e h = right_null_is_none k l.form l.texts found e h
as_null_is_none (Some c) k l None e h = refl
as_null_is_none (Some c) k l (Some (datum d)) e h = let g = null_is_none (family_of c) l.form l.texts (Some d) e h in cc
as_null_is_none (Some c) k l (Some (texts ts)) e h = absurd h
as_null_is_none (Some c) k l (Some (lquery q)) e h = absurd h
as_null_is_none (Some c) k l (Some (lqueries qs)) e h = absurd h
as_null_is_none (Some c) k l (Some (ltxtquery q)) e h = absurd h
as_null_is_none (Some c) k l (Some (query_int q)) e h = absurd h

-- the laws of literals and rows
pub record Laws : Type 0 where
  pub of_values : (kind : ColumnType) (l : Literal) → values.IsLiteral l → IsOne (values.AnswersLiteral kind l)
  pub of_rights : (kind : OperandType) (l : Literal) → values.IsLiteral l → IsOne (rights.AnswersOperand kind l)

pub one_read : Laws → (kind : ColumnType) (l : Literal) (v w : Option Datum) → values.Reads kind l v → values.Reads kind l w → v ≡ w
one_read laws kind l v w p q = by_cases (value_texts (family_of kind) l.form l.texts v p)
  where
    by_cases : HasTexts l.form l.texts ⊎ IsNull l.form v → v ≡ w
    by_cases (inl h) = one_value (values.AnswersLiteral kind l) v w (laws.of_values kind l h) p q
    by_cases (inr h) = h.1 ∙ sym (null_is_none (family_of kind) l.form l.texts w h.0 q)

pub read_or_refused : Laws → (kind : ColumnType) (l : Literal) (v : Option Datum) (e : ValueError) (n : ℕ) → values.Reads kind l v → values.RefusesLiteral kind l e → fault_of e ≡ Some n → ⊥
read_or_refused laws kind l v e n p q h = not_both (values.AnswersLiteral kind l) v e n (laws.of_values kind l (refused_texts (family_of kind) l.form l.texts e q)) p q h

pub one_refusal : Laws → (kind : ColumnType) (l : Literal) (e f : ValueError) (n m : ℕ) → values.RefusesLiteral kind l e → values.RefusesLiteral kind l f → fault_of e ≡ Some n → fault_of f ≡ Some m → n ≡ m
one_refusal laws kind l e f n m p q h k = one_fault (values.AnswersLiteral kind l) e f n m (laws.of_values kind l (refused_texts (family_of kind) l.form l.texts e p)) p q h k

pub one_right : Laws → (kind : OperandType) (l : Literal) (v w : Option Right) → rights.ReadsOperand kind l v → rights.ReadsOperand kind l w → v ≡ w
one_right laws kind l v w p q = by_cases (as_texts (as_column kind) kind l v p)
  where
    by_cases : HasTexts l.form l.texts ⊎ IsNull l.form v → v ≡ w
    by_cases (inl h) = one_value (rights.AnswersOperand kind l) v w (laws.of_rights kind l h) p q
    by_cases (inr h) = h.1 ∙ sym (as_null_is_none (as_column kind) kind l w h.0 q)

pub right_or_refused : Laws → (kind : OperandType) (l : Literal) (v : Option Right) (e : ValueError) (n : ℕ) → rights.ReadsOperand kind l v → rights.RefusesOperand kind l e → fault_of e ≡ Some n → ⊥
right_or_refused laws kind l v e n p q h = not_both (rights.AnswersOperand kind l) v e n (laws.of_rights kind l (as_refused_texts (as_column kind) kind l e q)) p q h

pub one_right_refusal : Laws → (kind : OperandType) (l : Literal) (e f : ValueError) (n m : ℕ) → rights.RefusesOperand kind l e → rights.RefusesOperand kind l f → fault_of e ≡ Some n → fault_of f ≡ Some m → n ≡ m
one_right_refusal laws kind l e f n m p q h k = one_fault (rights.AnswersOperand kind l) e f n m (laws.of_rights kind l (as_refused_texts (as_column kind) kind l e p)) p q h k
