-- A literal has one right side but for want of memory, by the laws of the types.
use Rattle.std.proofs.Common.{◌≡◌, ◌≢◌, ℕ, ℤ, true, List, [], ◌∷◌, ◌++◌, Option, None, Some, Result, Ok, Err, IsUtf8, inl, inr, refl, sym, ap, ap₂, ◌∙◌, subst}
use Rattle.gx_bytes.specs.declared.error.ValueError.{ValueError}
use Rattle.gx_bytes.specs.declared.error.ValueError.TheVariants.{NoValue, OutOfRange, TooDeep, Memory}
use Rattle.gx_formula.specs.Formula.{Tree}
use Rattle.gx_formula.specs.Grammar.{SpellsFormula, AnswersFormula}
use Rattle.gx_formula.proofs.AnswerLemmas.{alike}
use Rattle.gx_intarr.specs.Laws as of_numbers
use Rattle.gx_intarr.specs.Numbers.{TakesInt4, IsFarNumber}
use Rattle.gx_intarr.specs.Texts.{AnswersTexts}
use Rattle.gx_lquery.specs.declared.query.Lquery.{Lquery}
use Rattle.gx_lquery.specs.declared.variant.Variant.{Variant}
use Rattle.gx_lquery.specs.Text.{AnswersLquery}
use Rattle.gx_ltxtquery.specs.Laws as of_words
use Rattle.gx_ltxtquery.specs.Words.{TakesWord}
use Rattle.gx_value.specs.declared.types.ColumnType.{ColumnType}
use Rattle.gx_value.specs.declared.types.OperandType.{OperandType}
use Rattle.gx_value.specs.declared.types.OperandType.TheVariants as operand
use Rattle.gx_value.specs.declared.literal.Form.{Form}
use Rattle.gx_value.specs.declared.literal.Form.TheVariants as form
use Rattle.gx_value.specs.declared.literal.Literal.{Literal}
use Rattle.gx_value.specs.Types.{as_column}
use Rattle.gx_value.specs.Values.{Datum}
use Rattle.gx_value.specs.Literals.{HasTexts, IsLiteral, AnswersLiteral}
use Rattle.gx_value.proofs.OneAnswer.{IsOne}
use Rattle.gx_opr.specs.Literals.{SpellsElement, RefusesElement, AreQueries, RefusesFirst, RefusesQueries, SpellsRight, RefusesRight, RefusesText, SpellsList, RefusesList, ReadsTexts, RefusesTexts, ReadsAs, RefusesAs, AnswersOperand}
use Rattle.gx_opr.specs.Operands.{Right, datum, texts, lquery, lqueries, ltxtquery, query_int}

abbrev through : {V W : Type 0} → (V → W) → Result V ValueError → Result W ValueError
through f (Ok v) = Ok (f v)
through f (Err e) = Err e

-- each answer of one kind is one of the other, of which there is one
one_through : {V W : Type 0} (Says : Result V ValueError → Type 0) (Whole : Result W ValueError → Type 0) (f : V → W) → IsOne Says
    → ((r : Result W ValueError) → Whole r → (x : Result V ValueError) × Says x × (r ≡ through f x)) → IsOne Whole
one_through Says Whole f one back r s m n p q =
    let x = back r p in
    let y = back s q in
    x.2 ∙ ap (through f) (one x.0 y.0 (λ e. m (x.2 ∙ ap (through f) e)) (λ e. n (y.2 ∙ ap (through f) e)) x.1 y.1) ∙ sym y.2

-- the laws of the types
pub record Laws : Type 0 where
  pub one_value : (kind : ColumnType) (literal : Literal) → IsLiteral literal → IsOne (AnswersLiteral kind literal)
  pub one_query : (text : List ℕ) → IsOne (AnswersLquery text)
  pub one_list : (text : List ℕ) → IsOne (AnswersTexts text)

-- ---- formulas

one_words : (text : List ℕ) → IsOne (AnswersFormula TakesWord (λ _. ⊥) text)
one_words text (Ok t) (Ok u) m n p q = ap Ok (alike Variant TakesWord (λ _. ⊥) of_words.words_are (Tree Variant) (λ t. t) text (Ok t) (Ok u) m n p q)
one_words text (Ok t) (Err e) m n p q = absurd (alike Variant TakesWord (λ _. ⊥) of_words.words_are (Tree Variant) (λ t. t) text (Ok t) (Err e) m n p q)
one_words text (Err e) (Ok u) m n p q = absurd (alike Variant TakesWord (λ _. ⊥) of_words.words_are (Tree Variant) (λ t. t) text (Err e) (Ok u) m n p q)
one_words text (Err e) (Err f) m n p q = ap Err (alike Variant TakesWord (λ _. ⊥) of_words.words_are (Tree Variant) (λ t. t) text (Err e) (Err f) m n p q)

one_numbers : (text : List ℕ) → IsOne (AnswersFormula TakesInt4 IsFarNumber text)
one_numbers text (Ok t) (Ok u) m n p q = ap Ok (alike ℤ TakesInt4 IsFarNumber of_numbers.words_are (Tree ℤ) (λ t. t) text (Ok t) (Ok u) m n p q)
one_numbers text (Ok t) (Err e) m n p q = absurd (alike ℤ TakesInt4 IsFarNumber of_numbers.words_are (Tree ℤ) (λ t. t) text (Ok t) (Err e) m n p q)
one_numbers text (Err e) (Ok u) m n p q = absurd (alike ℤ TakesInt4 IsFarNumber of_numbers.words_are (Tree ℤ) (λ t. t) text (Err e) (Ok u) m n p q)
one_numbers text (Err e) (Err f) m n p q = ap Err (alike ℤ TakesInt4 IsFarNumber of_numbers.words_are (Tree ℤ) (λ t. t) text (Err e) (Err f) m n p q)

-- ---- some queries

abbrev ElementSays : List ℕ → Result Lquery ValueError → Type 0
ElementSays text (Ok q) = SpellsElement text q
ElementSays text (Err e) = RefusesElement text e

one_element : Laws → (text : List ℕ) → IsOne (ElementSays text)
one_element laws text (Ok d) (Ok e) m n p q = laws.one_query text (Ok d) (Ok e) m n p.1 q.1
one_element laws text (Ok d) (Err e) m n p (inl q) = laws.one_query text (Ok d) (Err e) m n p.1 q.1
one_element laws text (Ok d) (Err e) m n p (inr q) = absurd (q.0 p.0)
one_element laws text (Err d) (Ok e) m n (inl p) q = laws.one_query text (Err d) (Ok e) m n p.1 q.1
one_element laws text (Err d) (Ok e) m n (inr p) q = absurd (p.0 q.0)
one_element laws text (Err d) (Err e) m n (inl p) (inl q) = laws.one_query text (Err d) (Err e) m n p.1 q.1
one_element laws text (Err d) (Err e) m n (inl p) (inr q) = absurd (q.0 p.0)
one_element laws text (Err d) (Err e) m n (inr p) (inl q) = absurd (p.0 q.0)
one_element laws text (Err d) (Err e) m n (inr p) (inr q) = ap Err (p.1 ∙ sym q.1)

ok_not_memory : (q : Lquery) → Ok q ≢ Err Memory
ok_not_memory q e = cc

abbrev found_query : Lquery → Result Lquery ValueError
found_query q = Ok q

abbrev found_texts : List (List ℕ) → Result (List (List ℕ)) ValueError
found_texts a = Ok a

ok_same : (p q : Lquery) → found_query p ≡ found_query q → p ≡ q
ok_same p q e = cc

texts_same : (a b : List (List ℕ)) → found_texts a ≡ found_texts b → a ≡ b
texts_same a b e = cc

ok_or_err : (q : Lquery) (e : ValueError) → Ok q ≡ Err e → ⊥
ok_or_err q e h = cc

-- errors of readers of one query, and of some texts
abbrev query_fault : ValueError → Result Lquery ValueError
query_fault e = Err e

abbrev texts_fault : ValueError → Result (List (List ℕ)) ValueError
texts_fault e = Err e

query_faults : (d e : ValueError) → query_fault d ≡ query_fault e → d ≡ e
query_faults d e h = cc

texts_or_fault : (a : List (List ℕ)) (e : ValueError) → found_texts a ≡ texts_fault e → ⊥
texts_or_fault a e h = cc

texts_faults : (d e : ValueError) → texts_fault d ≡ texts_fault e → d ≡ e
texts_faults d e h = cc

same_queries : Laws → (elements : List (List ℕ)) (a b : List Lquery) → AreQueries elements a → AreQueries elements b → a ≡ b
same_queries laws [] [] [] p q = refl
same_queries laws [] [] (y ∷ b) p q = absurd q
same_queries laws [] (x ∷ a) b p q = absurd p
same_queries laws (t ∷ ts) [] b p q = absurd p
same_queries laws (t ∷ ts) (x ∷ a) [] p q = absurd q
same_queries laws (t ∷ ts) (x ∷ a) (y ∷ b) p q =
    ap₂ (λ (h : Lquery) (l : List Lquery). h ∷ l) (ok_same x y (one_element laws t (Ok x) (Ok y) (ok_not_memory x) (ok_not_memory y) p.0 q.0)) (same_queries laws ts a b p.1 q.1)

-- an element that is refused, but for want of memory, is no query
none_only : (text : List ℕ) (e : ValueError) → e ≢ Memory → RefusesElement text e → e ≡ NoValue
none_only text NoValue m r = refl
none_only text OutOfRange m (inl r) = absurd r.1
none_only text OutOfRange m (inr r) = r.1
none_only text TooDeep m (inl r) = absurd r.1
none_only text TooDeep m (inr r) = r.1
none_only text Memory m r = absurd (m refl)

query_at : (front : List (List ℕ)) (text : List ℕ) (rest : List (List ℕ)) (queries : List Lquery) → AreQueries (front ++ text ∷ rest) queries → (q : Lquery) × SpellsElement text q
query_at [] text rest [] h = absurd h
query_at [] text rest (q ∷ queries) h = (q, h.0)
query_at (t ∷ front) text rest [] h = absurd h
query_at (t ∷ front) text rest (q ∷ queries) h = query_at front text rest queries h.1

abbrev QueriesSay : List (List ℕ) → Result (List Lquery) ValueError → Type 0
QueriesSay elements (Ok queries) = AreQueries elements queries
QueriesSay elements (Err e) = RefusesQueries elements e

no_both : Laws → (elements : List (List ℕ)) (queries : List Lquery) (e : ValueError) → e ≢ Memory → AreQueries elements queries → RefusesFirst elements e → ⊥
no_both laws elements queries e n h f =
    let P : List (List ℕ) → Type 0 = λ l. AreQueries l queries in
    let q = query_at f.front f.text f.rest queries (subst P f.parts h) in
    ok_or_err q.0 e (one_element laws f.text (Ok q.0) (Err e) (ok_not_memory q.0) (λ k. n (query_faults e Memory k)) q.1 f.refused)

is_none : (elements : List (List ℕ)) (e : ValueError) → e ≢ Memory → RefusesFirst elements e → e ≡ NoValue
is_none elements e n f = none_only f.text e n f.refused

one_query_list : Laws → (elements : List (List ℕ)) → IsOne (QueriesSay elements)
one_query_list laws elements (Ok a) (Ok b) m n p q = ap Ok (same_queries laws elements a b p q)
one_query_list laws elements (Ok a) (Err e) m n p (inl f) = absurd (no_both laws elements a e (λ h. n (ap Err h)) p f)
one_query_list laws elements (Ok a) (Err e) m n p (inr f) = absurd (n (ap Err f))
one_query_list laws elements (Err d) (Ok b) m n (inl f) q = absurd (no_both laws elements b d (λ h. m (ap Err h)) q f)
one_query_list laws elements (Err d) (Ok b) m n (inr f) q = absurd (m (ap Err f))
one_query_list laws elements (Err d) (Err e) m n (inl f) (inl g) = ap Err (is_none elements d (λ h. m (ap Err h)) f ∙ sym (is_none elements e (λ h. n (ap Err h)) g))
one_query_list laws elements (Err d) (Err e) m n (inl f) (inr g) = absurd (n (ap Err g))
one_query_list laws elements (Err d) (Err e) m n (inr f) q = absurd (m (ap Err f))

-- ---- a text

abbrev TextSays : OperandType → List ℕ → Result Right ValueError → Type 0
TextSays kind text (Ok r) = SpellsRight kind text r
TextSays kind text (Err e) = RefusesRight kind text e

abbrev ArraySays : List ℕ → Result (List Lquery) ValueError → Type 0
ArraySays text (Ok queries) = SpellsRight operand.LqueryArray text (lqueries queries)
ArraySays text (Err e) = RefusesRight operand.LqueryArray text e

same_elements : Laws → (text : List ℕ) (a b : List (List ℕ)) → AnswersTexts text (Ok a) → AnswersTexts text (Ok b) → a ≡ b
same_elements laws text a b p q = texts_same a b (laws.one_list text (Ok a) (Ok b) (λ e. cc) (λ e. cc) p q)

no_elements : Laws → (text : List ℕ) (a : List (List ℕ)) (e : ValueError) → e ≢ Memory → AnswersTexts text (Ok a) → AnswersTexts text (Err e) → ⊥
no_elements laws text a e n p q = texts_or_fault a e (laws.one_list text (Ok a) (Err e) (λ h. cc) (λ h. n (texts_faults e Memory h)) p q)

one_array : Laws → (text : List ℕ) → IsOne (ArraySays text)
one_array laws text (Ok a) (Ok b) m n p q =
    let P : List (List ℕ) → Type 0 = λ l. AreQueries l b in
    ap Ok (same_queries laws p.0 a b p.2 (subst P (same_elements laws text q.0 p.0 q.1 p.1) q.2))
one_array laws text (Ok a) (Err e) m n p (inl q) = absurd (no_elements laws text p.0 e (λ h. n (ap Err h)) p.1 q)
one_array laws text (Ok a) (Err e) m n p (inr q) =
    let P : List (List ℕ) → Type 0 = λ l. RefusesQueries l e in
    one_query_list laws p.0 (Ok a) (Err e) m n p.2 (subst P (same_elements laws text q.0 p.0 q.1 p.1) q.2)
one_array laws text (Err d) (Ok b) m n (inl p) q = absurd (no_elements laws text q.0 d (λ h. m (ap Err h)) q.1 p)
one_array laws text (Err d) (Ok b) m n (inr p) q =
    let P : List (List ℕ) → Type 0 = λ l. AreQueries l b in
    one_query_list laws p.0 (Err d) (Ok b) m n p.2 (subst P (same_elements laws text q.0 p.0 q.1 p.1) q.2)
one_array laws text (Err d) (Err e) m n (inl p) (inl q) =
    ap Err (texts_faults d e (laws.one_list text (Err d) (Err e) (λ h. m (ap Err (texts_faults d Memory h))) (λ h. n (ap Err (texts_faults e Memory h))) p q))
one_array laws text (Err d) (Err e) m n (inl p) (inr q) = absurd (no_elements laws text q.0 d (λ h. m (ap Err h)) q.1 p)
one_array laws text (Err d) (Err e) m n (inr p) (inl q) = absurd (no_elements laws text p.0 e (λ h. n (ap Err h)) p.1 q)
one_array laws text (Err d) (Err e) m n (inr p) (inr q) =
    let P : List (List ℕ) → Type 0 = λ l. RefusesQueries l e in
    one_query_list laws p.0 (Err d) (Err e) m n p.2 (subst P (same_elements laws text q.0 p.0 q.1 p.1) q.2)

of_texts : (text : List ℕ) (r : Result Right ValueError) → TextSays operand.TextArray text r → (x : Result (List (List ℕ)) ValueError) × AnswersTexts text x × (r ≡ through texts x)
of_texts text (Ok (texts ts)) p = (Ok ts, p, refl)
of_texts text (Ok _) p = absurd p
of_texts text (Err e) p = (Err e, p, refl)

of_query : (text : List ℕ) (r : Result Right ValueError) → TextSays operand.Lquery text r → (x : Result Lquery ValueError) × AnswersLquery text x × (r ≡ through lquery x)
of_query text (Ok (lquery q)) p = (Ok q, p, refl)
of_query text (Ok _) p = absurd p
of_query text (Err e) p = (Err e, p, refl)

of_array : (text : List ℕ) (r : Result Right ValueError) → TextSays operand.LqueryArray text r → (x : Result (List Lquery) ValueError) × ArraySays text x × (r ≡ through lqueries x)
of_array text (Ok (lqueries qs)) p = (Ok qs, p, refl)
of_array text (Ok _) p = absurd p
of_array text (Err e) p = (Err e, p, refl)

of_words_text : (text : List ℕ) (r : Result Right ValueError) → TextSays operand.Ltxtquery text r
    → (x : Result (Tree Variant) ValueError) × AnswersFormula TakesWord (λ _. ⊥) text x × (r ≡ through ltxtquery x)
of_words_text text (Ok (ltxtquery t)) p = (Ok t, p, refl)
of_words_text text (Ok _) p = absurd p
of_words_text text (Err NoValue) p = (Err NoValue, p, refl)
of_words_text text (Err OutOfRange) p = (Err OutOfRange, p, refl)
of_words_text text (Err TooDeep) p = (Err TooDeep, p, refl)
of_words_text text (Err Memory) p = (Err Memory, p, refl)

of_numbers_text : (text : List ℕ) (r : Result Right ValueError) → TextSays operand.QueryInt text r
    → (x : Result (Tree ℤ) ValueError) × AnswersFormula TakesInt4 IsFarNumber text x × (r ≡ through query_int x)
of_numbers_text text (Ok (query_int t)) p = (Ok t, p, refl)
of_numbers_text text (Ok _) p = absurd p
of_numbers_text text (Err NoValue) p = (Err NoValue, p, refl)
of_numbers_text text (Err OutOfRange) p = (Err OutOfRange, p, refl)
of_numbers_text text (Err TooDeep) p = (Err TooDeep, p, refl)
of_numbers_text text (Err Memory) p = (Err Memory, p, refl)

one_text : Laws → (kind : OperandType) (text : List ℕ) → IsOne (TextSays kind text)
one_text laws operand.TextArray text r s m n p q = one_through (AnswersTexts text) (TextSays operand.TextArray text) texts (laws.one_list text) (of_texts text) r s m n p q
one_text laws operand.Lquery text r s m n p q = one_through (AnswersLquery text) (TextSays operand.Lquery text) lquery (laws.one_query text) (of_query text) r s m n p q
one_text laws operand.LqueryArray text r s m n p q = one_through (ArraySays text) (TextSays operand.LqueryArray text) lqueries (one_array laws text) (of_array text) r s m n p q
one_text laws operand.Ltxtquery text r s m n p q =
    one_through (AnswersFormula TakesWord (λ _. ⊥) text) (TextSays operand.Ltxtquery text) ltxtquery (one_words text) (of_words_text text) r s m n p q
one_text laws operand.QueryInt text r s m n p q =
    one_through (AnswersFormula TakesInt4 IsFarNumber text) (TextSays operand.QueryInt text) query_int (one_numbers text) (of_numbers_text text) r s m n p q
one_text laws _ text (Ok d) s m n p q = absurd p
one_text laws _ text (Err d) s m n p q = absurd p

-- ---- bytes, which may be no text

abbrev BytesSay : OperandType → List ℕ → Result Right ValueError → Type 0
BytesSay kind text (Ok r) = IsUtf8 text × SpellsRight kind text r
BytesSay kind text (Err e) = RefusesText kind text e

one_bytes : Laws → (kind : OperandType) (text : List ℕ) → IsOne (BytesSay kind text)
one_bytes laws kind text (Ok d) (Ok e) m n p q = one_text laws kind text (Ok d) (Ok e) m n p.1 q.1
one_bytes laws kind text (Ok d) (Err e) m n p (inl q) = one_text laws kind text (Ok d) (Err e) m n p.1 q.1
one_bytes laws kind text (Ok d) (Err e) m n p (inr q) = absurd (q.0 p.0)
one_bytes laws kind text (Err d) (Ok e) m n (inl p) q = one_text laws kind text (Err d) (Ok e) m n p.1 q.1
one_bytes laws kind text (Err d) (Ok e) m n (inr p) q = absurd (p.0 q.0)
one_bytes laws kind text (Err d) (Err e) m n (inl p) (inl q) = one_text laws kind text (Err d) (Err e) m n p.1 q.1
one_bytes laws kind text (Err d) (Err e) m n (inl p) (inr q) = absurd (q.0 p.0)
one_bytes laws kind text (Err d) (Err e) m n (inr p) (inl q) = absurd (p.0 q.0)
one_bytes laws kind text (Err d) (Err e) m n (inr p) (inr q) = ap Err (p.1 ∙ sym q.1)

-- ---- a list

abbrev ListSays : OperandType → List (List ℕ) → Result Right ValueError → Type 0
ListSays kind elements (Ok r) = SpellsList kind elements r
ListSays kind elements (Err e) = RefusesList kind elements e

abbrev TextsSay : List (List ℕ) → Result (List (List ℕ)) ValueError → Type 0
TextsSay elements (Ok ts) = ts ≡ elements
TextsSay elements (Err e) = e ≡ Memory

one_texts : (elements : List (List ℕ)) → IsOne (TextsSay elements)
one_texts elements (Ok a) (Ok b) m n p q = ap Ok (p ∙ sym q)
one_texts elements (Ok a) (Err e) m n p q = absurd (n (ap Err q))
one_texts elements (Err d) s m n p q = absurd (m (ap Err p))

of_texts_list : (elements : List (List ℕ)) (r : Result Right ValueError) → ListSays operand.TextArray elements r → (x : Result (List (List ℕ)) ValueError) × TextsSay elements x × (r ≡ through texts x)
of_texts_list elements (Ok (texts ts)) p = (Ok ts, p, refl)
of_texts_list elements (Ok _) p = absurd p
of_texts_list elements (Err e) p = (Err e, p, refl)

of_queries_list : (elements : List (List ℕ)) (r : Result Right ValueError) → ListSays operand.LqueryArray elements r → (x : Result (List Lquery) ValueError) × QueriesSay elements x × (r ≡ through lqueries x)
of_queries_list elements (Ok (lqueries qs)) p = (Ok qs, p, refl)
of_queries_list elements (Ok _) p = absurd p
of_queries_list elements (Err e) p = (Err e, p, refl)

one_list_of : Laws → (kind : OperandType) (elements : List (List ℕ)) → IsOne (ListSays kind elements)
one_list_of laws operand.TextArray elements r s m n p q = one_through (TextsSay elements) (ListSays operand.TextArray elements) texts (one_texts elements) (of_texts_list elements) r s m n p q
one_list_of laws operand.LqueryArray elements r s m n p q =
    one_through (QueriesSay elements) (ListSays operand.LqueryArray elements) lqueries (one_query_list laws elements) (of_queries_list elements) r s m n p q
one_list_of laws _ elements (Ok d) s m n p q = absurd p
one_list_of laws _ elements (Err d) s m n p q = absurd p

-- ---- a literal

abbrev Says : OperandType → Form → List (List ℕ) → Result (Option Right) ValueError → Type 0
Says kind form ts (Ok found) = ReadsTexts kind form ts found
Says kind form ts (Err e) = RefusesTexts kind form ts e

of_text : (kind : OperandType) (text : List ℕ) (r : Result (Option Right) ValueError) → Says kind form.Text (text ∷ []) r → (x : Result Right ValueError) × BytesSay kind text x × (r ≡ through Some x)
of_text kind text (Ok None) p = absurd p
of_text kind text (Ok (Some d)) p = (Ok d, p, refl)
of_text kind text (Err e) p = (Err e, p, refl)

of_list : (kind : OperandType) (ts : List (List ℕ)) (r : Result (Option Right) ValueError) → Says kind form.List ts r → (x : Result Right ValueError) × ListSays kind ts x × (r ≡ through Some x)
of_list kind ts (Ok None) p = absurd p
of_list kind ts (Ok (Some d)) p = (Ok d, p, refl)
of_list kind ts (Err e) p = (Err e, p, refl)

one_null : (kind : OperandType) (ts : List (List ℕ)) → IsOne (Says kind form.Null ts)
one_null kind ts (Ok None) (Ok None) m n p q = refl
one_null kind ts (Ok None) (Ok (Some e)) m n p q = absurd q
one_null kind ts (Ok None) (Err e) m n p q = absurd q
one_null kind ts (Ok (Some d)) s m n p q = absurd p
one_null kind ts (Err d) s m n p q = absurd p

one_of_texts : Laws → (kind : OperandType) (f : Form) (ts : List (List ℕ)) → HasTexts f ts → IsOne (Says kind f ts)
one_of_texts laws kind form.Null ts has = one_null kind ts
one_of_texts laws kind form.List ts has = one_through (ListSays kind ts) (Says kind form.List ts) Some (one_list_of laws kind ts) (of_list kind ts)
one_of_texts laws kind form.Text ts has =
    let P : List (List ℕ) → Type 0 = λ xs. IsOne (Says kind form.Text xs) in
    subst P (sym has.1) (one_through (BytesSay kind has.0) (Says kind form.Text (has.0 ∷ [])) Some (one_bytes laws kind has.0) (of_text kind has.0))
one_of_texts laws kind form.Number ts has =
    let P : List (List ℕ) → Type 0 = λ xs. IsOne (Says kind form.Number xs) in
    subst P (sym has.1) (one_through (BytesSay kind has.0) (Says kind form.Number (has.0 ∷ [])) Some (one_bytes laws kind has.0) (of_text kind has.0))

abbrev AsSays : OperandType → Option ColumnType → Literal → Result (Option Right) ValueError → Type 0
AsSays kind column literal (Ok found) = ReadsAs kind column literal found
AsSays kind column literal (Err e) = RefusesAs kind column literal e

abbrev as_right : Option Datum → Option Right
as_right None = None
as_right (Some d) = Some (datum d)

of_column : (kind : OperandType) (column : ColumnType) (literal : Literal) (r : Result (Option Right) ValueError) → AsSays kind (Some column) literal r
    → (x : Result (Option Datum) ValueError) × AnswersLiteral column literal x × (r ≡ through as_right x)
of_column kind column literal (Ok None) p = (Ok None, p, refl)
of_column kind column literal (Ok (Some (datum d))) p = (Ok (Some d), p, refl)
of_column kind column literal (Ok (Some _)) p = absurd p
of_column kind column literal (Err e) p = (Err e, p, refl)

of_none : (kind : OperandType) (literal : Literal) (r : Result (Option Right) ValueError) → AsSays kind None literal r → Says kind literal.form literal.texts r
of_none kind literal (Ok found) p = p
of_none kind literal (Err e) p = p

one_as : Laws → (kind : OperandType) (column : Option ColumnType) (literal : Literal) → IsLiteral literal → IsOne (AsSays kind column literal)
one_as laws kind (Some column) literal has r s m n p q =
    one_through (AnswersLiteral column literal) (AsSays kind (Some column) literal) as_right (laws.one_value column literal has) (of_column kind column literal) r s m n p q
one_as laws kind None literal has r s m n p q =
    one_of_texts laws kind literal.form literal.texts has r s m n (of_none kind literal r p) (of_none kind literal s q)

says : (kind : OperandType) (literal : Literal) (r : Result (Option Right) ValueError) → AnswersOperand kind literal r → AsSays kind (as_column kind) literal r
says kind literal (Ok found) p = p
says kind literal (Err e) p = p

pub one_of_literal : Laws → (kind : OperandType) (literal : Literal) (r s : Result (Option Right) ValueError) → IsLiteral literal → r ≢ Err Memory → s ≢ Err Memory → AnswersOperand kind literal r → AnswersOperand kind literal s → r ≡ s
one_of_literal laws kind literal r s has m n p q = one_as laws kind (as_column kind) literal has r s m n (says kind literal r p) (says kind literal s q)
