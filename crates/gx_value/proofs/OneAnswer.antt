-- A literal has one answer but for want of memory, by the laws of the types.
use Rattle.std.proofs.Common.{◌≡◌, ◌≢◌, ℕ, List, [], ◌∷◌, ℤ, Option, None, Some, Result, Ok, Err, IsUtf8, inl, inr, refl, sym, ap, ◌∙◌, subst}
use Rattle.serde_json.specs.Data.{Data}
use Rattle.gx_bytes.specs.declared.error.ValueError.{ValueError}
use Rattle.gx_bytes.specs.declared.error.ValueError.TheVariants.{Memory}
use Rattle.gx_bytes.specs.Blanks.{core_of}
use Rattle.gx_bytes.proofs.SingleAnswers.{same_answer}
use Rattle.gx_scalar.specs.declared.scalar.Scalar.{Scalar}
use Rattle.gx_scalar.specs.declared.scalar.ScalarKind.{ScalarKind}
use Rattle.gx_scalar.specs.Texts.{AnswersScalar}
use Rattle.gx_range.specs.declared.range.Range.{Range}
use Rattle.gx_range.specs.declared.range.RangeKind.{RangeKind}
use Rattle.gx_range.specs.Texts.{AnswersRange}
use Rattle.gx_inet.specs.declared.inet.Inet.{Inet}
use Rattle.gx_inet.specs.Text.{AnswersInet}
use Rattle.gx_ltree.specs.Text.{AnswersPath}
use Rattle.gx_hstore.specs.Map.{Pair}
use Rattle.gx_hstore.specs.Text.{AnswersHstore}
use Rattle.gx_intarr.specs.Arrays.{AnswersArray, AnswersNumbers}
use Rattle.gx_intarr.proofs.NumberLemmas.{one_numbers, stay_inside}
use Rattle.gx_json.specs.Text.{AnswersJson}
use Rattle.gx_value.specs.declared.types.ColumnType.{ColumnType}
use Rattle.gx_value.specs.declared.types.Family.{Family}
use Rattle.gx_value.specs.declared.types.Family.TheVariants as family
use Rattle.gx_value.specs.declared.literal.Form.{Form}
use Rattle.gx_value.specs.declared.literal.Form.TheVariants as form
use Rattle.gx_value.specs.declared.literal.Literal.{Literal}
use Rattle.gx_value.specs.Types.{family_of}
use Rattle.gx_value.specs.Values.{Datum, scalar, range, inet, path, hstore, int_array, json}
use Rattle.gx_value.specs.Literals.{HasTexts, Spells, Refuses, RefusesText, SpellsList, RefusesList, ReadsTexts, RefusesTexts, IsLiteral, AnswersLiteral}

-- no two answers, but for want of memory
abbrev pub IsOne : {V : Type 0} → (Result V ValueError → Type 0) → Type 0
IsOne {V = V} Says = (r s : Result V ValueError) → r ≢ Err Memory → s ≢ Err Memory → Says r → Says s → r ≡ s

abbrev through : {V W : Type 0} → (V → W) → Result V ValueError → Result W ValueError
through f (Ok v) = Ok (f v)
through f (Err e) = Err e

-- each answer of one kind is one of the other, of which there is one
one_through : {V W : Type 0} (Says : Result V ValueError → Type 0) (Whole : Result W ValueError → Type 0) (f : V → W) → IsOne Says
    → ((r : Result W ValueError) → Whole r → (x : Result V ValueError) × Says x × (r ≡ through f x)) → IsOne Whole
one_through Says Whole f one back r s m n p q =
    let x = back r p in
    let y = back s q in
    x.2 ∙ ap (through f) (one x.0 y.0 (λ e. m (x.2 ∙ ap (through f) e)) (λ e. n (y.2 ∙ ap (through f) e)) x.1 y.1) ∙ sym y.2

-- the laws of the types
pub record Laws : Type 0 where
  pub one_scalar : (kind : ScalarKind) (text : List ℕ) → IsOne (AnswersScalar kind text)
  pub one_range : (kind : RangeKind) (core : List ℕ) → IsOne (AnswersRange kind core)
  pub one_inet : (text : List ℕ) → IsOne (AnswersInet text)
  pub one_path : (text : List ℕ) → IsOne (AnswersPath text)
  pub one_map : (text : List ℕ) → IsOne (AnswersHstore text)
  pub one_document : (text : List ℕ) → IsOne (AnswersJson text)
  pub one_array : (text : List ℕ) → IsOne (AnswersArray text)

-- ---- a text

abbrev TextSays : Family → List ℕ → Result Datum ValueError → Type 0
TextSays f text (Ok d) = Spells f text d
TextSays f text (Err e) = Refuses f text e

of_scalar : (kind : ScalarKind) (text : List ℕ) (r : Result Datum ValueError) → TextSays (family.Scalar kind) text r → (x : Result Scalar ValueError) × AnswersScalar kind text x × (r ≡ through scalar x)
of_scalar kind text (Ok (scalar s)) p = (Ok s, p, refl)
of_scalar kind text (Ok _) p = absurd p
of_scalar kind text (Err e) p = (Err e, p, refl)

of_range : (kind : RangeKind) (text : List ℕ) (r : Result Datum ValueError) → TextSays (family.Range kind) text r → (x : Result Range ValueError) × AnswersRange kind (core_of text) x × (r ≡ through range x)
of_range kind text (Ok (range s)) p = (Ok s, p, refl)
of_range kind text (Ok _) p = absurd p
of_range kind text (Err e) p = (Err e, p, refl)

of_inet : (text : List ℕ) (r : Result Datum ValueError) → TextSays family.Inet text r → (x : Result Inet ValueError) × AnswersInet text x × (r ≡ through inet x)
of_inet text (Ok (inet s)) p = (Ok s, p, refl)
of_inet text (Ok _) p = absurd p
of_inet text (Err e) p = (Err e, p, refl)

of_path : (text : List ℕ) (r : Result Datum ValueError) → TextSays family.Path text r → (x : Result (List (List ℕ)) ValueError) × AnswersPath text x × (r ≡ through path x)
of_path text (Ok (path s)) p = (Ok s, p, refl)
of_path text (Ok _) p = absurd p
of_path text (Err e) p = (Err e, p, refl)

of_map : (text : List ℕ) (r : Result Datum ValueError) → TextSays family.Hstore text r → (x : Result (List Pair) ValueError) × AnswersHstore text x × (r ≡ through hstore x)
of_map text (Ok (hstore s)) p = (Ok s, p, refl)
of_map text (Ok _) p = absurd p
of_map text (Err e) p = (Err e, p, refl)

of_document : (text : List ℕ) (r : Result Datum ValueError) → TextSays family.Json text r → (x : Result Data ValueError) × AnswersJson text x × (r ≡ through json x)
of_document text (Ok (json s)) p = (Ok s, p, refl)
of_document text (Ok _) p = absurd p
of_document text (Err e) p = (Err e, p, refl)

of_array : (text : List ℕ) (r : Result Datum ValueError) → TextSays family.IntArray text r → (x : Result (List ℤ) ValueError) × AnswersArray text x × (r ≡ through int_array x)
of_array text (Ok (int_array s)) p = (Ok s, p, refl)
of_array text (Ok _) p = absurd p
of_array text (Err e) p = (Err e, p, refl)

one_text : Laws → (f : Family) (text : List ℕ) → IsOne (TextSays f text)
one_text laws (family.Scalar kind) text = one_through (AnswersScalar kind text) (TextSays (family.Scalar kind) text) scalar (laws.one_scalar kind text) (of_scalar kind text)
one_text laws (family.Range kind) text = one_through (AnswersRange kind (core_of text)) (TextSays (family.Range kind) text) range (laws.one_range kind (core_of text)) (of_range kind text)
one_text laws family.Inet text = one_through (AnswersInet text) (TextSays family.Inet text) inet (laws.one_inet text) (of_inet text)
one_text laws family.Path text = one_through (AnswersPath text) (TextSays family.Path text) path (laws.one_path text) (of_path text)
one_text laws family.Hstore text = one_through (AnswersHstore text) (TextSays family.Hstore text) hstore (laws.one_map text) (of_map text)
one_text laws family.Json text = one_through (AnswersJson text) (TextSays family.Json text) json (laws.one_document text) (of_document text)
one_text laws family.IntArray text = one_through (AnswersArray text) (TextSays family.IntArray text) int_array (laws.one_array text) (of_array text)

-- ---- bytes, which may be no text

abbrev BytesSay : Family → List ℕ → Result Datum ValueError → Type 0
BytesSay f text (Ok d) = IsUtf8 text × Spells f text d
BytesSay f text (Err e) = RefusesText f text e

one_bytes : Laws → (f : Family) (text : List ℕ) → IsOne (BytesSay f text)
one_bytes laws f text (Ok d) (Ok e) m n p q = one_text laws f text (Ok d) (Ok e) m n p.1 q.1
one_bytes laws f text (Ok d) (Err e) m n p (inl q) = one_text laws f text (Ok d) (Err e) m n p.1 q.1
one_bytes laws f text (Ok d) (Err e) m n p (inr q) = absurd (q.0 p.0)
one_bytes laws f text (Err d) (Ok e) m n (inl p) q = one_text laws f text (Err d) (Ok e) m n p.1 q.1
one_bytes laws f text (Err d) (Ok e) m n (inr p) q = absurd (p.0 q.0)
one_bytes laws f text (Err d) (Err e) m n (inl p) (inl q) = one_text laws f text (Err d) (Err e) m n p.1 q.1
one_bytes laws f text (Err d) (Err e) m n (inl p) (inr q) = absurd (q.0 p.0)
one_bytes laws f text (Err d) (Err e) m n (inr p) (inl q) = absurd (p.0 q.0)
one_bytes laws f text (Err d) (Err e) m n (inr p) (inr q) = ap Err (p.1 ∙ sym q.1)

-- ---- a list

one_number_list : (texts : List (List ℕ)) → IsOne (AnswersNumbers texts)
one_number_list texts = same_answer (AnswersNumbers texts) (record {
  one = one_numbers texts;
  no_value = λ items s none. none.0 items s;
  out_of_range = stay_inside texts;
  too_deep = λ items s deep. deep;
  none_or_out = λ none far. none.1 far;
  none_or_deep = λ none deep. deep;
  out_or_deep = λ far deep. deep;
})

abbrev ListSays : Family → List (List ℕ) → Result Datum ValueError → Type 0
ListSays f texts (Ok d) = SpellsList f texts d
ListSays f texts (Err e) = RefusesList f texts e

of_numbers : (texts : List (List ℕ)) (r : Result Datum ValueError) → ListSays family.IntArray texts r → (x : Result (List ℤ) ValueError) × AnswersNumbers texts x × (r ≡ through int_array x)
of_numbers texts (Ok (int_array s)) p = (Ok s, p, refl)
of_numbers texts (Ok _) p = absurd p
of_numbers texts (Err e) p = (Err e, p, refl)

one_list : (f : Family) (texts : List (List ℕ)) → IsOne (ListSays f texts)
one_list family.IntArray texts r s m n p q = one_through (AnswersNumbers texts) (ListSays family.IntArray texts) int_array (one_number_list texts) (of_numbers texts) r s m n p q
one_list (family.Scalar kind) texts (Err d) (Err e) m n p q = ap Err (p ∙ sym q)
one_list (family.Range kind) texts (Err d) (Err e) m n p q = ap Err (p ∙ sym q)
one_list family.Inet texts (Err d) (Err e) m n p q = ap Err (p ∙ sym q)
one_list family.Path texts (Err d) (Err e) m n p q = ap Err (p ∙ sym q)
one_list family.Hstore texts (Err d) (Err e) m n p q = ap Err (p ∙ sym q)
one_list family.Json texts (Err d) (Err e) m n p q = ap Err (p ∙ sym q)
one_list _ texts (Ok d) s m n p q = absurd p
one_list _ texts (Err d) (Ok e) m n p q = absurd q

-- ---- a literal

abbrev Says : Family → Form → List (List ℕ) → Result (Option Datum) ValueError → Type 0
Says f form texts (Ok found) = ReadsTexts f form texts found
Says f form texts (Err e) = RefusesTexts f form texts e

of_text : (f : Family) (text : List ℕ) (r : Result (Option Datum) ValueError) → Says f form.Text (text ∷ []) r → (x : Result Datum ValueError) × BytesSay f text x × (r ≡ through Some x)
of_text f text (Ok None) p = absurd p
of_text f text (Ok (Some d)) p = (Ok d, p, refl)
of_text f text (Err e) p = (Err e, p, refl)

of_list : (f : Family) (texts : List (List ℕ)) (r : Result (Option Datum) ValueError) → Says f form.List texts r → (x : Result Datum ValueError) × ListSays f texts x × (r ≡ through Some x)
of_list f texts (Ok None) p = absurd p
of_list f texts (Ok (Some d)) p = (Ok d, p, refl)
of_list f texts (Err e) p = (Err e, p, refl)

-- NULL is read as none; a text and a number have one text
one_null : (f : Family) (texts : List (List ℕ)) → IsOne (Says f form.Null texts)
one_null f texts (Ok None) (Ok None) m n p q = refl
one_null f texts (Ok None) (Ok (Some e)) m n p q = absurd q
one_null f texts (Ok None) (Err e) m n p q = absurd q
one_null f texts (Ok (Some d)) s m n p q = absurd p
one_null f texts (Err d) s m n p q = absurd p

one_literal : Laws → (f : Family) (kind : Form) (texts : List (List ℕ)) → HasTexts kind texts → IsOne (Says f kind texts)
one_literal laws f form.Null texts has = one_null f texts
one_literal laws f form.List texts has = one_through (ListSays f texts) (Says f form.List texts) Some (one_list f texts) (of_list f texts)
one_literal laws f form.Text texts has =
    let P : List (List ℕ) → Type 0 = λ ts. IsOne (Says f form.Text ts) in
    subst P (sym has.1) (one_through (BytesSay f has.0) (Says f form.Text (has.0 ∷ [])) Some (one_bytes laws f has.0) (of_text f has.0))
one_literal laws f form.Number texts has =
    let P : List (List ℕ) → Type 0 = λ ts. IsOne (Says f form.Number ts) in
    subst P (sym has.1) (one_through (BytesSay f has.0) (Says f form.Number (has.0 ∷ [])) Some (one_bytes laws f has.0) (of_text f has.0))

says : (kind : ColumnType) (literal : Literal) (r : Result (Option Datum) ValueError) → AnswersLiteral kind literal r → Says (family_of kind) literal.form literal.texts r
says kind literal (Ok found) p = p
says kind literal (Err e) p = p

pub one_of_literal : Laws → (kind : ColumnType) (literal : Literal) (r s : Result (Option Datum) ValueError) → IsLiteral literal → r ≢ Err Memory → s ≢ Err Memory → AnswersLiteral kind literal r → AnswersLiteral kind literal s → r ≡ s
one_of_literal laws kind literal r s has m n p q =
    one_literal laws (family_of kind) literal.form literal.texts has r s m n (says kind literal r p) (says kind literal s q)
