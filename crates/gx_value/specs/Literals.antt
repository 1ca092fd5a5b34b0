-- Literals as values: what each type reads.
use Rattle.std.specs.Prelude.{◌≡◌, ℕ, List, [], ◌∷◌, Option, None, Some, Result, Ok, Err, IsUtf8, ◌⊎◌}
use Rattle.gx_bytes.specs.declared.error.ValueError.{ValueError}
use Rattle.gx_bytes.specs.declared.error.ValueError.TheVariants.{NoValue}
use Rattle.gx_bytes.specs.Blanks.{core_of}
use Rattle.gx_scalar.specs.Texts.{AnswersScalar}
use Rattle.gx_range.specs.Texts.{AnswersRange}
use Rattle.gx_inet.specs.Text.{AnswersInet}
use Rattle.gx_ltree.specs.Text.{AnswersPath}
use Rattle.gx_hstore.specs.Text.{AnswersHstore}
use Rattle.gx_intarr.specs.Arrays.{AnswersArray, AnswersNumbers}
use Rattle.gx_json.specs.Text.{AnswersJson}
use Rattle.gx_value.specs.declared.types.ColumnType.{ColumnType}
use Rattle.gx_value.specs.declared.types.Family.{Family}
use Rattle.gx_value.specs.declared.types.Family.TheVariants as family
use Rattle.gx_value.specs.declared.literal.Form.{Form}
use Rattle.gx_value.specs.declared.literal.Form.TheVariants as form
use Rattle.gx_value.specs.declared.literal.Literal.{Literal}
use Rattle.gx_value.specs.Types.{family_of}
use Rattle.gx_value.specs.Values.{Datum, scalar, range, inet, path, hstore, int_array, json}

-- no text for NULL, one for a text and for a number, and any for a list
abbrev pub HasTexts : Form → List (List ℕ) → Type 0
HasTexts form.Null texts = texts ≡ []
HasTexts form.Text texts = (text : List ℕ) × (texts ≡ text ∷ [])
HasTexts form.Number texts = (text : List ℕ) × (texts ≡ text ∷ [])
HasTexts form.List texts = Unit {0}

abbrev pub IsLiteral : Literal → Type 0
IsLiteral literal = HasTexts literal.form literal.texts

-- the text is read as this value
abbrev pub Spells : Family → List ℕ → Datum → Type 0
Spells (family.Scalar kind) text (scalar s) = AnswersScalar kind text (Ok s)
Spells (family.Range kind) text (range r) = AnswersRange kind (core_of text) (Ok r)
Spells family.Inet text (inet i) = AnswersInet text (Ok i)
Spells family.Path text (path p) = AnswersPath text (Ok p)
Spells family.Hstore text (hstore h) = AnswersHstore text (Ok h)
Spells family.Json text (json d) = AnswersJson text (Ok d)
Spells family.IntArray text (int_array items) = AnswersArray text (Ok items)
Spells _ _ _ = ⊥

-- the text is refused with this error
abbrev pub Refuses : Family → List ℕ → ValueError → Type 0
Refuses (family.Scalar kind) text e = AnswersScalar kind text (Err e)
Refuses (family.Range kind) text e = AnswersRange kind (core_of text) (Err e)
Refuses family.Inet text e = AnswersInet text (Err e)
Refuses family.Path text e = AnswersPath text (Err e)
Refuses family.Hstore text e = AnswersHstore text (Err e)
Refuses family.Json text e = AnswersJson text (Err e)
Refuses family.IntArray text e = AnswersArray text (Err e)

-- a text that isn't UTF-8 is no value of any type
abbrev pub RefusesText : Family → List ℕ → ValueError → Type 0
RefusesText kinds text e = (IsUtf8 text × Refuses kinds text e) ⊎ ((IsUtf8 text → ⊥) × (e ≡ NoValue))

-- a list is read as an array of int4, its elements from the left, and as nothing else
abbrev pub SpellsList : Family → List (List ℕ) → Datum → Type 0
SpellsList family.IntArray texts (int_array items) = AnswersNumbers texts (Ok items)
SpellsList _ _ _ = ⊥

abbrev pub RefusesList : Family → List (List ℕ) → ValueError → Type 0
RefusesList family.IntArray texts e = AnswersNumbers texts (Err e)
RefusesList _ texts e = e ≡ NoValue

-- the literal is read so; a number is read as its text
abbrev pub ReadsTexts : Family → Form → List (List ℕ) → Option Datum → Type 0
ReadsTexts kinds form.Null texts None = Unit {0}
ReadsTexts kinds form.Text (text ∷ []) (Some d) = IsUtf8 text × Spells kinds text d
ReadsTexts kinds form.Number (text ∷ []) (Some d) = IsUtf8 text × Spells kinds text d
ReadsTexts kinds form.List texts (Some d) = SpellsList kinds texts d
ReadsTexts _ _ _ _ = ⊥

abbrev pub Reads : ColumnType → Literal → Option Datum → Type 0
Reads kind literal found = ReadsTexts (family_of kind) literal.form literal.texts found

-- the literal is refused so
abbrev pub RefusesTexts : Family → Form → List (List ℕ) → ValueError → Type 0
RefusesTexts kinds form.Text (text ∷ []) e = RefusesText kinds text e
RefusesTexts kinds form.Number (text ∷ []) e = RefusesText kinds text e
RefusesTexts kinds form.List texts e = RefusesList kinds texts e
RefusesTexts _ _ _ _ = ⊥

abbrev pub RefusesLiteral : ColumnType → Literal → ValueError → Type 0
RefusesLiteral kind literal e = RefusesTexts (family_of kind) literal.form literal.texts e

-- what each answer of the reader says of the literal
abbrev pub AnswersLiteral : ColumnType → Literal → Result (Option Datum) ValueError → Type 0
AnswersLiteral kind literal (Ok found) = Reads kind literal found
AnswersLiteral kind literal (Err e) = RefusesLiteral kind literal e
