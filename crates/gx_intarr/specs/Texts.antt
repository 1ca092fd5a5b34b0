-- Array texts (PostgreSQL 16, 8.15.2 and 8.15.6): `{`, elements with commas between them, `}`.
use Rattle.std.specs.Prelude.{◌≡◌, ◌≢◌, ◌==◌, ◌||◌, not, ℕ, ◌<◌, Bool, true, false, ◌⊎◌, List, [], ◌∷◌, ◌++◌, length, map, codes, Result, Ok, Err}
use Rattle.std.specs.List.{AllZip, AllByRecursion, flat_map}
use Rattle.std.specs.Str.{str_to_ascii_lowercase}
use Rattle.gx_bytes.specs.Blanks.{core_of}
use Rattle.gx_bytes.specs.declared.error.ValueError.{ValueError}
use Rattle.gx_bytes.specs.declared.error.ValueError.TheVariants.{NoValue, OutOfRange, TooDeep, Memory}
use Rattle.gx_intarr.specs.Runs.{Pass}

-- a byte between quotes as it is written: alone, or behind a backslash (92)
pub record Sign : Type 0 where
  pub escaped : Bool
  pub byte : ℕ

abbrev pub written : Bool → ℕ → List ℕ
written true byte = 92 ∷ byte ∷ []
written false byte = byte ∷ []

-- a quote (34) or a backslash stands behind a backslash alone
abbrev pub IsSign : Bool → ℕ → Type 0
IsSign true byte = Unit {0}
IsSign false byte = (byte ≢ 34) × (byte ≢ 92)

-- the bytes as they are written one behind another
abbrev pub signs_text : List Sign → List ℕ
signs_text signs = flat_map (λ s. written s.escaped s.byte) signs

-- quotes round signs
pub record IsQuoted (raw text : List ℕ) : Type 0 where
  pub signs : List Sign
  pub each : AllByRecursion (λ s. IsSign s.escaped s.byte) signs
  pub parts : raw ≡ 34 ∷ (signs_text signs ++ 34 ∷ [])
  pub value : text ≡ map (λ s. s.byte) signs

-- none of `"`, `\`, `{` (123), `}` (125) and `,` (44)
abbrev pub is_plain : ℕ → Bool
is_plain c = not ((((c == 34 || c == 92) || c == 123) || c == 125) || c == 44)

-- `null` in any case
abbrev pub IsNullWord : List ℕ → Type 0
IsNullWord text = str_to_ascii_lowercase text ≡ codes "null"

-- plain bytes without the white space at their ends, of which some are left that aren't `null`
pub record IsBareword (raw text : List ℕ) : Type 0 where
  pub plain : Pass is_plain raw
  pub core : text ≡ core_of raw
  pub some : 0 < length text
  pub not_null : IsNullWord text → ⊥

abbrev pub SpellsElement : List ℕ → List ℕ → Type 0
SpellsElement raw text = IsQuoted raw text ⊎ IsBareword raw text

-- elements with a comma before each, and the closing brace
abbrev pub closed : List (List ℕ) → List ℕ
closed [] = 125 ∷ []
closed (raw ∷ raws) = 44 ∷ (raw ++ closed raws)

-- `{`, the elements with commas between them, `}`
abbrev pub braced : List (List ℕ) → List ℕ
braced [] = 123 ∷ 125 ∷ []
braced (raw ∷ raws) = 123 ∷ (raw ++ closed raws)

-- white space, elements in braces, white space
pub record SpellsTexts (text : List ℕ) (texts : List (List ℕ)) : Type 0 where
  pub raws : List (List ℕ)
  pub parts : core_of text ≡ braced raws
  pub each : AllZip SpellsElement raws texts

-- what each answer of the reader says of the text
abbrev pub AnswersTexts : List ℕ → Result (List (List ℕ)) ValueError → Type 0
AnswersTexts text (Ok texts) = SpellsTexts text texts
AnswersTexts text (Err NoValue) = (texts : List (List ℕ)) → SpellsTexts text texts → ⊥
AnswersTexts text (Err OutOfRange) = ⊥
AnswersTexts text (Err TooDeep) = ⊥
AnswersTexts text (Err Memory) = Unit {0}
