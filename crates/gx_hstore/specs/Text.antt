-- The texts of maps (PostgreSQL 16, F.18.1).
use Rattle.std.specs.Prelude.{◌≡◌, ◌≢◌, ◌==◌, ℕ, ◌<◌, Bool, true, false, not, ◌&&◌, ◌||◌, if◌then◌else◌, ◌⊎◌, List, [], ◌∷◌, ◌++◌, map, length, bytes_eq, codes, Option, None, Some, Result, Ok, Err}
use Rattle.std.specs.Char.{is_ascii_whitespace, to_ascii_lowercase}
use Rattle.gx_bytes.specs.Blanks.{without_leading_blank}
use Rattle.gx_bytes.specs.declared.error.ValueError.{ValueError}
use Rattle.gx_bytes.specs.declared.error.ValueError.TheVariants.{NoValue, OutOfRange, TooDeep, Memory}
use Rattle.gx_hstore.specs.Map.{Pair, IsMapOf}

-- a byte that stands alone, or one behind a backslash (92)
pub data Sign : Type 0 where
  Plain : ℕ → Sign
  Escaped : ℕ → Sign

-- the text of signs
abbrev pub written : List Sign → List ℕ
written [] = []
written (Plain c ∷ signs) = c ∷ written signs
written (Escaped c ∷ signs) = 92 ∷ c ∷ written signs

-- the bytes that they stand for
abbrev pub meant : List Sign → List ℕ
meant [] = []
meant (Plain c ∷ signs) = c ∷ meant signs
meant (Escaped c ∷ signs) = c ∷ meant signs

-- Alone, a quote (34) ends a text in quotes; white space, `,` (44), `=` (61), `>` (62) and a quote end a word.
abbrev pub ends : Bool → ℕ → Bool
ends true c = c == 34
ends false c = (((is_ascii_whitespace c || c == 44) || c == 61) || c == 62) || c == 34

-- no byte that stands alone is a backslash or ends the signs
abbrev pub AreInside : Bool → List Sign → Type 0
AreInside quoted [] = Unit {0}
AreInside quoted (Plain c ∷ signs) = (ends quoted c ≡ false) × (c ≢ 92) × AreInside quoted signs
AreInside quoted (Escaped c ∷ signs) = AreInside quoted signs

-- nothing comes, or a byte that ends signs
abbrev pub Stops : Bool → List ℕ → Type 0
Stops quoted [] = Unit {0}
Stops quoted (c ∷ rest) = ends quoted c ≡ true

-- all signs up to a byte that ends them or to the text's end, the bytes that they stand for, and the rest
pub record TakesSigns (quoted : Bool) (text bytes rest : List ℕ) : Type 0 where
  pub signs : List Sign
  pub inside : AreInside quoted signs
  pub parts : text ≡ written signs ++ rest
  pub stops : Stops quoted rest
  pub value : bytes ≡ meant signs

-- signs in double quotes, or a word of one sign or more, and the rest
abbrev pub TakesString : Bool → List ℕ → List ℕ → List ℕ → Type 0
TakesString true text bytes rest =
    (inner : List ℕ) × (text ≡ 34 ∷ inner) × TakesSigns true inner bytes (34 ∷ rest)
TakesString false text bytes rest = (0 < length bytes) × TakesSigns false text bytes rest

-- the value that a string stands for: a word that spells null in any case stands for NULL
abbrev pub value_of : Bool → List ℕ → Option (List ℕ)
value_of quoted bytes =
    if not quoted && bytes_eq (map to_ascii_lowercase bytes) (codes "null") then None else Some bytes

-- a key, `=>` and a value with white space round each of them, and the rest
pub record TakesPair (text : List ℕ) (pair : Pair) (rest : List ℕ) : Type 0 where
  pub key_quoted : Bool
  pub behind_key : List ℕ
  pub key : TakesString key_quoted (without_leading_blank text) pair.0 behind_key
  pub behind_arrow : List ℕ
  pub arrow : without_leading_blank behind_key ≡ 61 ∷ 62 ∷ behind_arrow
  pub value_quoted : Bool
  pub value_bytes : List ℕ
  pub behind_value : List ℕ
  pub value : TakesString value_quoted (without_leading_blank behind_arrow) value_bytes behind_value
  pub stands_for : pair.1 ≡ value_of value_quoted value_bytes
  pub behind : rest ≡ without_leading_blank behind_value

-- pairs with a comma (44) between them, and behind the last a comma or none; white space for no pairs
abbrev pub SpellsPairs : List ℕ → List Pair → Type 0
SpellsPairs text [] = without_leading_blank text ≡ []
SpellsPairs text (pair ∷ pairs) =
    (rest : List ℕ) × TakesPair text pair rest
    × (((rest ≡ []) × (pairs ≡ [])) ⊎ ((more : List ℕ) × (rest ≡ 44 ∷ more) × SpellsPairs more pairs))

-- The text has pairs, or is empty, and the map is theirs.
pub record SpellsHstore (text : List ℕ) (hstore : List Pair) : Type 0 where
  pub pairs : List Pair
  pub spelled : SpellsPairs text pairs
  pub empty : pairs ≡ [] → text ≡ []
  pub is : IsMapOf pairs hstore

-- what each answer of the reader says of the text
abbrev pub AnswersHstore : List ℕ → Result (List Pair) ValueError → Type 0
AnswersHstore text (Ok hstore) = SpellsHstore text hstore
AnswersHstore text (Err NoValue) = (hstore : List Pair) → SpellsHstore text hstore → ⊥
AnswersHstore text (Err OutOfRange) = ⊥
AnswersHstore text (Err TooDeep) = ⊥
AnswersHstore text (Err Memory) = Unit {0}
