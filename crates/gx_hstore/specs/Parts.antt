-- What a text of pairs is made of, said of the whole text: keys, `=>` and values with white space round them, and commas.
use Rattle.std.specs.Prelude.{◌≡◌, ◌<◌, ℕ, Bool, true, false, ◌⊎◌, List, [], ◌∷◌, ◌++◌, length}
use Rattle.std.specs.Char.{is_ascii_whitespace}
use Rattle.std.specs.List.{AllByRecursion}
use Rattle.gx_hstore.specs.Map.{Pair}
use Rattle.gx_hstore.specs.Text.{Sign, written, meant, AreInside, value_of}

abbrev pub AreBlank : List ℕ → Type 0
AreBlank bytes = AllByRecursion (λ c. is_ascii_whitespace c ≡ true) bytes

-- signs in double quotes (34), or as a word
abbrev pub string_text : Bool → List Sign → List ℕ
string_text true signs = 34 ∷ (written signs ++ 34 ∷ [])
string_text false signs = written signs

-- no sign ends them, and a word has one or more
abbrev pub IsString : Bool → List Sign → Type 0
IsString true signs = AreInside true signs
IsString false signs = AreInside false signs × (0 < length signs)

-- a key and a value, with the white space before and behind each of them
pub record PairPart : Type 0 where
  pub before_key : List ℕ
  pub key_quoted : Bool
  pub key : List Sign
  pub behind_key : List ℕ
  pub before_value : List ℕ
  pub value_quoted : Bool
  pub value : List Sign
  pub behind_value : List ℕ

pub record IsPairPart (p : PairPart) : Type 0 where
  pub blank_before_key : AreBlank p.before_key
  pub is_key : IsString p.key_quoted p.key
  pub blank_behind_key : AreBlank p.behind_key
  pub blank_before_value : AreBlank p.before_value
  pub is_value : IsString p.value_quoted p.value
  pub blank_behind_value : AreBlank p.behind_value

-- with `=>` (61, 62) between the key and the value
abbrev pub pair_text : PairPart → List ℕ
pair_text p =
    p.before_key ++ (string_text p.key_quoted p.key ++ (p.behind_key ++ 61 ∷ 62 ∷ (p.before_value ++ (string_text p.value_quoted p.value ++ p.behind_value))))

abbrev pub pair_meant : PairPart → Pair
pair_meant p = (meant p.key, value_of p.value_quoted (meant p.value))

-- the text is these pairs with a comma (44) between them, and behind the last a comma with white space or nothing; or white space
abbrev pub IsMadeOf : List ℕ → List Pair → Type 0
IsMadeOf text [] = AreBlank text
IsMadeOf text (pair ∷ pairs) =
    (p : PairPart) × IsPairPart p × (pair ≡ pair_meant p)
    × (((text ≡ pair_text p) × (pairs ≡ [])) ⊎ ((more : List ℕ) × (text ≡ pair_text p ++ 44 ∷ more) × IsMadeOf more pairs))
