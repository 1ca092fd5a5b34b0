-- What the text of a formula is made of: words and signs, with white space before each of them and at the end.
use Rattle.std.specs.Prelude.{◌≡◌, ◌==◌, ℕ, ◌<◌, true, false, if◌then◌else◌, List, [], ◌∷◌, ◌++◌, length, Option, None, Some}
use Rattle.std.specs.Char.{is_ascii_whitespace}
use Rattle.std.specs.List.{AllByRecursion}
use Rattle.gx_formula.specs.declared.sign.Sign.{Sign}
use Rattle.gx_formula.specs.declared.sign.Sign.TheVariants as sign

-- `!` (33), `&` (38), `|` (124), `(` (40) and `)` (41)
abbrev pub sign_of : ℕ → Option Sign
sign_of c =
    if c == 33 then Some sign.Not else (if c == 38 then Some sign.And else (if c == 124 then Some sign.Or
    else (if c == 40 then Some sign.Open else (if c == 41 then Some sign.Close else None))))

-- a word, or a sign
pub data Token (W : Type 0) : Type 0 where
  Word : W → Token W
  Mark : Sign → Token W

abbrev pub IsBlank : List ℕ → Type 0
IsBlank text = AllByRecursion (λ c. is_ascii_whitespace c ≡ true) text

-- The first byte is neither white space nor a sign.
abbrev pub StartsWord : List ℕ → Type 0
StartsWord [] = ⊥
StartsWord (c ∷ rest) = (is_ascii_whitespace c ≡ false) × (sign_of c ≡ None)

-- `Takes text word rest` says that the word stands at the front of the text, before the rest, and `IsFar text` that what stands there
-- is a word but for its value. At most one of these holds, for one word alone.
pub record AreWords {W : Type 0} (Takes : List ℕ → W → List ℕ → Type 0) (IsFar : List ℕ → Type 0) : Type 0 where
  pub one : (text : List ℕ) (v w : W) (x y : List ℕ) → Takes text v x → Takes text w y → (v ≡ w) × (x ≡ y)
  pub near : (text : List ℕ) (w : W) (rest : List ℕ) → Takes text w rest → IsFar text → ⊥
  pub starts : (text : List ℕ) (w : W) (rest : List ℕ) → Takes text w rest → StartsWord text
  pub far_starts : (text : List ℕ) → IsFar text → StartsWord text
  pub shorter : (text : List ℕ) (w : W) (rest : List ℕ) → Takes text w rest → length rest < length text

abbrev pub StandsFor : {W : Type 0} → (List ℕ → W → List ℕ → Type 0) → Token W → List ℕ → List ℕ → Type 0
StandsFor Takes (Word w) text rest = Takes text w rest
StandsFor Takes (Mark s) text rest = (c : ℕ) × (text ≡ c ∷ rest) × (sign_of c ≡ Some s)

-- white space, and behind it a token
pub record TakesToken {W : Type 0} (Takes : List ℕ → W → List ℕ → Type 0) (text : List ℕ) (token : Token W) (rest : List ℕ) : Type 0 where
  pub blank : List ℕ
  pub core : List ℕ
  pub parts : text ≡ blank ++ core
  pub white : IsBlank blank
  pub stands : StandsFor Takes token core rest

-- the text begins with these tokens, and this is the rest
abbrev pub Begins : {W : Type 0} → (List ℕ → W → List ℕ → Type 0) → List ℕ → List (Token W) → List ℕ → Type 0
Begins Takes text [] rest = text ≡ rest
Begins Takes text (t ∷ tokens) rest = (after : List ℕ) × TakesToken Takes text t after × Begins Takes after tokens rest

-- the text is these tokens, and white space at the end
abbrev pub IsMadeOf : {W : Type 0} → (List ℕ → W → List ℕ → Type 0) → List ℕ → List (Token W) → Type 0
IsMadeOf Takes text tokens = (rest : List ℕ) × Begins Takes text tokens rest × IsBlank rest
