-- What a piece is made of, as a relation between its bytes and its tokens.
use Rattle.std.specs.Prelude.{◌≡◌, ◌⊎◌, ℕ, ◌+◌, ◌<◌, Bool, true, false, ◌==◌, if◌then◌else◌, List, [], ◌∷◌, ◌++◌, length, map, slice_index, Option, Some, None, is_some}
use Rattle.std.specs.List.{flat_map}
use Rattle.gx_lexer.specs.declared.token.Token.{Token}
use Rattle.gx_lexer.specs.declared.token.Token.TheVariants.{Word, Number, Text, Operator, Cast, Unknown}
use Rattle.gx_lexer.specs.Letters.{is_white, is_digit, is_sign, is_letter, is_word, is_comment, folded}
use Rattle.gx_lexer.specs.Parts.{BeginsNot}
use Rattle.gx_lexer.specs.Tokens.{sign_of, is_operator, operator_text, placed}

-- white space, a comment, a word, a number, a text, a sign of one byte, `::`, or an operator; a word, a number and an operator have their first byte before the others
pub data Lexeme : Type 0 where
  blank : ℕ → Lexeme
  remark : List ℕ → Lexeme
  word : ℕ → List ℕ → Lexeme
  number : ℕ → List ℕ → Lexeme
  text : List ℕ → Lexeme
  sign : ℕ → Lexeme
  cast : Lexeme
  operator : ℕ → List ℕ → Lexeme

-- a text with two quotes for each one
abbrev pub doubled : List ℕ → List ℕ
doubled [] = []
doubled (b ∷ t) = if b == 39 then 39 ∷ 39 ∷ doubled t else b ∷ doubled t

-- the bytes of a lexeme: the first, and the others
abbrev pub first : Lexeme → ℕ
first (blank b) = b
first (remark t) = 45
first (word b w) = b
first (number b ds) = b
first (text t) = 39
first (sign b) = b
first cast = 58
first (operator b o) = b

abbrev pub others : Lexeme → List ℕ
others (blank b) = []
others (remark t) = 45 ∷ t
others (word b w) = w
others (number b ds) = ds
others (text t) = doubled t ++ 39 ∷ []
others (sign b) = []
others cast = 58 ∷ []
others (operator b o) = o

abbrev pub spelled : Lexeme → List ℕ
spelled l = first l ∷ others l

abbrev pub token_in : Lexeme → Option Token
token_in (blank b) = None
token_in (remark t) = None
token_in (word b w) = Some (Word (map folded (b ∷ w)))
token_in (number b ds) = Some (Number (b ∷ ds))
token_in (text t) = Some (Text t)
token_in (sign b) = sign_of b
token_in cast = Some Cast
token_in (operator b o) = Some (Operator (operator_text (b ∷ o)))

-- each byte passes the test
abbrev pub AllAre : (ℕ → Bool) → List ℕ → Type 0
AllAre p [] = Unit {0}
AllAre p (b ∷ bs) = (p b ≡ true) × AllAre p bs

-- no bytes, or a first one that doesn't pass
abbrev pub Stops : (ℕ → Bool) → List ℕ → Type 0
Stops p [] = Unit {0}
Stops p (b ∷ bs) = p b ≡ false

-- the bytes are an operator before these others; its last byte begins no comment
abbrev pub StandsBefore : ℕ → List ℕ → List ℕ → Type 0
StandsBefore b o after = (is_operator (b ∷ o) ≡ true) × (slice_index (b ∷ o) (length o) ≡ 45 → BeginsNot 45 after)

-- The lexeme may stand before these bytes: words, numbers, comments and operators go on as far as they can. A word has at most 63 bytes, and a number may begin with a sign.
abbrev pub Fits : Lexeme → List ℕ → Type 0
Fits (blank b) after = is_white b ≡ true
Fits (remark t) after = AllAre is_comment t × Stops is_comment after
Fits (word b w) after = (is_letter b ≡ true) × AllAre is_word w × Stops is_word after × (length w < 63)
Fits (number b ds) after = AllAre is_digit ds × Stops is_digit after × ((is_digit b ≡ true) ⊎ ((is_sign b ≡ true) × (0 < length ds)))
Fits (text t) after = BeginsNot 39 after
Fits (sign b) after = is_some (sign_of b) ≡ true
Fits cast after = Unit {0}
Fits (operator b o) after = StandsBefore b o after × ((more behind : List ℕ) → after ≡ more ++ behind → StandsBefore b (o ++ more) behind → more ≡ [])

-- lexemes before a tail
abbrev pub AreLexemes : List Lexeme → List ℕ → Type 0
AreLexemes [] tail = Unit {0}
AreLexemes (l ∷ ls) tail = Fits l (flat_map spelled ls ++ tail) × AreLexemes ls tail

-- no lexeme begins here
abbrev pub BeginsNone : List ℕ → Type 0
BeginsNone tail = (l : Lexeme) (after : List ℕ) → tail ≡ spelled l ++ after → Fits l after → ⊥

-- the tokens of lexemes from a place on, each with its place
abbrev pub places : ℕ → List Lexeme → List (ℕ × Token)
places at [] = []
places at (l ∷ ls) = placed at (token_in l) ++ places (at + length (spelled l)) ls

abbrev pub unknown_at : ℕ → List ℕ → List (ℕ × Token)
unknown_at at [] = []
unknown_at at (b ∷ bs) = (at, Unknown) ∷ []

-- The bytes from a place on are lexemes and a tail where none begins. Their tokens are those of the lexemes, and Unknown at the tail if there is one.
abbrev pub SpellsFrom : ℕ → List ℕ → List (ℕ × Token) → Type 0
SpellsFrom at bytes tokens =
    (ls : List Lexeme) × (tail : List ℕ) × (bytes ≡ flat_map spelled ls ++ tail) × AreLexemes ls tail × BeginsNone tail
    × (tokens ≡ places at ls ++ unknown_at (at + length (flat_map spelled ls)) tail)

abbrev pub Spells : List ℕ → List (ℕ × Token) → Type 0
Spells piece tokens = SpellsFrom 0 piece tokens
