-- Labels (PostgreSQL 16, F.23), and a label at the front of a text.
use Rattle.std.specs.Prelude.{◌≡◌, ◌==◌, ℕ, ◌<◌, ◌≤◌, Bool, true, false, ◌||◌, List, [], ◌∷◌, ◌++◌, length}
use Rattle.std.specs.Char.{is_ascii_alphanumeric}
use Rattle.std.specs.List.{AllByRecursion}

-- a letter or a digit of ASCII, `_` (95) or `-` (45)
abbrev pub is_label_byte : ℕ → Bool
is_label_byte c = (is_ascii_alphanumeric c || c == 95) || c == 45

abbrev pub IsLabelByte : ℕ → Type 0
IsLabelByte c = is_label_byte c ≡ true

-- one to a thousand such bytes
pub record IsLabel (label : List ℕ) : Type 0 where
  pub some : 0 < length label
  pub most : length label ≤ 1000
  pub bytes : AllByRecursion IsLabelByte label

-- no byte of a label comes first
abbrev pub StopsLabel : List ℕ → Type 0
StopsLabel [] = Unit {0}
StopsLabel (c ∷ rest) = is_label_byte c ≡ false

-- a label stands at the front, and goes on as far as its bytes do
pub record TakesLabel (text label rest : List ℕ) : Type 0 where
  pub parts : text ≡ label ++ rest
  pub is_label : IsLabel label
  pub stops : StopsLabel rest
