-- The words of a piece.
use Rattle.std.specs.Prelude.{ℕ, ◌<◌, Bool, ◌||◌, ◌==◌, List, length}
use Rattle.gx_lexer.specs.declared.token.Token.{Token}
use Rattle.gx_lexer.specs.declared.token.Token.TheVariants.{Word}
use Rattle.gx_lexer.specs.Letters.{is_lower, is_digit}
use Rattle.gx_lexer.specs.Lexemes.{AllAre}

-- a letter in lower case, a digit or `_`
abbrev pub is_small : ℕ → Bool
is_small b = is_lower b || is_digit b || b == 95

-- 1 to 63 such bytes
pub record IsWord (text : List ℕ) : Type 0 where
  pub some : 0 < length text
  pub short : length text < 64
  pub bytes : AllAre is_small text

-- a token that is a word has such a text
abbrev pub HasWord : Token → Type 0
HasWord (Word text) = IsWord text
HasWord _ = Unit {0}
