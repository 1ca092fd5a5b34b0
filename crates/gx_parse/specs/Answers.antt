-- The answer to a piece: the statement that it says, or its first fault.
use Rattle.std.specs.Prelude.{◌≡◌, ℕ, not, ◌==◌, nat_lt, min, if◌then◌else◌, List, [], ◌∷◌, ◌++◌, length, Option, Some, None}
use Rattle.std.specs.List.{prefix_len}
use Rattle.std.specs.Str.Lossy.{utf8_valid_len}
use Rattle.gx_lexer.specs.declared.token.Token.{Token}
use Rattle.gx_lexer.specs.Tokens.{tokens_of}
use Rattle.gx_parse.specs.declared.error.ParseError.{ParseError}
use Rattle.gx_parse.specs.declared.error.ParseError.TheVariants as error
use Rattle.gx_parse.specs.declared.outcome.Outcome.{Outcome}
use Rattle.gx_parse.specs.declared.outcome.Outcome.TheVariants.{Goes, Wrong, Deep}
use Rattle.gx_parse.specs.declared.reader.Head.TheVariants.{Start}
use Rattle.gx_parse.specs.Outcomes.{Limits, limits}
use Rattle.gx_parse.specs.Said.{Said}
use Rattle.gx_parse.specs.States.{State, before, state_after, said_at}

pub data Answer : Type 0 where
  says : Said → Answer
  wrong_at : ℕ → Answer
  too_deep : Answer

-- the length of the longest front that is UTF-8 without a byte 0
abbrev pub text_len : List ℕ → ℕ
text_len piece = min (prefix_len (λ b. not (b == 0)) piece) (utf8_valid_len piece)

abbrev pub ended : ℕ → Option Said → Answer
ended end None = wrong_at end
ended end (Some x) = says x

-- the answer behind a token at a place
abbrev pub gone : ℕ → (State → Answer) → Outcome State → Answer
gone at answer (Goes s) = answer s
gone at answer Wrong = wrong_at at
gone at answer Deep = too_deep

-- the answer behind the tokens that are read, with those that follow and the place of the end
unfoldable pub answer_from : Limits → ℕ → State → List (ℕ × Token) → Answer
answer_from lim end s [] = ended end (said_at s)
answer_from lim end s (x ∷ xs) = gone x.0 (λ next. answer_from lim end next xs) (state_after lim s x.1)

abbrev pub answer_of : List ℕ → Answer
answer_of piece =
    if nat_lt (text_len piece) (length piece) then wrong_at (text_len piece) else answer_from limits (length piece) (before Start) (tokens_of piece)

-- the error tells this answer, or want of memory
abbrev pub Tells : Answer → ParseError → Type 0
Tells answer (error.Syntax at) = answer ≡ wrong_at at
Tells answer error.TooDeep = answer ≡ too_deep
Tells answer error.Memory = Unit {0}

-- One reading of a token, if there is one.

-- the answer is the same behind the token
abbrev pub ReadOn : Limits → State → List (ℕ × Token) → State → Type 0
ReadOn lim s xs next = (end : ℕ) (more : List (ℕ × Token)) → answer_from lim end s (xs ++ more) ≡ answer_from lim end next more

-- the token is the first fault
abbrev pub StopsAt : Limits → State → List (ℕ × Token) → ParseError → Type 0
StopsAt lim s xs e = (end : ℕ) (more : List (ℕ × Token)) → Tells (answer_from lim end s (xs ++ more)) e
