-- The statement that a piece says, and its first fault, said by the grammar alone.
use Rattle.std.specs.Prelude.{◌≡◌, ◌⊎◌, ℕ, ◌<◌, List, [], ◌∷◌, ◌++◌, length, map}
use Rattle.gx_lexer.specs.declared.token.Token.{Token}
use Rattle.gx_lexer.specs.Tokens.{tokens_of}
use Rattle.gx_parse.specs.declared.error.ParseError.{ParseError}
use Rattle.gx_parse.specs.declared.error.ParseError.TheVariants as error
use Rattle.gx_parse.specs.Answers.{text_len}
use Rattle.gx_parse.specs.Grammar.{Says, Continues}
use Rattle.gx_parse.specs.Outcomes.{Limits, limits}
use Rattle.gx_parse.specs.Said.{Said}

-- tokens without their places
abbrev pub plain : List (ℕ × Token) → List Token
plain tokens = map (λ x. x.1) tokens

-- the piece is UTF-8 without a byte 0
abbrev pub IsText : List ℕ → Type 0
IsText piece = text_len piece ≡ length piece

abbrev pub IsSaid : List ℕ → Said → Type 0
IsSaid piece said = IsText piece × Says limits (plain (tokens_of piece)) said

-- The token at this place is the first with which no statement within the limits goes on.
pub record FirstFault (tokens : List (ℕ × Token)) (at : ℕ) : Type 0 where
  pub front : List (ℕ × Token)
  pub token : Token
  pub behind : List (ℕ × Token)
  pub parts : tokens ≡ front ++ (at, token) ∷ behind
  pub goes : Continues limits (plain front)
  pub ends : Continues limits (plain front ++ token ∷ []) → ⊥

abbrev pub up_to : (tokens : List (ℕ × Token)) (at : ℕ) → FirstFault tokens at → List Token
up_to tokens at f = plain f.front ++ f.token ∷ []

-- What isn't text is wrong where the text ends. Else a token is wrong with which no statement goes on, whatever its limits, or the end of tokens that say no statement but begin one.
abbrev pub IsWrongAt : List ℕ → ℕ → Type 0
IsWrongAt piece at =
    ((text_len piece < length piece) × (at ≡ text_len piece))
    ⊎ ((IsText piece × ((f : FirstFault (tokens_of piece) at) × ((wider : Limits) → Continues wider (up_to (tokens_of piece) at f) → ⊥)))
    ⊎ (IsText piece × (at ≡ length piece) × Continues limits (plain (tokens_of piece)) × ((said : Said) → Says limits (plain (tokens_of piece)) said → ⊥)))

-- A token with which a statement goes on, but none within the limits.
abbrev pub IsTooDeep : List ℕ → Type 0
IsTooDeep piece = IsText piece × ((at : ℕ) × (f : FirstFault (tokens_of piece) at) × (wider : Limits) × Continues wider (up_to (tokens_of piece) at f))

-- the fault that an error tells; want of memory tells nothing of the piece
abbrev pub IsFault : List ℕ → ParseError → Type 0
IsFault piece (error.Syntax at) = IsWrongAt piece at
IsFault piece error.TooDeep = IsTooDeep piece
IsFault piece error.Memory = Unit {0}
