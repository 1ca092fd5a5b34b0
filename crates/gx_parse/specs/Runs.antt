-- Tokens that are read one after another.
use Rattle.std.specs.Prelude.{List, [], ◌∷◌, Option, None}
use Rattle.gx_lexer.specs.declared.token.Token.{Token}
use Rattle.gx_parse.specs.declared.outcome.Outcome.{Outcome}
use Rattle.gx_parse.specs.declared.outcome.Outcome.TheVariants.{Goes, Wrong, Deep}
use Rattle.gx_parse.specs.declared.reader.Head.TheVariants.{Start}
use Rattle.gx_parse.specs.Outcomes.{Limits}
use Rattle.gx_parse.specs.Said.{Said}
use Rattle.gx_parse.specs.States.{State, before, state_after, said_at}

abbrev pub then : {A : Type 0} → (State → Option A) → Outcome State → Option A
then f (Goes s) = f s
then f Wrong = None
then f Deep = None

-- what is said by these tokens behind those that are read
abbrev pub accept : Limits → State → List Token → Option Said
accept lim s [] = said_at s
accept lim s (t ∷ ts) = then (λ next. accept lim next ts) (state_after lim s t)

-- the statement of tokens, if they say one
abbrev pub statement_of : Limits → List Token → Option Said
statement_of lim tokens = accept lim (before Start) tokens
