-- Tokens that are read one after another.
use Rattle.std.proofs.Common.{◌≡◌, List, [], ◌∷◌, ◌++◌, Option, Some, None, refl, ap}
use Rattle.gx_lexer.specs.declared.token.Token.{Token}
use Rattle.gx_parse.specs.declared.outcome.Outcome.{Outcome}
use Rattle.gx_parse.specs.declared.outcome.Outcome.TheVariants.{Goes, Wrong, Deep}
use Rattle.gx_parse.specs.Outcomes.{Limits}
use Rattle.gx_parse.specs.Runs.{then, accept}
use Rattle.gx_parse.specs.Said.{Said}
use Rattle.gx_parse.specs.States.{State, state_after}

-- the state behind these tokens
abbrev pub after : Limits → State → List Token → Option State
after lim s [] = Some s
after lim s (t ∷ ts) = then (λ next. after lim next ts) (state_after lim s t)

pub step : (lim : Limits) (s next : State) (t : Token) (ts : List Token) → state_after lim s t ≡ Goes next → accept lim s (t ∷ ts) ≡ accept lim next ts
step lim s next t ts e = ap (λ (o : Outcome State). then (λ x. accept lim x ts) o) e

abbrev pub and_accept : Limits → Option State → List Token → Option Said
and_accept lim None ts = None
and_accept lim (Some s) ts = accept lim s ts

over : (lim : Limits) (o : Outcome State) (ts more : List Token) → ((s : State) → accept lim s (ts ++ more) ≡ and_accept lim (after lim s ts) more)
    → then (λ x. accept lim x (ts ++ more)) o ≡ and_accept lim (then (λ x. after lim x ts) o) more
over lim (Goes s) ts more f = f s
over lim Wrong ts more f = refl
over lim Deep ts more f = refl

pub accept_more : (lim : Limits) (s : State) (ts more : List Token) → accept lim s (ts ++ more) ≡ and_accept lim (after lim s ts) more
accept_more lim s [] more = refl
accept_more lim s (t ∷ ts) more = over lim (state_after lim s t) ts more (λ x. accept_more lim x ts more)

pub goes_from : {A : Type 0} (f : State → Option A) (o : Outcome State) (y : A) → then f o ≡ Some y → (s : State) × (o ≡ Goes s) × (f s ≡ Some y)
goes_from f (Goes s) y e = (s, refl, e)
goes_from f Wrong y e = cc
goes_from f Deep y e = cc
