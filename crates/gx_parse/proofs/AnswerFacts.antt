-- One token after another.
use Rattle.std.proofs.Common.{◌≡◌, ℕ, ◌+◌, ◌-◌, ◌≤◌, zero, suc, List, [], ◌∷◌, ◌++◌, length, take, drop, Option, Some, refl, sym, ◌∙◌, ap, subst, length-drop, arith}
use Rattle.std.proofs.lemmas.Grind.{common_steps}
use Rattle.gx_lexer.specs.declared.token.Token.{Token}
use Rattle.gx_lexer.specs.Tokens.{first_of, placed, tokens_from}
use Rattle.gx_parse.specs.declared.error.ParseError.{ParseError}
use Rattle.gx_parse.specs.declared.error.ParseError.TheVariants as error
use Rattle.gx_parse.specs.declared.outcome.Outcome.{Outcome}
use Rattle.gx_parse.specs.declared.outcome.Outcome.TheVariants.{Goes, Wrong, Deep}
use Rattle.gx_parse.specs.Answers.{Answer, gone, ended, answer_from, ReadOn, StopsAt, Tells}
use Rattle.gx_parse.specs.Outcomes.{Limits}
use Rattle.gx_parse.specs.States.{State, state_after, said_at}

one_read : (lim : Limits) (end : ℕ) (s : State) (at : ℕ) (t : Token) (more : List (ℕ × Token)) → answer_from lim end s ((at, t) ∷ more) ≡ gone at (λ next. answer_from lim end next more) (state_after lim s t)
unfolding answer_from
one_read lim end s at t more = refl

pub goes_on : (lim : Limits) (s next : State) (at : ℕ) (t : Token) → Goes next ≡ state_after lim s t → ReadOn lim s (placed at (Some t)) next
goes_on lim s next at t e = λ end more. one_read lim end s at t more ∙ ap (λ (o : Outcome State). gone at (λ n. answer_from lim end n more) o) (sym e)

pub is_wrong : (lim : Limits) (s : State) (at : ℕ) (t : Token) → Wrong ≡ state_after lim s t → StopsAt lim s (placed at (Some t)) (error.Syntax at)
is_wrong lim s at t e = λ end more. one_read lim end s at t more ∙ ap (λ (o : Outcome State). gone at (λ n. answer_from lim end n more) o) (sym e)

pub is_deep : (lim : Limits) (s : State) (at : ℕ) (t : Token) → Deep ≡ state_after lim s t → StopsAt lim s (placed at (Some t)) error.TooDeep
is_deep lim s at t e = λ end more. one_read lim end s at t more ∙ ap (λ (o : Outcome State). gone at (λ n. answer_from lim end n more) o) (sym e)

skips : (at n : ℕ) (bs : List ℕ) → tokens_from at n bs ≡ tokens_from (at + n) 0 (drop n bs)
unfolding tokens_from
skips at zero bs = let e : at + 0 ≡ at = omega arith in rw e refl
skips at (suc n) [] = refl
skips at (suc n) (b ∷ bs) = let e : at + 1 + n ≡ at + suc n = omega arith in skips (at + 1) n bs ∙ (rw e refl)

at_first : (at b : ℕ) (bs : List ℕ) → tokens_from at 0 (b ∷ bs) ≡ placed at (first_of b bs).0 ++ tokens_from (at + 1) (first_of b bs).1 bs
unfolding tokens_from
at_first at b bs = refl

at_end : (at : ℕ) → tokens_from at 0 [] ≡ []
unfolding tokens_from
at_end at = refl

ended_now : (lim : Limits) (end : ℕ) (s : State) → answer_from lim end s [] ≡ ended end (said_at s)
unfolding answer_from
ended_now lim end s = refl

slice_from : (bs : List ℕ) (n : ℕ) → take (length bs - n) (drop n bs) ≡ drop n bs
slice_from bs n = grind (arith, common_steps)

abbrev pub place_of : List ℕ → List ℕ → ℕ
place_of piece rest = length piece - length rest

-- a token, and the bytes behind it
pub reads_one : (lim : Limits) (piece rest : List ℕ) (b : ℕ) (bs : List ℕ) (token : Option Token) (n : ℕ) (s next : State) (all : Answer)
    → rest ≡ b ∷ bs → (token, n) ≡ first_of b bs → n ≤ length bs → length rest ≤ length piece → ReadOn lim s (placed (place_of piece rest) token) next
    → answer_from lim (length piece) s (tokens_from (place_of piece rest) 0 rest) ≡ all
    → answer_from lim (length piece) next (tokens_from (place_of piece (take (length bs - n) (drop n bs))) 0 (take (length bs - n) (drop n bs))) ≡ all
reads_one lim piece rest b bs token n s next all r f w l go h =
    let at : ℕ = place_of piece rest in
    let k : length rest ≡ suc (length bs) = ap (λ (xs : List ℕ). length xs) r in
    let e : place_of piece (drop n bs) ≡ at + 1 + n = (let d = length-drop n bs in omega arith) in
    let t : tokens_from at 0 rest ≡ placed at token ++ tokens_from (at + 1 + n) 0 (drop n bs) =
    ap (λ (xs : List ℕ). tokens_from at 0 xs) r ∙ at_first at b bs ∙ ap (λ (y : Option Token × ℕ). placed at y.0 ++ tokens_from (at + 1) y.1 bs) (sym f)
    ∙ ap (λ (ts : List (ℕ × Token)). placed at token ++ ts) (skips (at + 1) n bs) in
    rw (slice_from bs n, e) (sym (go (length piece) (tokens_from (at + 1 + n) 0 (drop n bs))) ∙ ap (λ (ts : List (ℕ × Token)). answer_from lim (length piece) s ts) (sym t) ∙ h)

pub stops_one : (lim : Limits) (piece rest : List ℕ) (b : ℕ) (bs : List ℕ) (token : Option Token) (n : ℕ) (s : State) (e : ParseError) (all : Answer)
    → rest ≡ b ∷ bs → (token, n) ≡ first_of b bs → StopsAt lim s (placed (place_of piece rest) token) e
    → answer_from lim (length piece) s (tokens_from (place_of piece rest) 0 rest) ≡ all → Tells all e
stops_one lim piece rest b bs token n s e all r f go h =
    let at : ℕ = place_of piece rest in
    let more : List (ℕ × Token) = tokens_from (at + 1) n bs in
    let t : tokens_from at 0 rest ≡ placed at token ++ more =
    ap (λ (xs : List ℕ). tokens_from at 0 xs) r ∙ at_first at b bs ∙ ap (λ (y : Option Token × ℕ). placed at y.0 ++ tokens_from (at + 1) y.1 bs) (sym f) in
    let P : Answer → Type 0 = λ a. Tells a e in
    subst P (ap (λ (ts : List (ℕ × Token)). answer_from lim (length piece) s ts) (sym t) ∙ h) (go (length piece) more)

pub ends_now : (lim : Limits) (piece rest : List ℕ) (s : State) (all : Answer) → length rest ≡ 0
    → answer_from lim (length piece) s (tokens_from (place_of piece rest) 0 rest) ≡ all → ended (length piece) (said_at s) ≡ all
ends_now lim piece [] s all l h = sym (ended_now lim (length piece) s) ∙ ap (λ (ts : List (ℕ × Token)). answer_from lim (length piece) s ts) (sym (at_end (place_of piece []))) ∙ h
ends_now lim piece (b ∷ bs) s all l h = absurd (omega arith)

pub fewer : (piece rest : List ℕ) (b : ℕ) (bs : List ℕ) (n : ℕ) → rest ≡ b ∷ bs → length rest ≤ length piece → length (take (length bs - n) (drop n bs)) ≤ length piece
fewer piece rest b bs n r l =
    let k : length rest ≡ suc (length bs) = ap (λ (xs : List ℕ). length xs) r in
    rw (slice_from bs n) (omega (arith, length-drop n bs))
