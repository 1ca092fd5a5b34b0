use Rattle.std.proofs.Common.{◌≡◌, ℕ, MatchResult, Option, Some, None, refl, sym, subst}
use Rattle.std.proofs.lemmas.Result.{err_from_is_err_and}
use Rattle.gx_lexer.specs.declared.token.Token.{Token}
use Rattle.gx_lexer.specs.Tokens.{placed}
use Rattle.gx_parse.specs.declared.error.ParseError.{ParseError}
use Rattle.gx_parse.specs.Answers.{Answer, says, answer_of, Tells, ReadOn, StopsAt}
use Rattle.gx_parse.specs.Outcomes.{Limits, limits}
use Rattle.gx_parse.specs.Said.{said_of}
use Rattle.gx_parse.specs.States.{State, state_of}
use Rattle.gx_parse.proofs.AnswerFacts as facts
use Rattle.gx_parse.proofs.parsing.read_piece.Goals as goal

no_token : (lim : Limits) (s : State) (at : ℕ) (token : Option Token) → token ≡ None → ReadOn lim s (placed at token) s
no_token lim s at token e = let P : Option Token → Type 0 = λ o. ReadOn lim s (placed at o) s in subst P (sym e) (λ end more. refl)

some_token : (lim : Limits) (s next : State) (at : ℕ) (token : Option Token) (t : Token) → token ≡ Some t → ReadOn lim s (placed at (Some t)) next → ReadOn lim s (placed at token) next
some_token lim s next at token t e go = let P : Option Token → Type 0 = λ o. ReadOn lim s (placed at o) next in subst P (sym e) go

some_fault : (lim : Limits) (s : State) (at : ℕ) (token : Option Token) (t : Token) (e : ParseError) → token ≡ Some t → StopsAt lim s (placed at (Some t)) e → StopsAt lim s (placed at token) e
some_fault lim s at token t e is go = let P : Option Token → Type 0 = λ o. StopsAt lim s (placed at o) e in subst P (sym is) go

pub tokens-preserved-in_default-token : goal.tokens-preserved-in_default-token
tokens-preserved-in_default-token c = record {
  within = facts.fewer c.args.piece.now c.tokens.rest.now c.in-Some.first.now c.in-Some.after.now c.in-Ok.n c.in-Some.ensures.cases.0 c.tokens.invariant.within;
  answer = facts.reads_one limits c.args.piece.now c.tokens.rest.now c.in-Some.first.now c.in-Some.after.now c.in-Ok.token c.in-Ok.n (state_of c.tokens.reader) (state_of c.tokens.reader) (answer_of c.args.piece.now)
      c.in-Some.ensures.cases.0 c.in-Ok.ensures.found c.in-Ok.ensures.within c.tokens.invariant.within
      (no_token limits (state_of c.tokens.reader) (facts.place_of c.args.piece.now c.tokens.rest.now) c.in-Ok.token c.in_default-token.is) c.tokens.invariant.answer;
}

pub tokens-preserved : goal.tokens-preserved
tokens-preserved c = record {
  within = facts.fewer c.args.piece.now c.tokens.rest.now c.in-Some.first.now c.in-Some.after.now c.in-Ok.n c.in-Some.ensures.cases.0 c.tokens.invariant.within;
  answer = facts.reads_one limits c.args.piece.now c.tokens.rest.now c.in-Some.first.now c.in-Some.after.now c.in-Ok.token c.in-Ok.n (state_of c.tokens.reader) (state_of c.in_ok-reader.reader) (answer_of c.args.piece.now)
      c.in-Some.ensures.cases.0 c.in-Ok.ensures.found c.in-Ok.ensures.within c.tokens.invariant.within
      (some_token limits (state_of c.tokens.reader) (state_of c.in_ok-reader.reader) (facts.place_of c.args.piece.now c.tokens.rest.now) c.in-Ok.token c.in-Some-token.token c.in-Some-token.is c.in_ok-reader.ensures) c.tokens.invariant.answer;
}

pub returns-in_err-reader : goal.returns-in_err-reader
returns-in_err-reader c =
    let p = err_from_is_err_and c.from_residual.result c.from_residual.ensures.1 in
    rw (p.1, p.2)
    (facts.stops_one limits c.args.piece.now c.tokens.rest.now c.in-Some.first.now c.in-Some.after.now c.in-Ok.token c.in-Ok.n (state_of c.tokens.reader) c.in_err-reader.field-0.0 (answer_of c.args.piece.now)
    c.in-Some.ensures.cases.0 c.in-Ok.ensures.found
    (some_fault limits (state_of c.tokens.reader) (facts.place_of c.args.piece.now c.tokens.rest.now) c.in-Ok.token c.in-Some-token.token c.in_err-reader.field-0.0 c.in-Some-token.is c.in_err-reader.ensures) c.tokens.invariant.answer)

pub returns : goal.returns
returns c =
    let P : Answer → Type 0 = λ a. MatchResult c.ended.result (λ s. a ≡ says (said_of s)) (λ e. Tells a e) in
    subst P (facts.ends_now limits c.args.piece.now c.tokens.rest.now (state_of c.tokens.reader) (answer_of c.args.piece.now) c.in_default.ensures.cases c.tokens.invariant.answer) c.ended.ensures
