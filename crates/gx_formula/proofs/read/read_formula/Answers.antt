-- Each end of the reader, and each token.
use Rattle.std.proofs.Common.{None, List, sym, subst, arith}
use Rattle.std.proofs.lemmas.Result.{err_from_is_err_and}
use Rattle.gx_formula.specs.Tokens.{Word, Mark}
use Rattle.gx_formula.specs.Machine.{Wanted, frames, parsed}
use Rattle.gx_formula.specs.declared.parser.Pending.{Pending}
use Rattle.gx_formula.proofs.AnswerLemmas.{SoFar, begin}
use Rattle.gx_formula.proofs.ReadLemmas.{no_length, some_length, takes_token, token_shorter, goes_on, sign_fails, word_fails, end_answers}
use Rattle.gx_formula.proofs.read.read_formula.Goals as goal

pub tokens-init : goal.tokens-init
tokens-init g c =
    let P : List (Pending g.row.F.Denot) → Type 0 = λ items. SoFar g.row.F-Word.Denot g.F.Formula.Takes c.args.text.now c.args.text.now (Wanted (frames g.F.Formula.tree items) None None) 0 in
    record { limited = (rw c.new.ensures.items (omega arith), omega arith); so_far = subst P (sym c.new.ensures.items) (begin g.row.F-Word.Denot g.F.Formula.Takes c.args.text.now) }

pub returns-then-is_empty : goal.returns-then-is_empty
returns-then-is_empty g c =
    end_answers g.row.F-Word.Denot g.F.Formula.Takes g.F.Formula.IsFar g.met.F.Formula.are_words g.row.F.Denot g.F.Formula.tree c.args.text.now c.tokens.rest.now c.without_blanks-core.result.now (parsed g.F.Formula.tree c.tokens.parser) c.tokens.parser.operators c.finished.result
    c.tokens.invariant.so_far c.without_blanks-core.ensures (no_length _ c.if-is_empty.ensures) c.finished.ensures

pub put_sign-requires : goal.put_sign-requires
put_sign-requires g c = c.tokens.invariant.limited

pub returns-in_err-parser-in-Some : goal.returns-in_err-parser-in-Some
returns-in_err-parser-in-Some g c =
    let p = err_from_is_err_and c.from_residual.result c.from_residual.ensures.1 in
    rw (p.1, p.2)
    (sign_fails g.row.F-Word.Denot g.F.Formula.Takes g.F.Formula.IsFar g.met.F.Formula.are_words g.F.Formula.some_word c.args.text.now c.tokens.rest.now c.without_blanks-core.result.now c.in-Some.after.now (parsed g.F.Formula.tree c.tokens.parser) c.tokens.parser.operators c.in-Some.sign _
    c.tokens.invariant.so_far c.without_blanks-core.ensures c.in-Some.ensures c.in_err-parser-in-Some.ensures)

pub tokens-smaller-in-Some : goal.tokens-smaller-in-Some
tokens-smaller-in-Some g c =
    token_shorter g.row.F-Word.Denot g.F.Formula.Takes g.F.Formula.IsFar g.met.F.Formula.are_words (Mark c.in-Some.sign) c.tokens.rest.now c.in-Some.after.now
    (takes_token g.row.F-Word.Denot g.F.Formula.Takes g.F.Formula.IsFar g.met.F.Formula.are_words (Mark c.in-Some.sign) c.tokens.rest.now c.without_blanks-core.result.now c.in-Some.after.now c.without_blanks-core.ensures c.in-Some.ensures)

pub tokens-preserved-in-Some : goal.tokens-preserved-in-Some
tokens-preserved-in-Some g c = record {
  limited = c.in_ok-parser-in-Some.ensures.limited;
  so_far = goes_on g.row.F-Word.Denot g.F.Formula.Takes g.F.Formula.IsFar g.met.F.Formula.are_words g.row.F.Denot g.F.Formula.tree c.args.text.now c.tokens.rest.now c.in-Some.after.now c.tokens.parser c.in_ok-parser-in-Some.parser (Mark c.in-Some.sign) c.tokens.invariant.so_far
      (takes_token g.row.F-Word.Denot g.F.Formula.Takes g.F.Formula.IsFar g.met.F.Formula.are_words (Mark c.in-Some.sign) c.tokens.rest.now c.without_blanks-core.result.now c.in-Some.after.now c.without_blanks-core.ensures c.in-Some.ensures) c.in_ok-parser-in-Some.ensures;
}

pub put_word-requires : goal.put_word-requires
put_word-requires g c = c.tokens.invariant.limited

pub returns-in_err-next-in-None : goal.returns-in_err-next-in-None
returns-in_err-next-in-None g c =
    let p = err_from_is_err_and c.from_residual-in_err-next-in-None.result c.from_residual-in_err-next-in-None.ensures.1 in
    rw (p.1, p.2)
    (word_fails g.row.F-Word.Denot g.F.Formula.Takes g.F.Formula.IsFar g.met.F.Formula.are_words c.args.text.now c.tokens.rest.now c.without_blanks-core.result.now (parsed g.F.Formula.tree c.tokens.parser) c.tokens.parser.operators _
    c.tokens.invariant.so_far c.without_blanks-core.ensures (some_length _ c.if-is_empty.ensures) c.in-None.ensures g.F.Formula.some_word c.in_err-next-in-None.ensures)

pub tokens-smaller : goal.tokens-smaller
tokens-smaller g c =
    let read = c.in_ok-next-in-None.ensures in
    token_shorter g.row.F-Word.Denot g.F.Formula.Takes g.F.Formula.IsFar g.met.F.Formula.are_words (Word read.0) c.tokens.rest.now c.in_ok-next-in-None.after.now
    (takes_token g.row.F-Word.Denot g.F.Formula.Takes g.F.Formula.IsFar g.met.F.Formula.are_words (Word read.0) c.tokens.rest.now c.without_blanks-core.result.now c.in_ok-next-in-None.after.now c.without_blanks-core.ensures read.1)

pub tokens-preserved : goal.tokens-preserved
tokens-preserved g c =
    let read = c.in_ok-next-in-None.ensures in
    record {
      limited = read.2.limited;
      so_far = goes_on g.row.F-Word.Denot g.F.Formula.Takes g.F.Formula.IsFar g.met.F.Formula.are_words g.row.F.Denot g.F.Formula.tree c.args.text.now c.tokens.rest.now c.in_ok-next-in-None.after.now c.tokens.parser c.in_ok-next-in-None.next (Word read.0) c.tokens.invariant.so_far
          (takes_token g.row.F-Word.Denot g.F.Formula.Takes g.F.Formula.IsFar g.met.F.Formula.are_words (Word read.0) c.tokens.rest.now c.without_blanks-core.result.now c.in_ok-next-in-None.after.now c.without_blanks-core.ensures read.1) read.2;
    }
