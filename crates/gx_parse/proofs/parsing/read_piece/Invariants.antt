use Rattle.std.proofs.Common.{◌≡◌, ◌-◌, ◌≤◌, length}
use Rattle.gx_lexer.specs.Tokens.{tokens_from}
use Rattle.gx_parse.specs.Answers.{answer_from, answer_of}
use Rattle.gx_parse.specs.Outcomes.{limits}
use Rattle.gx_parse.specs.States.{state_of}
use Rattle.gx_parse.proofs.parsing.read_piece.Given as goal

abbrev pub invariant-tokens : goal.invariant-tokens
invariant-tokens l = record {
  within : length l.rest ≤ length l.piece;
  answer : answer_from limits (length l.piece) (state_of l.reader) (tokens_from (length l.piece - length l.rest) 0 l.rest) ≡ answer_of l.piece;
}

abbrev pub decreases-tokens : goal.decreases-tokens
decreases-tokens l = length l.rest
