use Rattle.std.proofs.Common.{◌≡◌, ◌-◌, ◌≤◌, false, length, drop}
use Rattle.gx_lexer.specs.Tokens.{text_from}
use Rattle.gx_lexer.proofs.QuoteFacts.{with_front}
use Rattle.gx_lexer.proofs.scan.doubled_text_at.Given as goal

abbrev pub invariant-loop-n : goal.invariant-loop-n
invariant-loop-n l = record {
  within : l.n ≤ length l.after;
  found : with_front l.text l.n (text_from l.closing (drop l.n l.after)) ≡ text_from false l.after;
}

abbrev pub decreases-loop-n : goal.decreases-loop-n
decreases-loop-n l = length l.after - l.n
