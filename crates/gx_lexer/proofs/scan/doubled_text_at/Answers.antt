use Rattle.std.proofs.Common.{◌≡◌, refl, ◌<◌, ◌==◌, true, false, length, get_or, arith}
use Rattle.gx_lexer.specs.Tokens.{text_from}
use Rattle.gx_lexer.proofs.QuoteFacts.{goes_on}
use Rattle.gx_lexer.proofs.scan.doubled_text_at.Goals as goal
use Rattle.gx_lexer.proofs.scan.doubled_text_at.Goals.{else-closing-via-then-closing+else-byte-ne39, else-closing-via-else-closing}

pub loop-n-preserved : goal.loop-n-preserved
loop-n-preserved c =
    let b = get_or c.args.after.now c.loop-n.n 0 in
    let l : c.loop-n.n < length c.args.after.now = omega arith in
    let f : c.loop-n.closing ≡ true → (b == 39) ≡ true =
    λ e. elim c.else-closing.branch [
      | else-closing-via-then-closing+else-byte-ne39 w ↦ (let k : b ≡ 39 = omega arith in rw k refl)
      | else-closing-via-else-closing w ↦ (cc (w.if-closing.false))
    ] in
    record {
      within = omega arith;
      found = goes_on c.args.after.now c.loop-n.text c.goes_on.new.text c.loop-n.closing c.in_ok-closing.closing c.loop-n.n b (text_from false c.args.after.now)
          l refl f c.in_ok-closing.ensures.quote c.in_ok-closing.ensures.text c.loop-n.invariant.found;
    }
