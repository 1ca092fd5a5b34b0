-- What the refused beginnings rule out, and what the parsed number says.
use Rattle.std.proofs.Common.{refl, subst, sym, true≢false}
use Rattle.gx_inet.specs.Text.{HasPlainStart}
use Rattle.gx_inet.proofs.Masks.{plain_decimal, read_mask}
use Rattle.gx_inet.proofs.text.mask_of.Goals as goal

pub returns-then-not-has_plain_start : goal.returns-then-not-has_plain_start
returns-then-not-has_plain_start c = λ n small e.
    let start = subst HasPlainStart (sym c.as_bytes.ensures.value) (plain_decimal c.args.digits.now n small e) in
    true≢false (sym (c.if-not-has_plain_start.ensures.1 start))

pub returns : goal.returns
returns c =
    read_mask c.args.digits.now c.parse.result c.ok.result (rw c.as_bytes.ensures.value at (c.if-not-has_plain_start.ensures.0 refl)) c.parse.ensures.value.0 c.ok.ensures.value
