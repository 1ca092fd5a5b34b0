-- The digits.
use Rattle.std.proofs.Common.{◌<◌, arith}
use Rattle.gx_intarr.proofs.DigitLemmas.{takes_plain, none_plain}
use Rattle.gx_intarr.proofs.number.take_unsigned.Goals as goal

pub returns-then-digits-eq0 : goal.returns-then-digits-eq0
returns-then-digits-eq0 c = none_plain c.args.text.now c.digits_length-digits.result c.requires c.digits_length-digits.ensures.stops c.if-digits-eq0.true

pub returns : goal.returns
returns c =
    let some : 0 < c.digits_length-digits.result = omega arith in
    takes_plain c.args.text.now c.split_at.result.0.now c.split_at.result.1.now c.digits_length-digits.result c.digits_length-digits.ensures.within c.digits_length-digits.ensures.run c.digits_length-digits.ensures.stops some c.split_at.ensures.front c.split_at.ensures.back
