-- The mask that was read is the one that the text spells, and so is the family.
use Rattle.std.proofs.Common.{arith}
use Rattle.gx_inet.proofs.TextLemmas.{too_long}
use Rattle.gx_inet.proofs.text.with_mask.Goals as goal

pub returns-then-mask-width_of : goal.returns-then-mask-width_of
returns-then-mask-width_of c = λ inet s d within.
    too_long c.args.address.now c.args.digits.now inet.v6 c.in_ok-v6.v6 inet.address c.in_ok-v6.address inet.mask c.in_ok-mask.mask
    s c.in_ok-v6.ensures.0 (omega arith) d c.in_ok-mask.ensures within (omega (arith, c.width_of.ensures, c.if-mask-width_of.true))
