use Rattle.std.proofs.Common.{arith, refl}
use Rattle.gx_sig.proofs.Bits.{added, one_bit}
use Rattle.gx_sig.proofs.Sig.set.Goals as goal

pub returns-clause-bits : goal.returns-clause-bits
returns-clause-bits g c = λ b. rw (← c.self.view_is, ← c.bit-bit.ensures.value) (added c.self.inside.bytes c.bit-bit.result b (omega arith))

pub returns-clause-value : goal.returns-clause-value
returns-clause-value g c = rw (← c.self.view_is, ← c.bit-bit.ensures.value, one_bit (c.bit-bit.result)) refl
