use Rattle.gx_sig.proofs.Bits.{tested}
use Rattle.gx_sig.proofs.Sig.has.Goals as goal

pub returns : goal.returns
returns g c = rw (← c.self.view_is, ← c.bit-bit.ensures.value) (tested c.self.inside.bytes c.bit-bit.result)
