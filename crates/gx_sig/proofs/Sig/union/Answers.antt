use Rattle.std.proofs.Common.{arith}
use Rattle.gx_sig.proofs.Bytes.{joined, joined_both}
use Rattle.gx_sig.proofs.Sig.union.Goals as goal

pub returns-clause-bits : goal.returns-clause-bits
returns-clause-bits g c = λ b. rw (← c.self.view_is, ← c.other.view_is)
    (joined c.self.inside.bytes c.other.inside.bytes c.loop-k.bytes g.row.N b c.self.told c.other.told c.loop-k.invariant.long
    (λ k h. c.loop-k.invariant.joined k (omega arith)))

pub returns-clause-value : goal.returns-clause-value
returns-clause-value g c = rw (← c.self.view_is, ← c.other.view_is)
    (joined_both c.self.inside.bytes c.other.inside.bytes c.loop-k.bytes g.row.N c.self.told c.other.told c.loop-k.invariant.long
    (λ k h. c.loop-k.invariant.joined k (omega arith)))
