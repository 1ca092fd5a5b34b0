use Rattle.std.proofs.Common.{arith, rules, IsTrue, false}
use Rattle.gx_sig.proofs.Bytes.{within, byte_within}
use Rattle.gx_sig.proofs.Sig.contains.Goals as goal

no_true : IsTrue false → ⊥
no_true h = cc

pub returns-then-self-k : goal.returns-then-self-k
returns-then-self-k g c = (
  λ no. absurd (no_true no),
  λ all. absurd (c.if-self-k.true (byte_within c.self.inside.bytes c.other.inside.bytes c.loop-k.k (omega arith) (omega arith)
      (rw (← c.self.view_is, ← c.other.view_is) at all))),
)

pub returns : goal.returns
returns g c = rw (← c.self.view_is, ← c.other.view_is)
    (λ yes. within c.self.inside.bytes c.other.inside.bytes g.row.N c.other.told (λ k h. c.loop-k.invariant k (omega arith)), λ all. search rules)
