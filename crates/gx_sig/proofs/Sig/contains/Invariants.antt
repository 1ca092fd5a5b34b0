use Rattle.gx_sig.proofs.Bytes.{AreWithin}
use Rattle.gx_sig.proofs.Sig.contains.Given as goal

abbrev pub invariant-loop-k : goal.invariant-loop-k
invariant-loop-k g l = AreWithin l.self-inside.bytes l.other-inside.bytes l.k
