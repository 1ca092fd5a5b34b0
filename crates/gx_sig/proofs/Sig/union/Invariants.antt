use Rattle.std.proofs.Common.{length, ◌≡◌}
use Rattle.gx_sig.proofs.Bytes.{AreJoined}
use Rattle.gx_sig.proofs.Sig.union.Given as goal

abbrev pub invariant-loop-k : goal.invariant-loop-k
invariant-loop-k g l = record {
  joined : AreJoined l.self-inside.bytes l.other-inside.bytes l.bytes l.k;
  long : length l.bytes ≡ g.row.N;
}
