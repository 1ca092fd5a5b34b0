use Rattle.std.proofs.Common.{◌≡◌, ◌≤◌, ◌*◌}
use Rattle.gx_sig.specs.BitSets.{differing}
use Rattle.gx_sig.proofs.Sig.distance.Given as goal

abbrev pub invariant-loop-k : goal.invariant-loop-k
invariant-loop-k g l = record {
  counted : l.bits ≡ differing l.self-inside.bytes l.other-inside.bytes (8 * l.k);
  few : l.bits ≤ 8 * l.k;
}
