use Rattle.std.proofs.Common.{arith, sym}
use Rattle.class_tests.specs.ValidKeys.{tens}
use Rattle.class_tests.proofs.gist.a_cut_at_half.Goals as goal

pub picksplit-requires-clause-sizes : goal.picksplit-requires-clause-sizes
picksplit-requires-clause-sizes g c = rw c.in_ok-sizes.ensures (record {
  one_each = sym c.in_ok-keys.ensures.many;
  several = rw c.in_ok-keys.ensures.many (omega arith);
  small = tens;
  together = omega arith;
})
