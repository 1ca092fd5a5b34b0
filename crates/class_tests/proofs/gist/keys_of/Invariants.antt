use Rattle.std.proofs.Common.{◌≡◌, length}
use Rattle.class_tests.specs.ValidKeys.{AreKeys}
use Rattle.class_tests.proofs.gist.keys_of.Given as goal

abbrev pub invariant-loop-number : goal.invariant-loop-number
invariant-loop-number l = record {
  many : length l.keys ≡ l.number-index;
  valid : AreKeys l.keys;
}
