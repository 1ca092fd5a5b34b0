use Rattle.std.proofs.Common.{◌≡◌, length}
use Rattle.gin_class_tests.proofs.candidates.flags_of.Given as goal

abbrev pub invariant-loop-at : goal.invariant-loop-at
invariant-loop-at l = length l.found.items ≡ l.at
