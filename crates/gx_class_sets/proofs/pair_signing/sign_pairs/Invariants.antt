use Rattle.std.proofs.Common.{◌≡◌, take}
use Rattle.gx_class_sets.specs.HstoreTests.{leaf_key}
use Rattle.gx_class_sets.proofs.pair_signing.sign_pairs.Given as goal

abbrev pub invariant-loop-pair : goal.invariant-loop-pair
invariant-loop-pair g l = l.sig ≡ leaf_key g.row.N (take l.pair-index l.pairs)
