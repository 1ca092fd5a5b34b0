use Rattle.std.proofs.Common.{◌≡◌, take, true}
use Rattle.std.specs.List.{list_all}
use Rattle.gx_class_sets.specs.HstoreTests.{may_have_pair}
use Rattle.gx_class_sets.proofs.hstore_tests.has_pairs.Given as goal

abbrev pub invariant-loop-pair : goal.invariant-loop-pair
invariant-loop-pair g l = list_all (may_have_pair g.row.N l.key) (take l.pair-index l.pairs) ≡ true
