use Rattle.std.proofs.Common.{◌≡◌, drop}
use Rattle.std.specs.List.{list_any}
use Rattle.gx_class_ltree.specs.Tests.{between, equal_may, prefixes}
use Rattle.gx_class_ltree.proofs.tests_of_paths.equal_may.Given as goal

abbrev pub invariant-loop-count : goal.invariant-loop-count
invariant-loop-count l = equal_may l.low l.high l.path ≡ list_any (between l.low l.high) (drop l.count (prefixes l.path))
