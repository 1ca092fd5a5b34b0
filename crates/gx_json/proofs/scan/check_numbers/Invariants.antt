use Rattle.std.proofs.Common.{length}
use Rattle.std.specs.List.{AllByRecursion}
use Rattle.gx_bytes.specs.declared.error.ValueError.{ValueError}
use Rattle.gx_json.specs.Scan.{runs, IsInteger, HasFirstFault}
use Rattle.gx_json.proofs.scan.check_numbers.Given as goal

abbrev pub invariant-runs : goal.invariant-runs
invariant-runs l =
    (AllByRecursion IsInteger (runs l.rest) → AllByRecursion IsInteger (runs l.plain))
    × ((fault : ValueError) → HasFirstFault (runs l.rest) fault → HasFirstFault (runs l.plain) fault)

abbrev pub decreases-runs : goal.decreases-runs
decreases-runs l = length l.rest
