use Rattle.std.proofs.Common.{◌≡◌, length}
use Rattle.serde_json.specs.Data.{Members}
use Rattle.gx_json.specs.Tree.{members_data}
use Rattle.gx_json.specs.Steps.{joined, AreBelow, AreMembers}
use Rattle.gx_json.proofs.operators.sought.Given as goal

abbrev pub invariant-loop-rest : goal.invariant-loop-rest
invariant-loop-rest l =
    (before : Members) × (members_data l.pairs ≡ joined before (members_data l.rest)) × AreBelow before l.key × AreMembers (members_data l.rest)

abbrev pub decreases-loop-rest : goal.decreases-loop-rest
decreases-loop-rest l = length l.rest
