use Rattle.std.proofs.Common.{take, drop}
use Rattle.gx_target.proofs.PlaceFacts.{Listed}
use Rattle.gx_target.proofs.places.distinct_places.Given as goal

abbrev pub invariant-loop-i : goal.invariant-loop-i
invariant-loop-i l = Listed l.columns l.names l.places.items (take l.i l.names) (drop l.i l.names)
