use Rattle.std.proofs.Common.{drop}
use Rattle.gx_target.proofs.PlaceFacts.{Asked}
use Rattle.gx_target.proofs.places.named_places.Given as goal

abbrev pub invariant-loop-name : goal.invariant-loop-name
invariant-loop-name l = Asked l.columns l.names l.places.items (drop l.name-index l.names)
