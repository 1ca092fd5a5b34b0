use Rattle.gx_target.proofs.PlaceFacts.{Counted}
use Rattle.gx_target.proofs.places.all_places.Given as goal

abbrev pub invariant-loop-place : goal.invariant-loop-place
invariant-loop-place l = Counted l.columns l.places.items l.place
