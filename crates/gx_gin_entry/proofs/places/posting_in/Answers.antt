use Rattle.std.proofs.Common.{◌≡◌, ◌≢◌, ℕ, List}
use Rattle.gx_gin_entry.proofs.Stops.{between_none, when_false}
use Rattle.gx_gin_entry.proofs.places.posting_in.Goals as goal

pub returns-clause-found : goal.returns-clause-found
returns-clause-found c = λ list listed. between_none list c.args.key.now c.in-Some.place.slot (when_false c.in-Some.place.here _ _ c.if-place.false (c.in-Some.ensures.found list listed))
