use Rattle.std.proofs.Common.{◌≡◌, ◌++◌, ◌∷◌, [], rules}
use Rattle.gx_target.proofs.PlaceFacts.{counted_more}
use Rattle.gx_target.proofs.places.all_places.Goals as goal

pub loop-place-preserved : goal.loop-place-preserved
loop-place-preserved c =
    let pushed : c.push.new.self.items ≡ c.loop-place.places.items ++ c.loop-place.place ∷ [] = search rules in
    counted_more c.args.columns.now c.loop-place.places.items c.push.new.self.items c.loop-place.place c.loop-place-test.true c.loop-place.invariant pushed
